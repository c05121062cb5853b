use mathlib.Core.Path.{◌≡◌, sym, ◌∙◌}
use mathlib.Core.Bool.{true, false}
use lib.Seq.{slice}
use Rattle.x10.specs.Places.{are_places, start_code, starts_with}
use Rattle.x10.specs.Parts.{refused_key}
use Rattle.x10.proofs.parts.key_refusal.Goals as goal

pub returns-then-not-are_places : goal.returns-then-not-are_places
unfolding refused_key
returns-then-not-are_places c =
    let ps = c.args.places.now in
    let e : are_places (slice 0 22 ps) ≡ false = sym c.are_places.ensures ∙ c.if-not-are_places.true in
    sym (simp e)

pub returns-then-not-starts : goal.returns-then-not-starts
unfolding refused_key
returns-then-not-starts c =
    let ps = c.args.places.now in
    let e : are_places (slice 0 22 ps) ≡ true = sym c.are_places.ensures ∙ c.if-not-are_places.false in
    let t : starts_with start_code ps ≡ false = sym c.starts.ensures ∙ c.if-not-starts.true in
    sym (simp (e, t))

pub returns : goal.returns
unfolding refused_key
returns c =
    let ps = c.args.places.now in
    let e : are_places (slice 0 22 ps) ≡ true = sym c.are_places.ensures ∙ c.if-not-are_places.false in
    let t : starts_with start_code ps ≡ true = sym c.starts.ensures ∙ c.if-not-starts.false in
    sym (simp (e, t))
