use mathlib.Core.Path.{◌≡◌, sym, ap, ◌∙◌}
use mathlib.Core.Bool.{true, false}
use lib.Seq.{slice}
use Rattle.std.proofs.lemmas.Slice.{between_is}
use Rattle.x10.specs.Places.{are_places}
use Rattle.x10.specs.Parts.{refused_rest}
use Rattle.x10.proofs.parts.rest_refusal.Goals as goal

pub returns-then-not-are_places : goal.returns-then-not-are_places
unfolding refused_rest
returns-then-not-are_places c =
    let e : are_places (slice 22 62 c.args.places.now) ≡ false = ap are_places (sym (between_is c.args.places.now 22 62)) ∙ sym c.are_places.ensures ∙ c.if-not-are_places.true in
    sym (simp e)

pub returns : goal.returns
unfolding refused_rest
returns c =
    let e : are_places (slice 22 62 c.args.places.now) ≡ true = ap are_places (sym (between_is c.args.places.now 22 62)) ∙ sym c.are_places.ensures ∙ c.if-not-are_places.false in
    sym (simp e)
