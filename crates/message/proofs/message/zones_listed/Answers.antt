use Prim.Native.Nat.{ℕ, ◌+◌, ◌*◌}
use lib.ListN.{get_or, drop}
use mathlib.Core.Bool.{Bool, true, false, ◌&&◌}
use mathlib.Core.Path.{◌≡◌, refl, sym, ap, ◌∙◌}
use native.Mathlib.Omega.{arith}
use borrow.Author.Tests.{not-false}
use Rattle.message.proofs.Laws.Lists.{zones-step, zones-end}
use Rattle.message.specs.Lists.{zones_listed, zone_listed}
use Rattle.message.proofs.message.zones_listed.Goals as goal

pub loop-i-preserved : goal.loop-i-preserved
loop-i-preserved c =
    let d = c.args.«data».now in
    let i = c.loop-i.i in
    let listed : zone_listed (get_or d (2 * i) 0) ≡ true = sym c.zone_listed.ensures ∙ c.if-not-zone_listed.false in
    let next : 2 * i + 2 ≡ 2 * (i + 1) = omega arith in
    c.loop-i.invariant
    ∙ zones-step d (2 * i) (omega arith)
    ∙ ap (λ (t : Bool). t && zones_listed (drop (2 * i + 2) d)) listed
    ∙ ap (λ (n : ℕ). zones_listed (drop n d)) next

pub returns-then-not-zone_listed : goal.returns-then-not-zone_listed
returns-then-not-zone_listed c =
    let d = c.args.«data».now in
    let i = c.loop-i.i in
    let not_listed : zone_listed (get_or d (2 * i) 0) ≡ false = sym c.zone_listed.ensures ∙ c.if-not-zone_listed.true in
    sym (c.loop-i.invariant
    ∙ zones-step d (2 * i) (omega arith)
    ∙ ap (λ (t : Bool). t && zones_listed (drop (2 * i + 2) d)) not_listed)

pub returns : goal.returns
returns c =
    let d = c.args.«data».now in
    sym (c.loop-i.invariant ∙ zones-end d (2 * c.loop-i.i) (omega arith))
