use mathlib.Core.Path.{sym, subst⁻¹, ◌∙◌}
use native.Mathlib.Omega.{arith}
use Rattle.listing.proofs.Laws.Frames.{judged_none, judged_some}
use Rattle.listing.proofs.Laws.Places.{quiet_none, quiet_more}
use Rattle.listing.specs.Parts.{Quiet}
use Rattle.listing.proofs.scan.next_frame.Goals as goal

pub loop-at-init : goal.loop-at-init
loop-at-init c = quiet_none c.args.bytes.now c.args.from c.requires.from_in_bounds

pub returns-in-Some : goal.returns-in-Some
returns-in-Some c =
    let s = c.args.bytes.now in
    let known = c.type_inv.bytes in
    let found = judged_some s c.loop-at.at c.in-Some.frame (λ i. omega (arith, known i)) (sym c.in-Some.is ∙ c.judge.ensures) in
    (subst⁻¹ (Quiet s c.args.from) found.0 c.loop-at.invariant, found.1)

pub loop-at-preserved : goal.loop-at-preserved
loop-at-preserved c =
    let a = c.args in
    quiet_more a.bytes.now a.from c.loop-at.at c.loop-at.invariant c.loop-at-test.true
    (judged_none a.bytes.now c.loop-at.at (sym c.in_default.is ∙ c.judge.ensures))
