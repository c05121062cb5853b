use mathlib.Core.Path.{ap, ◌∙◌}
use mathlib.Core.Bool.{Bool, not}
use mathlib.Core.List.{List, []}
use Prim.Native.Nat.{ℕ}
use Rattle.answer.specs.Answer.{Outcome, accepted, refuse_if, and_then}
use Rattle.omnistat.specs.declared.frame.End.TheVariants.{Host}
use Rattle.omnistat.specs.Message.{Known, is_polled, group}
use Rattle.omnistat.specs.declared.group.Group.{Group}
use Rattle.omnistat.specs.Answer.{known_in}
use Rattle.omnistat.proofs.Laws.Check.{length_checked, group-checked}
use Rattle.answer.proofs.Laws.Exit.{passed_up}
use Rattle.omnistat.proofs.Laws.Typed.{group_polled}
use Rattle.omnistat.proofs.reply.check_group.Goals as goal

abbrev decided : Known Host → Group → List ℕ → Outcome (Unit {0}) → Outcome (Unit {0})
decided known g values o = and_then o (λ fits. refuse_if (not (is_polled Host known (group g values))) 8 (accepted fits))

pub returns-in_err-check_length : goal.returns-in_err-check_length
returns-in_err-check_length c =
    let a = c.args in
    passed_up _ _ c.from_residual.ensures.1
    ∙ ap (decided (known_in a.known) a.group a.values.now)
    (c.in_err-check_length.ensures
    ∙ ap (λ (n : ℕ). length_checked n a.values.now) c.reply_length-count.ensures
    ∙ group-checked (known_in a.known) a.group c.carried.result a.values.now c.carried.ensures)

pub returns : goal.returns
returns c =
    let a = c.args in
    c.check_polled.ensures
    ∙ ap (λ (b : Bool). refuse_if (not b) 8 (accepted tt)) (group_polled (known_in a.known) a.group [] a.values.now)
    ∙ ap (decided (known_in a.known) a.group a.values.now)
    (c.in_ok-check_length.ensures
    ∙ ap (λ (n : ℕ). length_checked n a.values.now) c.reply_length-count.ensures
    ∙ group-checked (known_in a.known) _ c.carried.result a.values.now c.carried.ensures)
