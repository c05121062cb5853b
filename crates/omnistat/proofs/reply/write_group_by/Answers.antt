use mathlib.Core.Path.{sym, ap, ◌∙◌, subst}
use mathlib.Core.Bool.{not}
use Prim.Native.Nat.{ℕ, ◌<◌}
use Rattle.answer.specs.Answer.{Outcome, accepted, refuse_if, on_accepted, and_then, number_of}
use Rattle.answer.proofs.Laws.Test.{then_accepted}
use Rattle.omnistat.specs.declared.frame.End.TheVariants.{Host}
use Rattle.omnistat.specs.Group.{reply_type}
use Rattle.omnistat.specs.Message.{Known, as_message_by, is_polled, group}
use Rattle.omnistat.specs.Omnistat.{counted, bytes_to, write_by}
use Rattle.omnistat.specs.Parts.{passed}
use Rattle.omnistat.specs.Answer.{known_in}
use Rattle.answer.proofs.Laws.Exit.{passed_up}
use Rattle.omnistat.proofs.Laws.Omnistat.{frame_fits, sent_in_steps}
use Rattle.omnistat.proofs.Laws.Output.{leaves_refused, leaves_same}
use Rattle.omnistat.proofs.reply.write_group_by.Goals as goal

pub write_to-requires : goal.write_to-requires
write_to-requires c =
    let a = c.args in
    let known : Known Host = known_in a.known in
    let kind = reply_type a.known.habit a.group in
    let values = c.args.values.now in
    let p =
    then_accepted (on_accepted passed (as_message_by Host known kind values)) (λ fit. refuse_if (not (is_polled Host known (group a.group values))) 8 (accepted fit)) tt
    (sym c.in_ok-check_group.ensures) in
    let fits = frame_fits Host known a.number kind values (sym p.1) in
    (subst (λ (n : ℕ). n < 16) (sym c.reply_type.ensures) fits.0, fits.1)

pub returns-in_err-check_group : goal.returns-in_err-check_group
returns-in_err-check_group c =
    let a = c.args in
    let known : Known Host = known_in a.known in
    let kind = reply_type a.known.habit a.group in
    let values = c.args.values.now in
    let w = leaves_refused a.out.now (write_by Host known a.number (counted (group a.group values))) (number_of c.in_err-check_group.field-0.0)
    (sent_in_steps Host known a.number kind values (is_polled Host known (group a.group values))
    ∙ ap (λ (o : Outcome (Unit {0})). and_then o (λ fit. bytes_to Host a.number kind values)) (sym c.in_err-check_group.ensures)) in
    record { result_value = passed_up _ _ c.from_residual.ensures.1 ∙ w.0; out_after = w.1 }

pub returns : goal.returns
returns c =
    let a = c.args in
    let known : Known Host = known_in a.known in
    let kind = reply_type a.known.habit a.group in
    let values = c.args.values.now in
    let w = leaves_same a.out.now (write_by Host known a.number (counted (group a.group values))) _ _ _
    (sent_in_steps Host known a.number kind values (is_polled Host known (group a.group values))
    ∙ ap (λ (o : Outcome (Unit {0})). and_then o (λ fit. bytes_to Host a.number kind values)) (sym c.in_ok-check_group.ensures)
    ∙ ap (λ (k : ℕ). bytes_to Host a.number k values) (sym c.reply_type.ensures))
    (c.write_to.ensures.result_value, c.write_to.ensures.out_after) in
    record { result_value = w.0; out_after = w.1 }
