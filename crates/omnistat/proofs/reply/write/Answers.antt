use mathlib.Core.List.{[]}
use mathlib.Core.Path.{◌≡◌, ◌∙◌}
use Rattle.answer.specs.Answer.{accepted, on_accepted, number_of}
use Rattle.omnistat.specs.declared.frame.End.TheVariants.{Host}
use Rattle.omnistat.specs.Message.{Known, as_message_by}
use Rattle.omnistat.specs.Omnistat.{write_bytes_by}
use Rattle.omnistat.specs.Parts.{passed}
use Rattle.omnistat.specs.Answer.{known_in}
use Rattle.omnistat.proofs.Laws.Omnistat.{write-refused, frame_fits, write_checked}
use Rattle.omnistat.proofs.Laws.Output.{leaves_refused, leaves_same}
use Rattle.answer.proofs.Laws.Exit.{passed_up}
use Rattle.omnistat.proofs.Laws.Check.{whether}
use Rattle.omnistat.proofs.reply.write.Goals as goal

pub write_to-requires : goal.write_to-requires
write_to-requires c =
    let went_on : let a = c.args in
    accepted tt ≡ on_accepted passed (as_message_by Host (known_in a.known) a.kind a.payload.now) = whether _ _ _ (c.in_ok-as_reply.ensures []) in
    let a = c.args in
    frame_fits Host (known_in a.known) a.number a.kind a.payload.now went_on

pub returns-in_err-as_reply : goal.returns-in_err-as_reply
returns-in_err-as_reply c =
    let a = c.args in
    let known : Known Host = known_in a.known in
    let w = leaves_refused a.out.now (write_bytes_by Host known a.number a.kind a.payload.now) (number_of c.in_err-as_reply.field-0.0)
    (write-refused Host known a.number a.kind a.payload.now (number_of c.in_err-as_reply.field-0.0)
    (whether _ _ _ (c.in_err-as_reply.ensures []))) in
    record { result_value = passed_up _ _ c.from_residual.ensures.1 ∙ w.0; out_after = w.1 }

pub returns : goal.returns
returns c =
    let went_on : let a = c.args in
    accepted tt ≡ on_accepted passed (as_message_by Host (known_in a.known) a.kind a.payload.now) = whether _ _ _ (c.in_ok-as_reply.ensures []) in
    let a = c.args in
    let known : Known Host = known_in a.known in
    let w = leaves_same a.out.now (write_bytes_by Host known a.number a.kind a.payload.now) _ _ _
    (write_checked Host known a.number a.kind a.payload.now went_on)
    (c.write_to.ensures.result_value, c.write_to.ensures.out_after) in
    record { result_value = w.0; out_after = w.1 }
