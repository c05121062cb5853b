use mathlib.Core.List.{[]}
use mathlib.Core.Path.{◌≡◌, ◌∙◌}
use Rattle.answer.specs.Answer.{accepted, on_accepted, number_of}
use Rattle.omnistat.specs.declared.frame.End.TheVariants.{Thermostat}
use Rattle.omnistat.specs.Message.{as_message_by}
use Rattle.omnistat.specs.Omnistat.{write_bytes_by}
use Rattle.omnistat.specs.Parts.{passed}
use Rattle.omnistat.proofs.Laws.Omnistat.{write-refused, frame_fits, write_checked}
use Rattle.omnistat.proofs.Laws.Output.{leaves_refused, leaves_same}
use Rattle.answer.proofs.Laws.Exit.{passed_up}
use Rattle.omnistat.proofs.Laws.Check.{whether}
use Rattle.omnistat.proofs.request.write.Goals as goal

pub write_to-requires : goal.write_to-requires
write_to-requires c =
    let went_on : let a = c.args in
    accepted tt ≡ on_accepted passed (as_message_by Thermostat tt a.kind a.payload.now) = whether _ _ _ (c.in_ok-as_request.ensures []) in
    let a = c.args in
    frame_fits Thermostat tt a.address a.kind a.payload.now went_on

pub returns-in_err-as_request : goal.returns-in_err-as_request
returns-in_err-as_request c =
    let a = c.args in
    let w = leaves_refused a.out.now (write_bytes_by Thermostat tt a.address a.kind a.payload.now) (number_of c.in_err-as_request.field-0.0)
    (write-refused Thermostat tt a.address a.kind a.payload.now (number_of c.in_err-as_request.field-0.0)
    (whether _ _ _ (c.in_err-as_request.ensures []))) in
    record { result_value = passed_up _ _ c.from_residual.ensures.1 ∙ w.0; out_after = w.1 }

pub returns : goal.returns
returns c =
    let went_on : let a = c.args in
    accepted tt ≡ on_accepted passed (as_message_by Thermostat tt a.kind a.payload.now) = whether _ _ _ (c.in_ok-as_request.ensures []) in
    let a = c.args in
    let w = leaves_same a.out.now (write_bytes_by Thermostat tt a.address a.kind a.payload.now) _ _ _
    (write_checked Thermostat tt a.address a.kind a.payload.now went_on)
    (c.write_to.ensures.result_value, c.write_to.ensures.out_after) in
    record { result_value = w.0; out_after = w.1 }
