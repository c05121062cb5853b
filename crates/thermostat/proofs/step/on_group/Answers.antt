use Rattle.std.proofs.Common.{sym, ◌∙◌}
use Rattle.omnistat.specs.Message.{poll_group}
use Rattle.omnistat.specs.Omnistat.{counted}
use Rattle.thermostat.specs.Step.{register_reply}
use Rattle.thermostat.proofs.Laws.Step.{silent, answers}
use Rattle.thermostat.proofs.step.on_group.Goals as goal

pub returns-then-not-is_answered : goal.returns-then-not-is_answered
returns-then-not-is_answered c =
    let a = c.args in
    let w = silent a.own.number a.first (counted (register_reply a.map.now (poll_group a.group))) a.out.now (sym c.is_answered.ensures ∙ c.if-not-is_answered.true) in
    record { result_value = w.0; out_after = w.1 }

pub returns : goal.returns
returns c =
    let a = c.args in
    let w = answers a.own.number a.first (counted (register_reply a.map.now (poll_group a.group))) a.out.now (sym c.is_answered.ensures ∙ c.if-not-is_answered.false) _ _
    (c.report_group.ensures.result_value, c.report_group.ensures.out_after) in
    record { result_value = w.0; out_after = w.1 }
