use Rattle.std.proofs.Common.{arith}
use Rattle.omnistat.specs.Message.{acknowledge, negative}
use Rattle.thermostat.proofs.Laws.Step.{chosen, not_chosen, acknowledge_made, negative_made, replied}
use Rattle.thermostat.proofs.report.confirm.Goals as goal

pub returns-then-taken : goal.returns-then-taken
returns-then-taken c =
    let a = c.args in
    let k = chosen a.taken acknowledge negative c.if-taken.true in
    let w = replied a.own.number a.own.in_range.0 a.own.in_range.1 a.out.now (omega arith) _ acknowledge k acknowledge_made _ _ (c.write_acknowledge.ensures.result_value, c.write_acknowledge.ensures.out_after) in
    record { result_value = w.0; out_after = w.1 }

pub returns : goal.returns
returns c =
    let a = c.args in
    let k = not_chosen a.taken acknowledge negative c.if-taken.false in
    let w = replied a.own.number a.own.in_range.0 a.own.in_range.1 a.out.now (omega arith) _ negative k negative_made _ _ (c.write_negative.ensures.result_value, c.write_negative.ensures.out_after) in
    record { result_value = w.0; out_after = w.1 }
