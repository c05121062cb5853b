use Rattle.std.proofs.Common.{arith}
use Rattle.thermostat.proofs.Laws.Step.{text_replied}
use Rattle.thermostat.proofs.report.report_text.Goals as goal

pub returns : goal.returns
returns c =
    let a = c.args in
    let w = text_replied a.own.number a.own.in_range.0 a.own.in_range.1 a.out.now (omega arith) a.texts.bytes.now a.start a.texts.allowed c.requires.start_value _ c.text.ensures _ _
    (c.write_text.ensures.result_value, c.write_text.ensures.out_after) in
    record { result_value = w.0; out_after = w.1 }
