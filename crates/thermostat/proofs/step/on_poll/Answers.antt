use Rattle.std.proofs.Common.{arith, sym, ◌∙◌}
use Rattle.omnistat.specs.Message.{poll}
use Rattle.omnistat.specs.Omnistat.{counted, text}
use Rattle.thermostat.specs.Step.{register_reply, text_reply, reply_to}
use Rattle.thermostat.proofs.Laws.Step.{silent, answers, sent_same, polls_text, polls_registers, polls_run}
use Rattle.thermostat.proofs.step.on_poll.Goals as goal

pub returns-then-not-is_answered : goal.returns-then-not-is_answered
returns-then-not-is_answered c =
    let a = c.args in
    let w = silent a.own.number a.first (reply_to a.map.now a.texts.bytes.now (counted (poll a.start a.count))) a.out.now (sym c.is_answered.ensures ∙ c.if-not-is_answered.true) in
    record { result_value = w.0; out_after = w.1 }

pub report_text-requires-clause-start_value : goal.report_text-requires-clause-start_value
report_text-requires-clause-start_value c = sym c.is_text.ensures ∙ c.if-is_text.true

pub returns-then-is_text : goal.returns-then-is_text
returns-then-is_text c =
    let a = c.args in
    let m = c.args.map.now in
    let texts = c.args.texts.bytes.now in
    let e = sym c.is_text.ensures ∙ c.if-is_text.true in
    let w = sent_same a.own.number a.first (reply_to m texts (counted (poll a.start a.count))) (text (text_reply texts a.start)) a.out.now (polls_text m texts a.start a.count e) _ _
    (answers a.own.number a.first (text (text_reply texts a.start)) a.out.now (sym c.is_answered.ensures ∙ c.if-not-is_answered.false) _ _
    (c.report_text.ensures.result_value, c.report_text.ensures.out_after)) in
    record { result_value = w.0; out_after = w.1 }

pub report-requires : goal.report-requires
report-requires c =
    let a = c.args in
    let r = polls_run a.map.now a.texts.bytes.now a.start a.count (sym c.is_text.ensures ∙ c.if-is_text.false) c.requires.count_value in
    record { in_bounds = omega (arith, c.requires.in_bounds); le_count = r.0; count_value = r.1 }

pub returns : goal.returns
returns c =
    let a = c.args in
    let m = c.args.map.now in
    let texts = c.args.texts.bytes.now in
    let q = counted (register_reply m (poll a.start a.count)) in
    let e = sym c.is_text.ensures ∙ c.if-is_text.false in
    let w = sent_same a.own.number a.first (reply_to m texts (counted (poll a.start a.count))) q a.out.now (polls_registers m texts a.start a.count e) _ _
    (answers a.own.number a.first q a.out.now (sym c.is_answered.ensures ∙ c.if-not-is_answered.false) _ _
    (c.report.ensures.result_value, c.report.ensures.out_after)) in
    record { result_value = w.0; out_after = w.1 }
