use Rattle.std.proofs.Common.{arith, ◌≡◌, refl}
use Rattle.omnistat.specs.Message.{group}
use Rattle.omnistat.specs.declared.group.Group.TheVariants.{First, Second, Third}
use Rattle.thermostat.proofs.Laws.Step.{group_made, group_sends, replied}
use Rattle.thermostat.specs.Map.{content, contents}
use Rattle.thermostat.specs.Step.{registers_of}
use Rattle.thermostat.proofs.report.report_group.Goals as goal

pub returns-in-First : goal.returns-in-First
unfolding content
returns-in-First c =
    let a = c.args in
    let e : a.group ≡ First = cc in
    let q = group First (contents a.map.now (registers_of First)) in
    let call = c.write_group.ensures in
    let w = group_sends a.own.number a.map.now a.out.now a.group First e _ _
    (replied a.own.number a.own.in_range.0 a.own.in_range.1 a.out.now (omega arith) q q refl (group_made a.map.now First) _ _ (call.result_value, call.out_after)) in
    record { result_value = w.0; out_after = w.1 }

pub returns-in-Second : goal.returns-in-Second
unfolding content
returns-in-Second c =
    let a = c.args in
    let e : a.group ≡ Second = cc in
    let q = group Second (contents a.map.now (registers_of Second)) in
    let call = c.write_group-in-Second.ensures in
    let w = group_sends a.own.number a.map.now a.out.now a.group Second e _ _
    (replied a.own.number a.own.in_range.0 a.own.in_range.1 a.out.now (omega arith) q q refl (group_made a.map.now Second) _ _ (call.result_value, call.out_after)) in
    record { result_value = w.0; out_after = w.1 }

pub returns-in-Third : goal.returns-in-Third
unfolding content
returns-in-Third c =
    let a = c.args in
    let e : a.group ≡ Third = cc in
    let q = group Third (contents a.map.now (registers_of Third)) in
    let call = c.write_group-in-Third.ensures in
    let w = group_sends a.own.number a.map.now a.out.now a.group Third e _ _
    (replied a.own.number a.own.in_range.0 a.own.in_range.1 a.out.now (omega arith) q q refl (group_made a.map.now Third) _ _ (call.result_value, call.out_after)) in
    record { result_value = w.0; out_after = w.1 }
