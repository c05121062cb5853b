use Rattle.std.proofs.Common.{arith, rules, sym, ◌∙◌, ◌+◌, ◌-◌, ◌≤◌, take, drop}
use Rattle.omnistat.specs.Message.{negative, data_from}
use Rattle.thermostat.proofs.Laws.Step.{run_end, not_reported, reported, part_made, negative_made, replied}
use Rattle.thermostat.proofs.report.report.Goals as goal

pub are_listed-requires : goal.are_listed-requires
are_listed-requires c = run_end c.args.start c.args.count c.requires.count_value

pub returns-then-not-are_listed : goal.returns-then-not-are_listed
returns-then-not-are_listed c =
    let a = c.args in
    let d = sym c.are_listed.ensures ∙ c.if-not-are_listed.true in
    let k = not_reported a.map.now a.start a.count c.told-map c.requires.count_value d in
    let w = replied a.own.number a.own.in_range.0 a.own.in_range.1 a.out.now (omega arith) _ negative k negative_made _ _ (c.write_negative.ensures.result_value, c.write_negative.ensures.out_after) in
    record { result_value = w.0; out_after = w.1 }

pub slice_bounds-write_data-end : goal.slice_bounds-write_data-end
slice_bounds-write_data-end c =
    let h : c.args.start + c.args.count ≤ 256 = run_end c.args.start c.args.count c.requires.count_value in
    search rules

pub returns : goal.returns
returns c =
    let a = c.args in
    let m = c.args.map.now in
    let d = sym c.are_listed.ensures ∙ c.if-not-are_listed.false in
    let v = take (a.start + a.count - a.start) (drop a.start m) in
    let w = replied a.own.number a.own.in_range.0 a.own.in_range.1 a.out.now (omega arith) _ (data_from a.start v)
    (reported m a.start a.count c.told-map c.requires.count_value d) (part_made m a.start a.count c.told-map c.requires.count_value c.requires.le_count.0 c.requires.le_count.1) _ _
    (c.write_data.ensures.result_value, c.write_data.ensures.out_after) in
    record { result_value = w.0; out_after = w.1 }
