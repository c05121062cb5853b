use Rattle.std.proofs.Common.{arith, rules, ◌≤◌, ◌+◌}
use Rattle.thermostat.proofs.Laws.Texts.{text_register, holds_each, count_most, count_at, text_at}
use Rattle.thermostat.proofs.texts.text.Goals as goal

pub slice_bounds-result-end : goal.slice_bounds-result-end
slice_bounds-result-end c =
    let a = c.args in
    let m = count_most a.texts.bytes.now a.r (holds_each a.texts.bytes.now a.texts.allowed a.r c.requires) in
    let h : c.place-at.result + 1 + c.from.result ≤ 610
    = omega (arith, m, text_register a.r c.requires, count_at a.texts.bytes.now a.r c.place-at.result c.place-at.ensures) in
    search rules

pub returns : goal.returns
returns c = grind (arith, c.place-at.ensures, text_at)
