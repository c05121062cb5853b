use Rattle.std.proofs.Common.{arith, ℕ, ◌≤◌, ◌<◌, sym, ap, ◌∙◌}
use lib.Dec.{leb}
use borrow.Author.Tests.{lt-leb}
use Rattle.thermostat.proofs.Laws.Rules.{too_low, low_enough}
use Rattle.thermostat.specs.Parts.{low_of}
use Rattle.thermostat.proofs.registers.is_taken.Goals as goal

pub returns-then-low-v : goal.returns-then-low-v
returns-then-low-v c =
    let a = c.args in
    let l : low_of a.r ≤ a.v = omega arith in
    ap (λ (n : ℕ). leb a.v n) c.high.ensures ∙ sym (low_enough a.r a.v c.requires (λ e. omega (arith, e)) (λ e. omega (arith, e)) l)

pub returns-else-low-v : goal.returns-else-low-v
returns-else-low-v c =
    let a = c.args in
    let l : a.v < low_of a.r = omega arith in
    lt-leb c.low.result a.v c.if-low-v.false ∙ sym (too_low a.r a.v c.requires (λ e. omega (arith, e)) (λ e. omega (arith, e)) l)
