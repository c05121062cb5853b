use mathlib.Core.Path.{◌≡◌}
use Prim.Native.Nat.{ℕ, ◌*◌, ◌/◌, ◌%◌}
use native.Mathlib.Omega.{arith}
use Rattle.tally.specs.Cost.{power, millionths}
use Rattle.tally.proofs.Laws.Cost.{millionths_most}
use Rattle.tally.proofs.convert.Goals as goal

product : (word digits last : ℕ) → digits ≡ word % 10000 → last ≡ power (word / 10000) → digits * last ≡ millionths word
unfolding millionths
product word digits last d e = cc

pub overflow_mul-result : goal.overflow_mul-result
overflow_mul-result c =
    let word = c.args.word in
    record { fits = omega (arith, product word _ _ c.from.ensures c.power.ensures, millionths_most word) }

pub returns : goal.returns
returns c = product c.args.word _ _ c.from.ensures c.power.ensures
