use Prim.Native.Nat.{ℕ, ◌*◌, ◌/◌, ◌^◌, ◌<◌}
use lib.Bits.{bit_xor}
use mathlib.Core.Path.{◌≡◌, sym, ap, ap₂, ◌∙◌, subst}
use native.Mathlib.Omega.{arith}
use Rattle.crc.proofs.Laws.Fold.{narrowed, narrowed_lt, even_narrowed}
use Rattle.crc.proofs.Laws.Parts.{parts_lt}
use Rattle.crc.specs.Parts.{even_part, odd_part}
use Rattle.crc.proofs.fold.finish.Goals as goal

pub reduce-requires : goal.reduce-requires
unfolding narrowed
reduce-requires c = narrowed_lt (c.fold-folded.result / 2 ^ 28) (omega arith)

pub returns : goal.returns
unfolding narrowed odd_part
returns c =
    let word = c.fold-folded.result in
    let e : word / 2 ^ 28 * 2 ^ 28 ≡ word = omega arith in
    ap₂ bit_xor
    (c.reduce.ensures
    ∙ even_narrowed (word / 2 ^ 28) (omega arith)
    ∙ ap even_part e
    ∙ c.fold-folded.ensures.0)
    c.by_parity.ensures

pub overflow_cast-result : goal.overflow_cast-result
overflow_cast-result c =
    let a = c.args in
    record { fits = subst (λ (r : ℕ). r < 2 ^ 16) (sym (returns c)) (parts_lt a.s a.all (omega arith)) }
