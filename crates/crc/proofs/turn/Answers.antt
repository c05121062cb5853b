use Prim.Native.Nat.{ℕ, ◌*◌, ◌/◌, ◌%◌}
use lib.Bits.{bit_xor, xor_zero_r}
use mathlib.Core.Path.{◌≡◌, sym, ap, ◌∙◌}
use native.Mathlib.Omega.{arith}
use Rattle.crc.proofs.turn.Goals as goal

pub returns-then-r-eq1 : goal.returns-then-r-eq1
returns-then-r-eq1 c =
    let r = c.args.r in
    let one : 1 ≡ r % 2 = sym c.if-r-eq1.true in
    ap (λ (t : ℕ). bit_xor (r / 2) (t * 0xA001)) one

pub returns : goal.returns
returns c =
    let r = c.args.r in
    let none : 0 ≡ r % 2 = omega (arith, c.if-r-eq1.false) in
    sym (xor_zero_r (r / 2)) ∙ ap (λ (t : ℕ). bit_xor (r / 2) (t * 0xA001)) none
