-- Xor of numbers: its digits, and that it is associative. Assumes nothing.
use mathlib.Core.Path.{◌≡◌, refl, sym, ap, ap₂, ◌∙◌}
use mathlib.Core.Bool.{Bool, true, false, xor}
use Prim.Native.Nat.{ℕ, zero, suc, ◌+◌, ◌*◌, ◌/◌, ◌%◌, ◌<◌}
use native.Mathlib.Nat.{mod-lt, zero-lt-suc}
use native.Mathlib.Omega.{arith}
use lib.Arith.{bin_ind, digits_div}
use lib.Bits.{bit_xor, differ, xor_step, xor_comm, xor_zero_r, xor_self}
use lib.Dec.{eqb}
use borrow.Author.Tests.{eq-eqb, ne_eqb}
use Rattle.answer.specs.Bit.{bit}
use Rattle.crc.specs.Bits.{odd}

-- the lowest digit of a number is its lowest bit
go : (k : ℕ) → k < 2 → k ≡ bit (eqb k 1)
go zero h = refl
go (suc zero) h = refl
go (suc (suc k)) h = let z : ⊥ = omega arith in absurd z

pub low_bit : (n : ℕ) → n % 2 ≡ bit (odd n)
low_bit n = go (n % 2) (mod-lt n (zero-lt-suc 1))

pub differ_bits : (a b : Bool) → differ (bit a) (bit b) ≡ bit (xor a b)
unfolding xor
differ_bits true true = refl
differ_bits true false = refl
differ_bits false true = refl
differ_bits false false = refl

pub xor_false : (b : Bool) → xor false b ≡ b
unfolding xor
xor_false true = refl
xor_false false = refl

pub xor_assoc_bits : (a b c : Bool) → xor (xor a b) c ≡ xor a (xor b c)
unfolding xor
xor_assoc_bits true true true = refl
xor_assoc_bits true true false = refl
xor_assoc_bits true false true = refl
xor_assoc_bits true false false = refl
xor_assoc_bits false true true = refl
xor_assoc_bits false true false = refl
xor_assoc_bits false false true = refl
xor_assoc_bits false false false = refl

-- xor, its lowest digit written as a bit
pub xor-digits : (a b : ℕ) → bit_xor a b ≡ bit_xor (a / 2) (b / 2) * 2 + bit (xor (odd a) (odd b))
xor-digits a b =
    xor_step a b
    ∙ ap (λ (d : ℕ). bit_xor (a / 2) (b / 2) * 2 + d)
    (ap₂ differ (low_bit a) (low_bit b) ∙ differ_bits (odd a) (odd b))

bit_small : (b : Bool) → bit b < 2
bit_small true = omega arith
bit_small false = omega arith

pub odd-digit : (n : ℕ) (b : Bool) → odd (n * 2 + bit b) ≡ b
odd-digit n true = eq-eqb ((n * 2 + 1) % 2) 1 (omega arith)
odd-digit n false = ne_eqb ((n * 2 + 0) % 2) 1 (omega arith)

pub half_digit : (n : ℕ) (b : Bool) → (n * 2 + bit b) / 2 ≡ n
half_digit n b = digits_div n (bit_small b)

pub xor_half : (a b : ℕ) → bit_xor a b / 2 ≡ bit_xor (a / 2) (b / 2)
xor_half a b = ap (λ (n : ℕ). n / 2) (xor-digits a b) ∙ half_digit (bit_xor (a / 2) (b / 2)) (xor (odd a) (odd b))

pub xor-odd : (a b : ℕ) → odd (bit_xor a b) ≡ xor (odd a) (odd b)
xor-odd a b = ap odd (xor-digits a b) ∙ odd-digit (bit_xor (a / 2) (b / 2)) (xor (odd a) (odd b))

pub xor_assoc : (a b c : ℕ) → bit_xor (bit_xor a b) c ≡ bit_xor a (bit_xor b c)
xor_assoc =
    bin_ind (λ (a : ℕ). (b c : ℕ) → bit_xor (bit_xor a b) c ≡ bit_xor a (bit_xor b c)) (λ b c. refl)
    (λ a ih b c.
    xor-digits (bit_xor a b) c
    ∙ ap₂ (λ (h : ℕ) (t : Bool). bit_xor h (c / 2) * 2 + bit (xor t (odd c))) (xor_half a b) (xor-odd a b)
    ∙ ap₂ (λ (h : ℕ) (t : Bool). h * 2 + bit t) (ih (b / 2) (c / 2)) (xor_assoc_bits (odd a) (odd b) (odd c))
    ∙ ap₂ (λ (h : ℕ) (t : Bool). bit_xor (a / 2) h * 2 + bit (xor (odd a) t)) (sym (xor_half b c)) (sym (xor-odd b c))
    ∙ sym (xor-digits a (bit_xor b c)))

pub xor_past : (a b c : ℕ) → bit_xor (bit_xor a b) c ≡ bit_xor (bit_xor a c) b
xor_past a b c = xor_assoc a b c ∙ ap (bit_xor a) (xor_comm b c) ∙ sym (xor_assoc a c b)

-- two xors of pairs, regrouped
pub xor_swap : (a b c d : ℕ) → bit_xor (bit_xor a b) (bit_xor c d) ≡ bit_xor (bit_xor a c) (bit_xor b d)
xor_swap a b c d =
    xor_assoc a b (bit_xor c d)
    ∙ ap (bit_xor a) (sym (xor_assoc b c d) ∙ ap (λ (x : ℕ). bit_xor x d) (xor_comm b c) ∙ xor_assoc c b d)
    ∙ sym (xor_assoc a c (bit_xor b d))

-- a number is the other one where their xor is 0
pub xor_zero : (a b : ℕ) → bit_xor a b ≡ 0 → a ≡ b
xor_zero a b e =
    sym (xor_zero_r a)
    ∙ ap (bit_xor a) (sym (xor_self b))
    ∙ sym (xor_assoc a b b)
    ∙ ap (λ (x : ℕ). bit_xor x b) e
