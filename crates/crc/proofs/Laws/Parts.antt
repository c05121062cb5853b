-- The two parts of a number turned: each keeps xor, together they are the whole, and a word behind a string moves each; and the parity by a
-- count of ones. Assumes nothing.
use mathlib.Core.Path.{◌≡◌, refl, sym, ap, ap₂, ◌∙◌}
use mathlib.Core.Bool.{Bool, true, false, xor, cond}
use Prim.Native.Nat.{ℕ, zero, suc, ◌+◌, ◌*◌, ◌/◌, ◌%◌, ◌^◌, ◌<◌}
use native.Mathlib.Nat.{pow-suc}
use native.Mathlib.Omega.{arith}
use lib.Bits.{bit_xor, xor_lt, xor_self, xor_zero_r}
use lib.Count.{ones, ones_step}
use borrow.Author.Tests.{eq-eqb, ne_eqb}
use Rattle.answer.specs.Bit.{bit}
use Rattle.crc.specs.Bits.{odd}
use Rattle.crc.specs.Parts.{turns, parity, odd_part, even_part}
use Rattle.crc.proofs.Laws.Feed.{turns-xor, turns_below}
use Rattle.crc.proofs.Laws.Linear.{Linear, linear_xor}
use Rattle.crc.proofs.Laws.Parity.{parity-xor}
use Rattle.crc.proofs.Laws.Xor.{low_bit, xor_assoc, xor_swap}

pub linear_turns : (k : ℕ) → Linear (turns k)
linear_turns k = record { keeps = turns-xor k }

odd-bits : (a b : Bool) → cond (xor a b) 0xC001 0 ≡ bit_xor (cond a 0xC001 0) (cond b 0xC001 0)
unfolding xor
odd-bits true true = refl
odd-bits true false = refl
odd-bits false true = refl
odd-bits false false = refl

pub linear_odd : Linear odd_part
unfolding odd_part
linear_odd =
    record { keeps = λ a b. ap (λ (t : Bool). cond t 0xC001 0) (parity-xor 64 a b) ∙ odd-bits (parity 64 a) (parity 64 b) }

pub linear_even : Linear even_part
unfolding even_part
linear_even = linear_xor (linear_turns 64) linear_odd

-- the two parts make the whole
pub whole : (n : ℕ) → bit_xor (even_part n) (odd_part n) ≡ turns 64 n
unfolding even_part
whole n =
    xor_assoc (turns 64 n) (odd_part n) (odd_part n) ∙ ap (bit_xor (turns 64 n)) (xor_self (odd_part n)) ∙ xor_zero_r (turns 64 n)

odd_lt : (n : ℕ) → odd_part n < 2 ^ 16
unfolding odd_part
odd_lt n = by (parity 64 n)
  where
    by : (b : Bool) → cond b 0xC001 0 < 2 ^ 16
    by true = omega arith
    by false = omega arith

pub parts_lt : (n x : ℕ) → n < 2 ^ 64 → bit_xor (even_part n) (odd_part x) < 2 ^ 16
unfolding even_part
parts_lt n x h =
    xor_lt 16 (bit_xor (turns 64 n) (odd_part n)) (odd_part x) (xor_lt 16 (turns 64 n) (odd_part n) (turns_below 64 n (omega arith)) (odd_lt n)) (odd_lt x)

odd_turned : (n : ℕ) → turns 64 (odd_part n) ≡ odd_part n
unfolding odd_part
odd_turned n = by (parity 64 n)
  where
    by : (b : Bool) → turns 64 (cond b 0xC001 0) ≡ cond b 0xC001 0
    by true = refl
    by false = refl

-- a word behind a string whose parts are those of s and x
pub next_word : (s x w t : ℕ) → even_part t ≡ turns 64 (even_part s)
    → turns 64 (bit_xor (bit_xor (even_part s) (odd_part x)) w) ≡ bit_xor (even_part (bit_xor t w)) (odd_part (bit_xor x w))
next_word s x w t e =
    turns-xor 64 (bit_xor (even_part s) (odd_part x)) w
    ∙ ap₂ bit_xor (turns-xor 64 (even_part s) (odd_part x) ∙ ap₂ bit_xor (sym e) (odd_turned x)) (sym (whole w))
    ∙ xor_swap (even_part t) (odd_part x) (even_part w) (odd_part w)
    ∙ ap₂ bit_xor (sym (linear_even.keeps t w)) (sym (linear_odd.keeps x w))

-- the count of ones is odd where the parity is
count_bits : (p t : Bool) (n : ℕ) → n % 2 ≡ bit t → (bit p + n) % 2 ≡ bit (xor p t)
unfolding xor
count_bits true true n e = omega arith
count_bits true false n e = omega arith
count_bits false true n e = omega arith
count_bits false false n e = omega arith

counted : (k n : ℕ) → n < 2 ^ k → ones n % 2 ≡ bit (parity k n)
unfolding ones
counted zero n h = let none : n ≡ 0 = omega arith in ap (λ (m : ℕ). ones m % 2) none
counted (suc k) n h =
    let l : n < 2 ^ k * 2 = rw pow-suc at h in
    ap (λ (m : ℕ). m % 2) (ones_step n ∙ ap (λ (m : ℕ). m + ones (n / 2)) (low_bit n))
    ∙ count_bits (odd n) (parity k (n / 2)) (ones (n / 2)) (counted k (n / 2) (omega arith))

pub ones_parity : (n : ℕ) → n < 2 ^ 64 → odd (ones n) ≡ parity 64 n
ones_parity n h = by (parity 64 n) (counted 64 n h)
  where
    by : (b : Bool) → ones n % 2 ≡ bit b → odd (ones n) ≡ b
    by true e = eq-eqb (ones n % 2) 1 e
    by false e = ne_eqb (ones n % 2) 1 (omega arith)
