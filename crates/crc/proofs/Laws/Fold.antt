-- The maps of the code, each of which keeps xor, and the computed tests that compare them on the powers of two with turns of the register.
-- Assumes nothing.
use mathlib.Core.Path.{◌≡◌, refl, sym, ap, ◌∙◌}
use mathlib.Core.Bool.{Bool, true, false, xor, cond}
use Prim.Native.Nat.{ℕ, ◌+◌, ◌*◌, ◌/◌, ◌%◌, ◌^◌, ◌<◌}
use native.Mathlib.Omega.{arith}
use lib.Bits.{bit_xor, xor_lt, xor_shifted}
use lib.Dec.{T, lit<}
use Rattle.crc.specs.Parts.{turns, parity, odd_part, even_part}
use Rattle.crc.proofs.Laws.Feed.{turns-xor, turns_shifted}
use Rattle.crc.proofs.Laws.Linear.{Linear, agree, same_below, linear_xor, linear_after, linear_none, linear_right, linear_low, linear_up, left, linear_left}
use Rattle.crc.proofs.Laws.Parts.{linear_turns, linear_odd, linear_even}
use Rattle.crc.proofs.Laws.Xor.{xor_past}

-- ---- `fold`: the same modulo x^15+x+1, its 28 lowest bits clear

unfoldable pub folded : ℕ → ℕ
folded s = bit_xor (bit_xor (left 34 (s / 2 ^ 34)) (left 30 s)) (left 30 s / 2 ^ 2)

linear_folded : Linear folded
unfolding folded
linear_folded =
    linear_xor (linear_xor (linear_after (linear_left 34) (linear_right 34)) (linear_left 30)) (linear_after (linear_right 2) (linear_left 30))

fold_agrees : T (agree (λ s. even_part (folded s)) even_part 64)
unfolding folded even_part odd_part xor
fold_agrees = tt

pub even_folded : (s : ℕ) → s < 2 ^ 64 → even_part (folded s) ≡ even_part s
even_folded = same_below (linear_after linear_even linear_folded) linear_even 64 fold_agrees

fold_clears : T (agree (λ s. folded s % 2 ^ 28) (λ s. 0) 64)
unfolding folded
fold_clears = tt

pub low-folded : (s : ℕ) → s < 2 ^ 64 → folded s % 2 ^ 28 ≡ 0
low-folded = same_below (linear_after (linear_low 28) linear_folded) linear_none 64 fold_clears

-- ---- `advance`: such a word, turned 64 times more

unfoldable pub advanced : ℕ → ℕ
advanced g = bit_xor (g / 2 ^ 8) (g / 2 ^ 4)

linear_advanced : Linear advanced
unfolding advanced
linear_advanced = linear_xor (linear_right 8) (linear_right 4)

advance_agrees : T (agree (λ q. even_part (advanced (q * 2 ^ 28))) (λ q. turns 64 (even_part (q * 2 ^ 28))) 36)
unfolding advanced even_part odd_part xor
advance_agrees = tt

pub even_advanced : (q : ℕ) → q < 2 ^ 36 → even_part (advanced (q * 2 ^ 28)) ≡ turns 64 (even_part (q * 2 ^ 28))
even_advanced =
    same_below (linear_after linear_even (linear_after linear_advanced (linear_up 28)))
    (linear_after (linear_turns 64) (linear_after linear_even (linear_up 28))) 36 advance_agrees

-- ---- `finish` and `reduce`: the 36 bits of such a word to 28, and 28 to 16

unfoldable pub narrowed : ℕ → ℕ
narrowed q = bit_xor (bit_xor (q / 2 ^ 8) (left 6 (q % 2 ^ 8))) (left 7 (q % 2 ^ 8))

linear_narrowed : Linear narrowed
unfolding narrowed
linear_narrowed =
    linear_xor (linear_xor (linear_right 8) (linear_after (linear_left 6) (linear_low 8))) (linear_after (linear_left 7) (linear_low 8))

narrow_agrees : T (agree (λ q. even_part (narrowed q * 2 ^ 36)) (λ q. even_part (q * 2 ^ 28)) 36)
unfolding narrowed even_part odd_part xor
narrow_agrees = tt

pub even_narrowed : (q : ℕ) → q < 2 ^ 36 → even_part (narrowed q * 2 ^ 36) ≡ even_part (q * 2 ^ 28)
even_narrowed =
    same_below (linear_after linear_even (linear_after (linear_up 36) linear_narrowed)) (linear_after linear_even (linear_up 28)) 36 narrow_agrees

pub narrowed_lt : (q : ℕ) → q < 2 ^ 36 → narrowed q < 2 ^ 28
unfolding narrowed
narrowed_lt q h =
    xor_lt 28 (bit_xor (q / 2 ^ 8) (left 6 (q % 2 ^ 8))) (left 7 (q % 2 ^ 8))
    (xor_lt 28 (q / 2 ^ 8) (left 6 (q % 2 ^ 8)) (omega arith) (omega arith)) (omega arith)

unfoldable pub reduced : ℕ → ℕ
reduced n = bit_xor (bit_xor (bit_xor (n / 2 ^ 14) (left 1 (n / 2 ^ 14))) (n % 2 ^ 14)) (left 2 (n % 2 ^ 14))

linear_reduced : Linear reduced
unfolding reduced
linear_reduced =
    linear_xor
    (linear_xor (linear_xor (linear_right 14) (linear_after (linear_left 1) (linear_right 14))) (linear_low 14))
    (linear_after (linear_left 2) (linear_low 14))

reduce_agrees : T (agree reduced (λ n. even_part (n * 2 ^ 36)) 28)
unfolding reduced even_part odd_part xor
reduce_agrees = tt

pub even_reduced : (n : ℕ) → n < 2 ^ 28 → reduced n ≡ even_part (n * 2 ^ 36)
even_reduced = same_below linear_reduced (linear_after linear_even (linear_up 36)) 28 reduce_agrees

-- ---- `of_01_and`: a byte, and 01 before it

unfoldable byte : ℕ → ℕ
byte n = bit_xor (bit_xor (odd_part n) (left 6 n)) (left 7 n)

linear_byte : Linear byte
unfolding byte
linear_byte = linear_xor (linear_xor linear_odd (linear_left 6)) (linear_left 7)

byte_agrees : T (agree byte (turns 8) 8)
unfolding byte odd_part xor
byte_agrees = tt

pub byte_turned : (n : ℕ) → n < 2 ^ 8 → bit_xor (bit_xor (cond (parity 64 n) 0x5000 0x9001) (left 6 n)) (left 7 n) ≡ turns 16 (1 + 2 ^ 8 * n)
unfolding byte odd_part
byte_turned n h =
    let e : n * 2 ^ 8 + 1 ≡ 1 + 2 ^ 8 * n = omega arith in
    ap (λ (m : ℕ). bit_xor (bit_xor m (left 6 n)) (left 7 n)) (by (parity 64 n))
    ∙ ap (λ (m : ℕ). bit_xor m (left 7 n)) (xor_past (odd_part n) 0x9001 (left 6 n))
    ∙ xor_past (bit_xor (odd_part n) (left 6 n)) 0x9001 (left 7 n)
    ∙ ap (λ (m : ℕ). bit_xor m 0x9001) (same_below linear_byte (linear_turns 8) 8 byte_agrees n h ∙ ap (turns 8) (sym (turns_shifted 8 n)))
    ∙ sym (turns-xor 16 (n * 2 ^ 8) 1)
    ∙ ap (turns 16) (xor_shifted n 8 1 (lit< tt) ∙ e)
  where
    by : (b : Bool) → cond b 0x5000 0x9001 ≡ bit_xor (cond b 0xC001 0) 0x9001
    by true = refl
    by false = refl
