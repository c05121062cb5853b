-- The distance theorem: two different strings that the CRC register takes to 0 differ as condition 3 says. Assumes nothing.
use mathlib.Core.Path.{◌≡◌, refl, sym, ap, ap₂, ◌∙◌}
use mathlib.Core.Bool.{Bool, true, false, xor}
use mathlib.Core.List.{List, [], ◌∷◌, ◌++◌}
use Prim.Native.Nat.{ℕ, suc, ◌+◌, ◌*◌, ◌%◌, ◌^◌, ◌<◌, ◌≤◌}
use native.Mathlib.Decide.{dec_lt}
use native.Mathlib.Omega.{arith}
use lib.Bits.{bit_xor, xor_self, xor_lt}
use lib.Dec.{T, ltb→lt, ltb}
use lib.Ieee.Fits.{and_l, and_r}
use lib.ListN.{length, take, drop}
use lib.Pow.{are_bytes}
use Rattle.answer.specs.Bit.{bit}
use Rattle.crc.specs.Bits.{bits_of, bit_string}
use Rattle.crc.specs.Crc.{crc, feed}
use Rattle.crc.specs.Places.{differences, places, Apart}
use Rattle.crc.specs.Parts.{turns}
use Rattle.crc.proofs.Laws.Bits.{spelled, bit_string-append}
use Rattle.crc.proofs.Laws.Feed.{num, turns-xor, turns_zero, turns_nonzero, feed-turns, feed-append, feed_below}
use Rattle.crc.proofs.Laws.Parity.{even_places}
use Rattle.crc.proofs.Laws.Wide.{wide_places, not_two}
use Rattle.crc.proofs.Laws.Xor.{half_digit, odd-digit, xor-digits, xor_zero}

-- the differences of two bit strings spell the xor of what the two spell
pub num-differences : (r s : List Bool) → length r ≡ length s → num (differences r s) ≡ bit_xor (num r) (num s)
num-differences [] [] e = refl
num-differences [] (b ∷ s) e = let z : ⊥ = omega arith in absurd z
num-differences (a ∷ r) [] e = let z : ⊥ = omega arith in absurd z
num-differences (a ∷ r) (b ∷ s) e =
    let shorter : length r ≡ length s = omega arith in
    ap (λ (n : ℕ). n * 2 + bit (xor a b)) (num-differences r s shorter)
    ∙ ap₂ (λ (n : ℕ) (t : Bool). n * 2 + bit t)
    (ap₂ bit_xor (sym (half_digit (num r) a)) (sym (half_digit (num s) b)))
    (ap₂ xor (sym (odd-digit (num r) a)) (sym (odd-digit (num s) b)))
    ∙ sym (xor-digits (num r * 2 + bit a) (num s * 2 + bit b))

length-differences : (r s : List Bool) → length r ≡ length s → length (differences r s) ≡ length r
length-differences [] s e = refl
length-differences (a ∷ r) [] e = let z : ⊥ = omega arith in absurd z
length-differences (a ∷ r) (b ∷ s) e = ap suc (length-differences r s (omega arith))

-- with no place they are the same
same_bit : (a b : Bool) → xor a b ≡ false → a ≡ b
unfolding xor
same_bit true true e = refl
same_bit true false e = e
same_bit false true e = sym e
same_bit false false e = refl

no_difference : (k : ℕ) (r s : List Bool) → length r ≡ length s → length (places k (differences r s)) ≡ 0 → r ≡ s
no_difference k [] [] e p = refl
no_difference k [] (b ∷ s) e p = let z : ⊥ = omega arith in absurd z
no_difference k (a ∷ r) [] e p = let z : ⊥ = omega arith in absurd z
no_difference k (a ∷ r) (b ∷ s) e p = by (λ q. no_difference (suc k) r s (omega arith) q) (xor a b) refl p
  where
    by : (length (places (suc k) (differences r s)) ≡ 0 → r ≡ s)
        → (t : Bool) → xor a b ≡ t → length (places k (t ∷ differences r s)) ≡ 0 → a ∷ r ≡ b ∷ s
    by ih true d q = let z : ⊥ = omega arith in absurd z
    by ih false d q = let h : a ≡ b = same_bit a b d in let t : r ≡ s = ih q in cc

module _ (r s : List Bool) (equal : length r ≡ length s) where
  taken : feed 0 r ≡ 0 → feed 0 s ≡ 0 → turns (length (differences r s)) (num (differences r s)) ≡ 0
  taken p q =
      ap₂ turns (length-differences r s equal) (num-differences r s equal)
      ∙ turns-xor (length r) (num r) (num s)
      ∙ ap₂ bit_xor (sym (feed-turns 0 r) ∙ p)
      (ap (λ (n : ℕ). turns n (num s)) equal ∙ sym (feed-turns 0 s) ∙ q)

  some : (r ≡ s → ⊥) → 0 < length (places 0 (differences r s))
  some other = by (dec_lt 0 (length (places 0 (differences r s))))
    where
      by : Dec (0 < length (places 0 (differences r s))) → 0 < length (places 0 (differences r s))
      by (yes h) = h
      by (no h) = absurd (other (no_difference 0 r s equal (omega arith)))

  -- the theorem on bit strings of at most 544 bits
  pub apart : length r ≤ 544 → feed 0 r ≡ 0 → feed 0 s ≡ 0 → (r ≡ s → ⊥) → Apart (places 0 (differences r s))
  apart l p q other =
      let zero-taken : turns (length (differences r s)) (num (differences r s)) ≡ 0 = taken p q in
      let even : length (places 0 (differences r s)) % 2 ≡ 0 = even_places 0 (differences r s) zero-taken in
      let any : 0 < length (places 0 (differences r s)) = some other in
      let same_length : length (differences r s) ≡ length r = length-differences r s equal in
      let short : length (differences r s) ≤ 544 = omega arith in
      let other-than-two : length (places 0 (differences r s)) ≡ 2 → ⊥ = not_two 0 (differences r s) zero-taken short in
      record { even = even; four = omega arith; wide = wide_places 0 (differences r s) zero-taken any }

-- bytes are told apart by their bits
pub same_bytes : (x y : List ℕ) → T (are_bytes x) → T (are_bytes y) → length x ≡ length y → bit_string x ≡ bit_string y → x ≡ y
same_bytes [] [] tx ty e p = refl
same_bytes [] (b ∷ y) tx ty e p = let z : ⊥ = omega arith in absurd z
same_bytes (a ∷ x) [] tx ty e p = let z : ⊥ = omega arith in absurd z
same_bytes (a ∷ x) (b ∷ y) tx ty e p =
    let head : a ≡ b =
    sym (spelled 8 a (ltb→lt a 256 (and_l (ltb a 256) (are_bytes x) tx)))
    ∙ ap (λ (bs : List Bool). num (take 8 bs)) p
    ∙ spelled 8 b (ltb→lt b 256 (and_l (ltb b 256) (are_bytes y) ty)) in
    let tail : x ≡ y =
    same_bytes x y (and_r (ltb a 256) (are_bytes x) tx) (and_r (ltb b 256) (are_bytes y) ty) (omega arith) (ap (drop 8) p) in
    cc

pub byte_then : (b : ℕ) (bs : List Bool) → num (bits_of 8 b ++ bs) ≡ num (bits_of 8 b) + 256 * num bs
byte_then b bs = omega arith

crc_below : (s : List ℕ) → crc s < 2 ^ 16
unfolding crc
crc_below s = feed_below 0 (bit_string s) (omega arith)

-- the register after a byte string and two bytes more: what the CRC differs by from these two, low byte first, turned
taken_on : (s : List ℕ) (lo hi : ℕ) → lo < 256 → hi < 256
    → feed 0 (bit_string (s ++ (lo ∷ hi ∷ []))) ≡ turns 16 (bit_xor (crc s) (lo + 256 * hi))
unfolding crc
taken_on s lo hi l h =
    ap (feed 0) (bit_string-append s (lo ∷ hi ∷ []))
    ∙ feed-append 0 (bit_string s) (bit_string (lo ∷ hi ∷ []))
    ∙ feed-turns (feed 0 (bit_string s)) (bit_string (lo ∷ hi ∷ []))
    ∙ ap (λ (n : ℕ). turns 16 (bit_xor (feed 0 (bit_string s)) n))
    (byte_then lo (bits_of 8 hi) ∙ ap₂ (λ (x y : ℕ). x + 256 * y) (spelled 8 lo l) (spelled 8 hi h))

-- a byte string followed by its CRC, low byte first, is taken to 0
pub residue : (s : List ℕ) (lo hi : ℕ) → lo < 256 → hi < 256 → lo + 256 * hi ≡ crc s
    → feed 0 (bit_string (s ++ (lo ∷ hi ∷ []))) ≡ 0
residue s lo hi l h e =
    taken_on s lo hi l h ∙ ap (λ (n : ℕ). turns 16 (bit_xor (crc s) n)) e ∙ ap (turns 16) (xor_self (crc s)) ∙ turns_zero 16

-- and followed by any other two bytes it is not
pub residue_only : (s : List ℕ) (lo hi : ℕ) → lo < 256 → hi < 256 → feed 0 (bit_string (s ++ (lo ∷ hi ∷ []))) ≡ 0
    → lo + 256 * hi ≡ crc s
residue_only s lo hi l h e =
    sym (xor_zero (crc s) (lo + 256 * hi)
    (turns_nonzero 16 (bit_xor (crc s) (lo + 256 * hi)) (xor_lt 16 (crc s) (lo + 256 * hi) (crc_below s) (omega arith))
    (sym (taken_on s lo hi l h) ∙ e)))
