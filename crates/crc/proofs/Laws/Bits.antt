-- Bit strings: what an outsider may check of them, and that bytes are told apart by their bits. Assumes nothing.
use mathlib.Core.Path.{◌≡◌, refl, sym, ap, ap₂, ◌∙◌}
use mathlib.Core.Bool.{Bool, false}
use mathlib.Core.List.{List, [], ◌∷◌, ◌++◌}
use Prim.Native.Nat.{ℕ, zero, suc, ◌+◌, ◌-◌, ◌*◌, ◌/◌, ◌%◌, ◌^◌, ◌<◌}
use native.Mathlib.Decide.{dec_lt}
use native.Mathlib.Nat.{div-add-mod', pow-suc}
use native.Mathlib.Numerals.{one-add}
use native.Mathlib.Omega.{arith}
use lib.Dec.{T, ltb, ltb→lt, lt→ltb}
use lib.Ieee.Fits.{and_i, and_l, and_r}
use lib.ListN.{length, get_or, take, drop, length-append, get_or-append}
use lib.Pow.{shr-shr, are_bytes}
use lib.Seq.{get_or-append-add}
use Rattle.answer.specs.Bit.{bit}
use Rattle.crc.specs.Bits.{bits_of, bit_string}
use Rattle.crc.proofs.Laws.Feed.{num}
use Rattle.crc.proofs.Laws.Xor.{low_bit}

pub bits_of-length : (k n : ℕ) → length (bits_of k n) ≡ k
bits_of-length zero n = refl
bits_of-length (suc k) n = ap suc (bits_of-length k (n / 2))

pub bit_string-length : (s : List ℕ) → length (bit_string s) ≡ 8 * length s
bit_string-length [] = refl
bit_string-length (b ∷ s) =
    length-append (bits_of 8 b) (bit_string s) ∙ ap (λ (n : ℕ). 8 + n) (bit_string-length s) ∙ omega arith

pub bit_string-append : (s t : List ℕ) → bit_string (s ++ t) ≡ bit_string s ++ bit_string t
bit_string-append [] t = refl
bit_string-append (b ∷ s) t = ap (λ (r : List Bool). bits_of 8 b ++ r) (bit_string-append s t)

-- bit k of a number is what k halvings leave, modulo 2
bit_of : (w n k : ℕ) → k < w → bit (get_or (bits_of w n) k false) ≡ n / 2 ^ k % 2
bit_of zero n k h = let z : ⊥ = omega arith in absurd z
bit_of (suc w) n zero h =
    let e : n ≡ n / 1 = omega arith in
    sym (low_bit n) ∙ ap (λ (m : ℕ). m % 2) e
bit_of (suc w) n (suc k) h =
    bit_of w (n / 2) k (omega arith)
    ∙ ap (λ (m : ℕ). m % 2) (shr-shr n 1 k ∙ ap (λ (j : ℕ). n / 2 ^ j) (one-add k))

-- bit k of a byte string is bit k % 8 of its byte k / 8
pub bit_at : (s : List ℕ) (k : ℕ) → k < 8 * length s → bit (get_or (bit_string s) k false) ≡ get_or s (k / 8) 0 / 2 ^ (k % 8) % 2
bit_at [] k h = let z : ⊥ = omega arith in absurd z
bit_at (b ∷ s) k h = by (λ j l. bit_at s j l) (dec_lt k 8)
  where
    near : k < 8 → bit (get_or (bit_string (b ∷ s)) k false) ≡ get_or (b ∷ s) (k / 8) 0 / 2 ^ (k % 8) % 2
    near l =
        let q : k / 8 ≡ 0 = omega arith in
        let m : k % 8 ≡ k = omega arith in
        ap bit (get_or-append (bits_of 8 b) (bit_string s) false k l)
        ∙ bit_of 8 b k l
        ∙ ap₂ (λ (i j : ℕ). get_or (b ∷ s) i 0 / 2 ^ j % 2) (sym q) (sym m)

    far : (j : ℕ) → k ≡ 8 + j → j < 8 * length s
        → bit (get_or (bit_string s) j false) ≡ get_or s (j / 8) 0 / 2 ^ (j % 8) % 2
        → bit (get_or (bit_string (b ∷ s)) k false) ≡ get_or (b ∷ s) (k / 8) 0 / 2 ^ (k % 8) % 2
    far j e l ih =
        let q : suc (j / 8) ≡ k / 8 = omega arith in
        let m : j % 8 ≡ k % 8 = omega arith in
        ap (λ (n : ℕ). bit (get_or (bit_string (b ∷ s)) n false)) e
        ∙ ap bit (get_or-append-add (bits_of 8 b) (bit_string s) j false)
        ∙ ih
        ∙ ap₂ (λ (i r : ℕ). get_or (b ∷ s) i 0 / 2 ^ r % 2) q m

    by : ((j : ℕ) → j < 8 * length s → bit (get_or (bit_string s) j false) ≡ get_or s (j / 8) 0 / 2 ^ (j % 8) % 2)
        → Dec (k < 8) → bit (get_or (bit_string (b ∷ s)) k false) ≡ get_or (b ∷ s) (k / 8) 0 / 2 ^ (k % 8) % 2
    by ih (yes l) = near l
    by ih (no g) =
        far (k - 8) (omega arith) (omega arith) (ih (k - 8) (omega arith))

-- the bits of a byte spell it
pub spelled : (k n : ℕ) → n < 2 ^ k → num (bits_of k n) ≡ n
spelled zero n h = omega arith
spelled (suc k) n h =
    ap₂ (λ (q r : ℕ). q * 2 + r) (spelled k (n / 2) (half_below k n h)) (sym (low_bit n)) ∙ div-add-mod' n 2
  where
    half_below : (k n : ℕ) → n < 2 ^ suc k → n / 2 < 2 ^ k
    half_below k n h = let e : n < 2 ^ k * 2 = rw pow-suc at h in omega arith

-- ---- byte strings

pub byte_at : (s : List ℕ) → T (are_bytes s) → (i : ℕ) → get_or s i 0 < 256
byte_at [] t i = omega arith
byte_at (b ∷ s) t zero = ltb→lt b 256 (and_l (ltb b 256) (are_bytes s) t)
byte_at (b ∷ s) t (suc i) = byte_at s (and_r (ltb b 256) (are_bytes s) t) i

pub are_bytes_lem : (s : List ℕ) → ((i : ℕ) → get_or s i 0 < 256) → T (are_bytes s)
are_bytes_lem [] small = tt
are_bytes_lem (b ∷ s) small = and_i (ltb b 256) (are_bytes s) (lt→ltb b 256 (small 0)) (are_bytes_lem s (λ i. small (suc i)))

pub drop_bytes : (n : ℕ) (s : List ℕ) → T (are_bytes s) → T (are_bytes (drop n s))
drop_bytes zero s t = t
drop_bytes (suc n) [] t = t
drop_bytes (suc n) (b ∷ s) t = drop_bytes n s (and_r (ltb b 256) (are_bytes s) t)

pub take_bytes : (n : ℕ) (s : List ℕ) → T (are_bytes s) → T (are_bytes (take n s))
take_bytes zero s t = tt
take_bytes (suc n) [] t = t
take_bytes (suc n) (b ∷ s) t =
    and_i (ltb b 256) (are_bytes (take n s)) (and_l (ltb b 256) (are_bytes s) t) (take_bytes n s (and_r (ltb b 256) (are_bytes s) t))
