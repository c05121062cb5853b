-- Bytes as words, and the CRC of some bytes more. Assumes nothing.
use mathlib.Core.Path.{◌≡◌, refl, sym, ap, ap₂, ◌∙◌}
use mathlib.Core.List.{List, [], ◌∷◌}
use Prim.Native.Nat.{ℕ, zero, suc, ◌+◌, ◌-◌, ◌*◌, ◌/◌, ◌^◌, ◌<◌, ◌≤◌}
use native.Mathlib.Nat.{add-suc, add-zero, suc-add, zero-add, add-mul, mul_assoc, mul_comm, mul-div_cancel}
use native.Mathlib.Numerals.{add-one}
use native.Mathlib.Omega.{arith}
use lib.Bits.{bit_xor, xor_comm, xor_zero_r, xor_shifted}
use lib.ListN.{length, get_or, take}
use lib.Seq.{take-suc, get_or-take, length-take-le}
use lib.Pow.{pow-add, pow_pos}
use Rattle.std.specs.Int.{w32, w64, from_le_bytes}
use Rattle.crc.specs.Bits.{bits_of, bit_string}
use Rattle.crc.specs.Crc.{feed, crc}
use Rattle.crc.specs.Parts.{word, turns, even_part, odd_part}
use Rattle.crc.proofs.Laws.Bits.{spelled, bit_string-append}
use Rattle.crc.proofs.Laws.Feed.{feed-turns, feed-append, turns-xor, turns-add, turns_shifted}
use Rattle.crc.proofs.Laws.Parts.{next_word}
use Rattle.crc.proofs.Laws.Xor.{xor_assoc}

-- the CRC of one byte more
crc_next : (s : List ℕ) (i : ℕ) → i < length s → feed (crc (take i s)) (bits_of 8 (get_or s i 0)) ≡ crc (take (i + 1) s)
unfolding crc
crc_next s i h =
    sym (feed-append 0 (bit_string (take i s)) (bits_of 8 (get_or s i 0)))
    ∙ ap (feed 0) (sym (bit_string-append (take i s) (get_or s i 0 ∷ [])))
    ∙ ap (λ (l : List ℕ). feed 0 (bit_string l)) (sym (take-suc s i 0 h) ∙ ap (λ (n : ℕ). take n s) (sym (add-one i)))

module _ (s : List ℕ) (bytes : (j : ℕ) → get_or s j 0 < 256) where
  -- the CRC of k bytes more
  crc_more : (k i : ℕ) → i + k ≤ length s → crc (take (i + k) s) ≡ turns (8 * k) (bit_xor (crc (take i s)) (word k s i))
  unfolding word
  crc_more zero i h = ap (λ (n : ℕ). crc (take n s)) (add-zero i) ∙ sym (xor_zero_r (crc (take i s)))
  crc_more (suc k) i h =
      let b = get_or s i 0 in
      let w = word k s (suc i) in
      let r = crc (take i s) in
      let e : 8 + 8 * k ≡ 8 * suc k = omega arith in
      let sum : bit_xor b (w * 256) ≡ b + 256 * w = xor_comm b (w * 256) ∙ xor_shifted w 8 b (bytes i) ∙ omega arith in
      ap (λ (n : ℕ). crc (take n s)) (add-suc i k ∙ sym (suc-add i k))
      ∙ crc_more k (suc i) (omega arith)
      ∙ ap (turns (8 * k))
      (ap₂ bit_xor
      (ap (λ (n : ℕ). crc (take n s)) (sym (add-one i))
      ∙ sym (crc_next s i (omega arith))
      ∙ feed-turns r (bits_of 8 b)
      ∙ ap (λ (n : ℕ). turns 8 (bit_xor r n)) (spelled 8 b (bytes i)))
      (sym (turns_shifted 8 w))
      ∙ sym (turns-xor 8 (bit_xor r b) (w * 256))
      ∙ ap (turns 8) (xor_assoc r b (w * 256) ∙ ap (bit_xor r) sum))
      ∙ sym (turns-add 8 (8 * k) (bit_xor r (b + 256 * w)))
      ∙ ap (λ (n : ℕ). turns n (bit_xor r (b + 256 * w))) e

  -- the CRC of the first k bytes, and of those as the highest of a word
  crc_first : (k : ℕ) → k ≤ length s → crc (take k s) ≡ turns (8 * k) (word k s 0)
  unfolding crc feed
  crc_first k h = ap (λ (n : ℕ). crc (take n s)) (sym (zero-add k)) ∙ crc_more k 0 (omega arith)

  pub crc_head : (k : ℕ) → k ≤ 8 → k ≤ length s → turns 64 (word k s 0 * 2 ^ (64 - 8 * k)) ≡ crc (take k s)
  crc_head k h l =
      let e : 64 ≡ (64 - 8 * k) + 8 * k = omega arith in
      ap (λ (n : ℕ). turns n (word k s 0 * 2 ^ (64 - 8 * k))) e
      ∙ turns-add (64 - 8 * k) (8 * k) (word k s 0 * 2 ^ (64 - 8 * k))
      ∙ ap (turns (8 * k)) (turns_shifted (64 - 8 * k) (word k s 0))
      ∙ sym (crc_first k l)

  -- the CRC of a word more, by the two parts
  pub crc-word : (i p x t : ℕ) → i + 8 ≤ length s → crc (take i s) ≡ bit_xor (even_part p) (odd_part x)
      → even_part t ≡ turns 64 (even_part p)
      → crc (take (i + 8) s) ≡ bit_xor (even_part (bit_xor t (word 8 s i))) (odd_part (bit_xor x (word 8 s i)))
  crc-word i p x t h e f =
      crc_more 8 i h
      ∙ ap (λ (r : ℕ). turns 64 (bit_xor r (word 8 s i))) e
      ∙ next_word p x (word 8 s i) t f

-- the CRC of two bytes
pub crc_two : (a b : ℕ) → a < 256 → b < 256 → turns 16 (a + 2 ^ 8 * b) ≡ crc (a ∷ b ∷ [])
unfolding word
crc_two a b l h =
    let e : a + 2 ^ 8 * b ≡ word 2 (a ∷ b ∷ []) 0 = omega arith in
    ap (turns 16) e ∙ sym (crc_first (a ∷ b ∷ []) bytes 2 (omega arith))
  where
    bytes : (j : ℕ) → get_or (a ∷ b ∷ []) j 0 < 256
    bytes zero = l
    bytes (suc zero) = h
    bytes (suc (suc j)) = omega arith

pub two_bytes : (s : List ℕ) → length s ≡ 2 → s ≡ get_or s 0 0 ∷ get_or s 1 0 ∷ []
two_bytes [] e = let z : ⊥ = omega arith in absurd z
two_bytes (a ∷ []) e = let z : ⊥ = omega arith in absurd z
two_bytes (a ∷ (b ∷ [])) e = refl
two_bytes (a ∷ (b ∷ (c ∷ s))) e = let z : ⊥ = omega arith in absurd z

-- words of one byte and of two, and words side by side
pub word_one : (s : List ℕ) (i : ℕ) → word 1 s i ≡ get_or s i 0
unfolding word
word_one s i = omega arith

pub word_two : (s : List ℕ) (i : ℕ) → get_or s i 0 + get_or s (i + 1) 0 * 256 ≡ word 2 s i
unfolding word
word_two s i =
    let e : get_or s (i + 1) 0 ≡ get_or s (suc i) 0 = ap (λ (n : ℕ). get_or s n 0) (add-one i) in
    omega arith

pub word-add : (s : List ℕ) (j k i : ℕ) → word (j + k) s i ≡ word j s i + 2 ^ (8 * j) * word k s (i + j)
unfolding word
word-add s zero k i =
    let z : word k s (i + 0) ≡ word k s i = ap (word k s) (add-zero i) in
    ap (λ (n : ℕ). word n s i) (zero-add k) ∙ omega arith
word-add s (suc j) k i =
    let ih : word (j + k) s (suc i) ≡ word j s (suc i) + 2 ^ (8 * j) * word k s (suc i + j) = word-add s j k (suc i) in
    let at : word k s (suc i + j) ≡ word k s (i + suc j) = ap (word k s) (suc-add i j ∙ sym (add-suc i j)) in
    let e : 8 * suc j ≡ 8 + 8 * j = omega arith in
    let p : 2 ^ (8 * suc j) * word k s (i + suc j) ≡ 256 * (2 ^ (8 * j) * word k s (suc i + j)) =
    ap₂ (λ (x y : ℕ). x * y) (ap (λ (n : ℕ). 2 ^ n) e ∙ pow-add 2 8 (8 * j)) (sym at) ∙ mul_assoc 256 (2 ^ (8 * j)) (word k s (suc i + j)) in
    ap (λ (n : ℕ). word n s i) (suc-add j k) ∙ omega arith

-- m bytes more behind the first j, as the highest of a word
pub head_more : (s : List ℕ) (m j : ℕ) → j + m ≤ 8
    → word j s 0 * 2 ^ (64 - 8 * j) / 2 ^ (8 * m) + word m s j * 2 ^ (64 - 8 * m) ≡ word (j + m) s 0 * 2 ^ (64 - 8 * (j + m))
head_more s m j h =
    let rest = 64 - 8 * (j + m) in
    let e : 64 - 8 * j ≡ rest + 8 * m = omega arith in
    let f : 64 - 8 * m ≡ 8 * j + rest = omega arith in
    let low : word j s 0 * 2 ^ (64 - 8 * j) / 2 ^ (8 * m) ≡ word j s 0 * 2 ^ rest =
    ap (λ (n : ℕ). word j s 0 * n / 2 ^ (8 * m)) (ap (λ (n : ℕ). 2 ^ n) e ∙ pow-add 2 rest (8 * m))
    ∙ ap (λ (n : ℕ). n / 2 ^ (8 * m)) (sym (mul_assoc (word j s 0) (2 ^ rest) (2 ^ (8 * m))))
    ∙ mul-div_cancel (word j s 0 * 2 ^ rest) (pow_pos (8 * m)) in
    let high : word m s j * 2 ^ (64 - 8 * m) ≡ 2 ^ (8 * j) * word m s j * 2 ^ rest =
    ap (λ (n : ℕ). word m s j * n) (ap (λ (n : ℕ). 2 ^ n) f ∙ pow-add 2 (8 * j) rest)
    ∙ sym (mul_assoc (word m s j) (2 ^ (8 * j)) (2 ^ rest))
    ∙ ap (λ (n : ℕ). n * 2 ^ rest) (mul_comm (word m s j) (2 ^ (8 * j))) in
    ap₂ (λ (x y : ℕ). x + y) low high
    ∙ sym (add-mul (word j s 0) (2 ^ (8 * j) * word m s j) (2 ^ rest))
    ∙ ap (λ (n : ℕ). n * 2 ^ rest)
    (ap (λ (i : ℕ). word j s 0 + 2 ^ (8 * j) * word m s i) (sym (zero-add j)) ∙ sym (word-add s j m 0))

-- a word of the same bytes
word_same : (k : ℕ) (s t : List ℕ) (i j : ℕ) → ((m : ℕ) → m < k → get_or s (i + m) 0 ≡ get_or t (j + m) 0) → word k s i ≡ word k t j
unfolding word
word_same zero s t i j e = refl
word_same (suc k) s t i j e =
    let here : get_or s i 0 ≡ get_or t j 0 =
    ap (λ (n : ℕ). get_or s n 0) (sym (add-zero i)) ∙ e 0 (omega arith) ∙ ap (λ (n : ℕ). get_or t n 0) (add-zero j) in
    ap₂ (λ (x y : ℕ). x + 256 * y) here
    (word_same k s t (suc i) (suc j)
    (λ m h.
    ap (λ (n : ℕ). get_or s n 0) (suc-add i m ∙ sym (add-suc i m))
    ∙ e (suc m) (omega arith)
    ∙ ap (λ (n : ℕ). get_or t n 0) (add-suc j m ∙ sym (suc-add j m))))

-- four bytes and eight, read as a word
module _ (s : List ℕ) (j : ℕ) where
  at : (m n : ℕ) → m ≡ n → get_or s m 0 ≡ get_or s n 0
  at m n e = ap (λ (k : ℕ). get_or s k 0) e

  pub four_read : from_le_bytes w32 (get_or s j 0 ∷ get_or s (j + 1) 0 ∷ get_or s (j + 2) 0 ∷ get_or s (j + 3) 0 ∷ []) ≡ word 4 s j
  unfolding word
  four_read =
      omega (arith, at (j + 1) (suc j) (omega arith), at (j + 2) (suc (suc j)) (omega arith), at (j + 3) (suc (suc (suc j))) (omega arith))

  pub eight_read : from_le_bytes w64
      (get_or s j 0 ∷ get_or s (j + 1) 0 ∷ get_or s (j + 2) 0 ∷ get_or s (j + 3) 0 ∷ get_or s (j + 4) 0 ∷ get_or s (j + 5) 0 ∷ get_or s (j + 6) 0
      ∷ get_or s (j + 7) 0 ∷ [])
      ≡ word 8 s j
  unfolding word
  eight_read =
      omega (
        arith,
        at (j + 1) (suc j) (omega arith),
        at (j + 2) (suc (suc j)) (omega arith),
        at (j + 3) (suc (suc (suc j))) (omega arith),
        at (j + 4) (suc (suc (suc (suc j)))) (omega arith),
        at (j + 5) (suc (suc (suc (suc (suc j))))) (omega arith),
        at (j + 6) (suc (suc (suc (suc (suc (suc j)))))) (omega arith),
        at (j + 7) (suc (suc (suc (suc (suc (suc (suc j))))))) (omega arith),
      )

-- the first bytes of a string as the highest of a word
pub first_bytes : (s : List ℕ) (k : ℕ) → k ≤ length s
    → word (length (take k s)) (take k s) 0 * 2 ^ (64 - 8 * length (take k s)) ≡ word k s 0 * 2 ^ (64 - 8 * k)
first_bytes s k h =
    ap (λ (n : ℕ). word n (take k s) 0 * 2 ^ (64 - 8 * n)) (length-take-le k s h)
    ∙ ap (λ (w : ℕ). w * 2 ^ (64 - 8 * k))
    (word_same k (take k s) s 0 0
    (λ m l.
    ap (λ (n : ℕ). get_or (take k s) n 0) (zero-add m)
    ∙ get_or-take k s m 0 l
    ∙ ap (λ (n : ℕ). get_or s n 0) (sym (zero-add m))))
