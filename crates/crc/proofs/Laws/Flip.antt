-- A byte string with one bit flipped: it differs at that place alone, and its remainder tells the place. Assumes nothing.
use mathlib.Core.Path.{◌≡◌, refl, sym, ap, ap₂, subst, ◌∙◌}
use mathlib.Core.Bool.{Bool, true, false, xor}
use mathlib.Core.List.{List, [], ◌∷◌}
use Prim.Native.Nat.{ℕ, zero, suc, ◌+◌, ◌-◌, ◌*◌, ◌/◌, ◌%◌, ◌^◌, ◌<◌, ◌≤◌}
use native.Mathlib.Decide.{dec_lt}
use native.Mathlib.Nat.{add-zero, zero-add, one-mul, pow-suc, mul_comm}
use native.Mathlib.Omega.{arith}
use lib.Bits.{bit_xor, xor_lt, xor_self, xor_zero_l, xor_zero_r, xor_shifted}
use lib.Dec.{T, ltb, ltb→lt, lt→ltb}
use lib.Ieee.Fits.{and_i, and_l, and_r}
use lib.ListN.{length, get_or, set, length-set}
use lib.Pow.{are_bytes, pow-add, pow-lt, pow_pos}
use lib.Seq.{get_or-set_same, get_or-set_other, set-set, set-get_or}
use Rattle.crc.specs.Bits.{bit_string}
use Rattle.crc.specs.Crc.{crc}
use Rattle.crc.specs.Places.{differences, places, flip}
use Rattle.crc.specs.Parts.{turns}
use Rattle.crc.proofs.Laws.Bits.{spelled, bit_string-length}
use Rattle.crc.proofs.Laws.Distance.{num-differences, byte_then}
use Rattle.crc.proofs.Laws.Feed.{num, feed-turns, turns-xor, turns-add, turns_shifted}
use Rattle.crc.proofs.Laws.Linear.{linear_up}
use Rattle.crc.proofs.Laws.Xor.{xor_assoc, xor_past}

-- ---- byte by byte

-- a place in the first byte, and one behind it
flip_first : (b : ℕ) (s : List ℕ) (k : ℕ) → k < 8 → flip (b ∷ s) k ≡ bit_xor b (2 ^ k) ∷ s
unfolding flip
flip_first b s k h =
    let q : k / 8 ≡ 0 = omega arith in
    let m : k % 8 ≡ k = omega arith in
    ap₂ (λ (i j : ℕ). set (b ∷ s) i (bit_xor (get_or (b ∷ s) i 0) (2 ^ j))) q m

pub flip-behind : (b : ℕ) (s : List ℕ) (k : ℕ) → flip (b ∷ s) (8 + k) ≡ b ∷ flip s k
unfolding flip
flip-behind b s k =
    let q : (8 + k) / 8 ≡ suc (k / 8) = omega arith in
    let m : (8 + k) % 8 ≡ k % 8 = omega arith in
    ap₂ (λ (i j : ℕ). set (b ∷ s) i (bit_xor (get_or (b ∷ s) i 0) (2 ^ j))) q m

pub flip_empty : (k : ℕ) → flip [] k ≡ []
unfolding flip
flip_empty k = refl

-- no other byte changes
pub flip_elsewhere : (s : List ℕ) (k j : ℕ) → (j ≡ k / 8 → ⊥) → get_or (flip s k) j 0 ≡ get_or s j 0
unfolding flip
flip_elsewhere s k j other = get_or-set_other s (k / 8) j (bit_xor (get_or s (k / 8) 0) (2 ^ (k % 8))) 0 other

-- flipped twice, a bit is what it was
pub flip_twice : (s : List ℕ) (k : ℕ) → k < 8 * length s → flip (flip s k) k ≡ s
unfolding flip
flip_twice s k h =
    let i = k / 8 in
    let b = get_or s i 0 in
    let m = 2 ^ (k % 8) in
    let inside : i < length s = omega arith in
    set-set s i (bit_xor b m) (bit_xor (get_or (set s i (bit_xor b m)) i 0) m)
    ∙ ap (set s i)
    (ap (λ (n : ℕ). bit_xor n m) (get_or-set_same s i (bit_xor b m) 0 inside) ∙ xor_assoc b m m ∙ ap (bit_xor b) (xor_self m) ∙ xor_zero_r b)
    ∙ set-get_or s i 0

pub flip-length : (s : List ℕ) (k : ℕ) → length (flip s k) ≡ length s
unfolding flip
flip-length s k = length-set s (k / 8) (bit_xor (get_or s (k / 8) 0) (2 ^ (k % 8)))

-- what holds at the places of the first byte, and behind it where it holds of the rest, holds at every place
by_bytes : (P : List ℕ → ℕ → Type 0)
    → ((b : ℕ) (s : List ℕ) (k : ℕ) → T (are_bytes (b ∷ s)) → k < 8 → P (b ∷ s) k)
    → ((b : ℕ) (s : List ℕ) (k : ℕ) → T (are_bytes (b ∷ s)) → P s k → P (b ∷ s) (8 + k))
    → (s : List ℕ) (k : ℕ) → T (are_bytes s) → k < 8 * length s → P s k
by_bytes P head tail [] k t h = let z : ⊥ = omega arith in absurd z
by_bytes P head tail (b ∷ s) k t h = by (λ j l. by_bytes P head tail s j (and_r (ltb b 256) (are_bytes s) t) l) (dec_lt k 8)
  where
    behind : ((j : ℕ) → j < 8 * length s → P s j) → (j : ℕ) → 8 + j ≡ k → P (b ∷ s) k
    behind ih j e = subst (P (b ∷ s)) e (tail b s j t (ih j (omega arith)))

    by : ((j : ℕ) → j < 8 * length s → P s j) → Dec (k < 8) → P (b ∷ s) k
    by ih (yes l) = head b s k t l
    by ih (no g) = behind ih (k - 8) (omega arith)

byte_below : (b k : ℕ) (s : List ℕ) → T (are_bytes (b ∷ s)) → k < 8 → bit_xor b (2 ^ k) < 2 ^ 8
byte_below b k s t h = xor_lt 8 b (2 ^ k) (ltb→lt b 256 (and_l (ltb b 256) (are_bytes s) t)) (pow-lt {i = k} {j = 8} h)

pub flip_bytes : (s : List ℕ) (k : ℕ) → T (are_bytes s) → k < 8 * length s → T (are_bytes (flip s k))
flip_bytes = by_bytes (λ s k. T (are_bytes (flip s k)))
    (λ b s k t h.
    subst (λ (x : List ℕ). T (are_bytes x)) (sym (flip_first b s k h))
    (and_i (ltb (bit_xor b (2 ^ k)) 256) (are_bytes s) (lt→ltb (bit_xor b (2 ^ k)) 256 (byte_below b k s t h)) (and_r (ltb b 256) (are_bytes s) t)))
    (λ b s k t ih.
    subst (λ (x : List ℕ). T (are_bytes x)) (sym (flip-behind b s k))
    (and_i (ltb b 256) (are_bytes (flip s k)) (and_l (ltb b 256) (are_bytes s) t) ih))

-- ---- as a number

first_byte : (b : ℕ) (s : List ℕ) → b < 2 ^ 8 → num (bit_string (b ∷ s)) ≡ bit_xor (num (bit_string s) * 2 ^ 8) b
first_byte b s h =
    byte_then b (bit_string s)
    ∙ ap (λ (n : ℕ). n + 256 * num (bit_string s)) (spelled 8 b h)
    ∙ omega arith
    ∙ sym (xor_shifted (num (bit_string s)) 8 b h)

power_up : (k : ℕ) → 2 ^ k * 2 ^ 8 ≡ 2 ^ (8 + k)
power_up k = mul_comm (2 ^ k) (2 ^ 8) ∙ sym (pow-add 2 8 k)

flip-num : (s : List ℕ) (k : ℕ) → T (are_bytes s) → k < 8 * length s → num (bit_string (flip s k)) ≡ bit_xor (num (bit_string s)) (2 ^ k)
flip-num = by_bytes (λ s k. num (bit_string (flip s k)) ≡ bit_xor (num (bit_string s)) (2 ^ k))
    (λ b s k t h.
    ap (λ (x : List ℕ). num (bit_string x)) (flip_first b s k h)
    ∙ first_byte (bit_xor b (2 ^ k)) s (byte_below b k s t h)
    ∙ sym (xor_assoc (num (bit_string s) * 2 ^ 8) b (2 ^ k))
    ∙ ap (λ (n : ℕ). bit_xor n (2 ^ k)) (sym (first_byte b s (ltb→lt b 256 (and_l (ltb b 256) (are_bytes s) t)))))
    (λ b s k t ih.
    let n = num (bit_string s) in
    let small : b < 2 ^ 8 = ltb→lt b 256 (and_l (ltb b 256) (are_bytes s) t) in
    ap (λ (x : List ℕ). num (bit_string x)) (flip-behind b s k)
    ∙ first_byte b (flip s k) small
    ∙ ap (λ (m : ℕ). bit_xor (m * 2 ^ 8) b) ih
    ∙ ap (λ (m : ℕ). bit_xor m b) ((linear_up 8).keeps n (2 ^ k))
    ∙ xor_past (n * 2 ^ 8) (2 ^ k * 2 ^ 8) b
    ∙ ap₂ bit_xor (sym (first_byte b s small)) (power_up k))

-- ---- the remainder

-- of a byte string with one bit flipped: that of the string xor a 1, turned once for each place from that bit's to the end
pub flip_remainder : (s : List ℕ) (k : ℕ) → T (are_bytes s) → k < 8 * length s
    → crc (flip s k) ≡ bit_xor (crc s) (turns (8 * length s - k) 1)
unfolding crc
flip_remainder s k t h =
    let n = num (bit_string s) in
    let all : 8 * length s ≡ k + (8 * length s - k) = omega arith in
    let same : length (bit_string (flip s k)) ≡ 8 * length s = bit_string-length (flip s k) ∙ ap (λ (l : ℕ). 8 * l) (flip-length s k) in
    feed-turns 0 (bit_string (flip s k))
    ∙ ap₂ turns same (xor_zero_l (num (bit_string (flip s k))) ∙ flip-num s k t h)
    ∙ turns-xor (8 * length s) n (2 ^ k)
    ∙ ap₂ bit_xor
    (ap₂ turns (sym (bit_string-length s)) (sym (xor_zero_l n)) ∙ sym (feed-turns 0 (bit_string s)))
    (ap₂ turns all (sym (one-mul (2 ^ k))) ∙ turns-add k (8 * length s - k) (1 * 2 ^ k) ∙ ap (turns (8 * length s - k)) (turns_shifted k 1))

-- ---- the places

no_set_bit : (j : ℕ) (bs : List Bool) → num bs ≡ 0 → places j bs ≡ []
no_set_bit j [] e = refl
no_set_bit j (true ∷ bs) e = let z : ⊥ = omega arith in absurd z
no_set_bit j (false ∷ bs) e = no_set_bit (suc j) bs (omega arith)

-- a power of two has one set bit
power-place : (j k : ℕ) (bs : List Bool) → num bs ≡ 2 ^ k → places j bs ≡ (j + k) ∷ []
power-place j k [] e = let z : ⊥ = omega (arith, pow_pos k) in absurd z
power-place j zero (true ∷ bs) e =
    ap₂ {C = List ℕ} (λ x y. x ∷ y) (sym (add-zero j)) (no_set_bit (suc j) bs (omega arith))
power-place j (suc k) (true ∷ bs) e =
    let d : num bs * 2 + 1 ≡ 2 ^ k * 2 = e ∙ pow-suc 2 k in
    let z : ⊥ = omega arith in absurd z
power-place j zero (false ∷ bs) e = let z : ⊥ = omega arith in absurd z
power-place j (suc k) (false ∷ bs) e =
    let d : num bs * 2 + 0 ≡ 2 ^ k * 2 = e ∙ pow-suc 2 k in
    let half : num bs ≡ 2 ^ k = omega arith in
    let there : suc j + k ≡ j + suc k = omega arith in
    power-place (suc j) k bs half ∙ ap {B = List ℕ} (λ x. x ∷ []) there

-- a string and itself with one bit flipped differ at that place and no other
pub flip-place : (s : List ℕ) (k : ℕ) → T (are_bytes s) → k < 8 * length s → places 0 (differences (bit_string s) (bit_string (flip s k))) ≡ k ∷ []
flip-place s k t h =
    let n = num (bit_string s) in
    let same : length (bit_string s) ≡ length (bit_string (flip s k)) =
    bit_string-length s ∙ ap (λ (l : ℕ). 8 * l) (sym (flip-length s k)) ∙ sym (bit_string-length (flip s k)) in
    let power : num (differences (bit_string s) (bit_string (flip s k))) ≡ 2 ^ k =
    num-differences (bit_string s) (bit_string (flip s k)) same
    ∙ ap (bit_xor n) (flip-num s k t h)
    ∙ sym (xor_assoc n n (2 ^ k))
    ∙ ap (λ (m : ℕ). bit_xor m (2 ^ k)) (xor_self n)
    ∙ xor_zero_l (2 ^ k) in
    power-place 0 k (differences (bit_string s) (bit_string (flip s k))) power ∙ ap {B = List ℕ} (λ x. x ∷ []) (zero-add k)

-- a string differs from itself nowhere
pub no_place : (k : ℕ) (r : List Bool) → places k (differences r r) ≡ []
unfolding xor
no_place k [] = refl
no_place k (true ∷ r) = no_place (suc k) r
no_place k (false ∷ r) = no_place (suc k) r

-- two strings differ at no more places than a third does from the one and from the other
pub triangle : (k : ℕ) (r s t : List Bool) → length r ≡ length s → length t ≡ length s
    → length (places k (differences r t)) ≤ length (places k (differences s r)) + length (places k (differences s t))
unfolding xor
triangle k [] s t e f = omega arith
triangle k (a ∷ r) [] t e f = let z : ⊥ = omega arith in absurd z
triangle k (a ∷ r) (b ∷ s) [] e f = omega arith
triangle k (true ∷ r) (true ∷ s) (true ∷ t) e f = triangle (suc k) r s t (omega arith) (omega arith)
triangle k (true ∷ r) (true ∷ s) (false ∷ t) e f = let ih = triangle (suc k) r s t (omega arith) (omega arith) in omega (arith, ih)
triangle k (true ∷ r) (false ∷ s) (true ∷ t) e f = let ih = triangle (suc k) r s t (omega arith) (omega arith) in omega (arith, ih)
triangle k (true ∷ r) (false ∷ s) (false ∷ t) e f = let ih = triangle (suc k) r s t (omega arith) (omega arith) in omega (arith, ih)
triangle k (false ∷ r) (true ∷ s) (true ∷ t) e f = let ih = triangle (suc k) r s t (omega arith) (omega arith) in omega (arith, ih)
triangle k (false ∷ r) (true ∷ s) (false ∷ t) e f = let ih = triangle (suc k) r s t (omega arith) (omega arith) in omega (arith, ih)
triangle k (false ∷ r) (false ∷ s) (true ∷ t) e f = let ih = triangle (suc k) r s t (omega arith) (omega arith) in omega (arith, ih)
triangle k (false ∷ r) (false ∷ s) (false ∷ t) e f = triangle (suc k) r s t (omega arith) (omega arith)
