-- A bit string that is taken to 0 has an even number of set bits: the register's parity changes with each set bit that is fed.
-- Assumes nothing.
use mathlib.Core.Path.{◌≡◌, refl, sym, ap, ap₂, ◌∙◌}
use mathlib.Core.Bool.{Bool, true, false, xor}
use mathlib.Core.List.{List, [], ◌∷◌}
use Prim.Native.Nat.{ℕ, zero, suc, ◌+◌, ◌*◌, ◌/◌, ◌%◌, ◌^◌, ◌<◌}
use native.Mathlib.Nat.{pow-suc, suc-add, zero-add}
use native.Mathlib.Omega.{arith}
use lib.Bits.{bit_xor}
use lib.ListN.{length}
use borrow.Author.Tests.{eq-eqb, ne_eqb, eqb-true, eqb-false}
use Rattle.answer.specs.Bit.{bit}
use Rattle.crc.specs.Bits.{odd}
use Rattle.crc.specs.Crc.{shift}
use Rattle.crc.specs.Places.{places}
use Rattle.crc.specs.Parts.{turns, parity}
use Rattle.crc.proofs.Laws.Feed.{num}
use Rattle.crc.proofs.Laws.Xor.{low_bit, half_digit, odd-digit, xor_half, xor-odd, xor_false, xor_assoc_bits}

xor_comm_bits : (a b : Bool) → xor a b ≡ xor b a
unfolding xor
xor_comm_bits true true = refl
xor_comm_bits true false = refl
xor_comm_bits false true = refl
xor_comm_bits false false = refl

xor_swap_bits : (a b c d : Bool) → xor (xor a b) (xor c d) ≡ xor (xor a c) (xor b d)
xor_swap_bits a b c d =
    xor_assoc_bits a b (xor c d)
    ∙ ap (xor a) (sym (xor_assoc_bits b c d) ∙ ap (λ (x : Bool). xor x d) (xor_comm_bits b c) ∙ xor_assoc_bits c b d)
    ∙ sym (xor_assoc_bits a c (xor b d))

pub parity-xor : (k a b : ℕ) → parity k (bit_xor a b) ≡ xor (parity k a) (parity k b)
unfolding xor
parity-xor zero a b = refl
parity-xor (suc k) a b =
    ap₂ xor (xor-odd a b) (ap (parity k) (xor_half a b) ∙ parity-xor k (a / 2) (b / 2))
    ∙ xor_swap_bits (odd a) (odd b) (parity k (a / 2)) (parity k (b / 2))

parity_zero : (k : ℕ) → parity k 0 ≡ false
parity_zero zero = refl
parity_zero (suc k) = xor_false (parity k 0) ∙ parity_zero k

-- bits past a number's last do not count
parity_more : (m k n : ℕ) → n < 2 ^ m → parity (m + k) n ≡ parity m n
parity_more zero k n h =
    let none : n ≡ 0 = omega arith in
    ap₂ parity (zero-add k) none ∙ parity_zero k
parity_more (suc m) k n h =
    let l : n < 2 ^ m * 2 = rw pow-suc at h in
    ap (λ (j : ℕ). parity j n) (suc-add m k) ∙ ap (xor (odd n)) (parity_more m k (n / 2) (omega arith))

carry_below : (b : Bool) → bit b * 0xA001 < 2 ^ 16
carry_below true = omega arith
carry_below false = omega arith

-- the polynomial has three set bits
carry_parity : (b : Bool) → parity 16 (bit b * 0xA001) ≡ b
unfolding xor
carry_parity true = refl
carry_parity false = refl

parity-shift : (k r : ℕ) → parity (16 + k) (shift r) ≡ parity (suc (16 + k)) r
parity-shift k r =
    parity-xor (16 + k) (r / 2) (r % 2 * 0xA001)
    ∙ ap (xor (parity (16 + k) (r / 2)))
    (ap (λ (n : ℕ). parity (16 + k) (n * 0xA001)) (low_bit r)
    ∙ parity_more 16 k (bit (odd r) * 0xA001) (carry_below (odd r))
    ∙ carry_parity (odd r))
    ∙ xor_comm_bits (parity (16 + k) (r / 2)) (odd r)

parity-turns : (n r : ℕ) → parity 16 (turns n r) ≡ parity (16 + n) r
parity-turns zero r = refl
parity-turns (suc n) r =
    let e : suc (16 + n) ≡ 16 + suc n = omega arith in
    parity-turns n (shift r) ∙ parity-shift n r ∙ ap (λ (k : ℕ). parity k r) e

-- a 1 stays odd however it is turned, so that no two of them make a third
turned_odd : (n : ℕ) → parity 16 (turns n 1) ≡ true
unfolding xor
turned_odd n = parity-turns n 1 ∙ parity_more 16 n 1 (omega arith)

pub three_turned : (a b c : ℕ) → bit_xor (turns a 1) (turns b 1) ≡ turns c 1 → ⊥
unfolding xor
three_turned a b c e =
    let even : parity 16 (bit_xor (turns a 1) (turns b 1)) ≡ false = parity-xor 16 (turns a 1) (turns b 1) ∙ ap₂ xor (turned_odd a) (turned_odd b) in
    let z : ◌≡◌ {A = ℕ} 0 1 = ap bit (sym even ∙ ap (parity 16) e ∙ turned_odd c) in
    omega arith

-- the parity of a bit string
abbrev parity_of : List Bool → Bool
parity_of [] = false
parity_of (b ∷ bs) = xor b (parity_of bs)

parity-num : (bs : List Bool) → parity (16 + length bs) (num bs) ≡ parity_of bs
unfolding xor
parity-num [] = refl
parity-num (b ∷ bs) =
    let e : 16 + suc (length bs) ≡ suc (16 + length bs) = omega arith in
    ap (λ (k : ℕ). parity k (num bs * 2 + bit b)) e
    ∙ ap₂ xor (odd-digit (num bs) b) (ap (parity (16 + length bs)) (half_digit (num bs) b) ∙ parity-num bs)

odd_suc : (n : ℕ) → odd (suc n) ≡ xor true (odd n)
unfolding xor
odd_suc n = by (odd n) refl
  where
    by : (t : Bool) → odd n ≡ t → odd (suc n) ≡ xor true t
    by true e = let one : n % 2 ≡ 1 = eqb-true (n % 2) 1 e in ne_eqb (suc n % 2) 1 (omega arith)
    by false e = let other : n % 2 ≡ 1 → ⊥ = eqb-false (n % 2) 1 e in eq-eqb (suc n % 2) 1 (omega arith)

count_parity : (k : ℕ) (bs : List Bool) → odd (length (places k bs)) ≡ parity_of bs
count_parity k [] = refl
count_parity k (true ∷ bs) = odd_suc (length (places (suc k) bs)) ∙ ap (xor true) (count_parity (suc k) bs)
count_parity k (false ∷ bs) = count_parity (suc k) bs ∙ sym (xor_false (parity_of bs))

pub even_places : (k : ℕ) (bs : List Bool) → turns (length bs) (num bs) ≡ 0 → length (places k bs) % 2 ≡ 0
even_places k bs e =
    let even : odd (length (places k bs)) ≡ false =
    count_parity k bs ∙ sym (parity-num bs) ∙ sym (parity-turns (length bs) (num bs)) ∙ ap (parity 16) e ∙ parity_zero 16 in
    let other : length (places k bs) % 2 ≡ 1 → ⊥ = eqb-false (length (places k bs) % 2) 1 even in
    omega arith
