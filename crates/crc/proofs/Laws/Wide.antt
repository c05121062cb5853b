-- A bit string that is taken to 0, with a set bit, has its first and last set bits at least 16 apart, and not two set bits alone.
-- Assumes nothing.
use mathlib.Core.Path.{◌≡◌, refl, sym, ap, ap₂, ◌∙◌}
use mathlib.Core.Bool.{Bool, true, false, not, ◌&&◌}
use mathlib.Core.List.{List, [], ◌∷◌}
use Prim.Native.Nat.{ℕ, zero, suc, ◌+◌, ◌-◌, ◌*◌, ◌^◌, ◌<◌, ◌≤◌}
use native.Mathlib.Nat.{pow-suc, le_refl, le_trans, add-zero}
use native.Mathlib.Decide.{dec_lt}
use native.Mathlib.Omega.{arith}
use lib.Bits.{bit_xor, xor_lt}
use lib.Dec.{T, eqb, lit<}
use lib.Ieee.Fits.{and_l, and_r}
use lib.ListN.{length}
use lib.Pow.{pow_pos}
use borrow.Author.Tests.{eq-eqb}
use Rattle.answer.specs.Bit.{bit}
use Rattle.crc.specs.Crc.{shift}
use Rattle.crc.specs.Places.{places, first, last}
use Rattle.crc.specs.Parts.{turns}
use Rattle.crc.proofs.Laws.Feed.{num, turns-xor, turns-add, turns_nonzero, shift_double, shift_lt, put-bit}
use Rattle.crc.proofs.Laws.Xor.{xor_zero}

-- a clear bit in front changes nothing
pub leading : (bs : List Bool) → turns (length (false ∷ bs)) (num (false ∷ bs)) ≡ turns (length bs) (num bs)
leading bs =
    ap (λ (n : ℕ). turns (length bs) (shift n)) (add-zero (num bs * 2))
    ∙ ap (turns (length bs)) (shift_double (num bs))

last_ge : (x k : ℕ) (bs : List Bool) → x ≤ k → x ≤ last (x ∷ places k bs)
last_ge x k [] h = le_refl x
last_ge x k (true ∷ bs) h = le_trans h (last_ge k (suc k) bs (omega arith))
last_ge x k (false ∷ bs) h = last_ge x (suc k) bs (omega arith)

-- a bit string with no set bit from place k + n on spells a number below 2 ^ n
num_below : (n x k : ℕ) (bs : List Bool) → last (x ∷ places k bs) < k + n → num bs < 2 ^ n
num_below n x k [] h = pow_pos n
num_below zero x k (true ∷ bs) h = let l : k ≤ last (k ∷ places (suc k) bs) = last_ge k (suc k) bs (omega arith) in omega arith
num_below zero x k (false ∷ bs) h = let ih : num bs < 2 ^ 0 = num_below zero x (suc k) bs (omega arith) in omega arith
num_below (suc n) x k (true ∷ bs) h =
    let ih : num bs < 2 ^ n = num_below n k (suc k) bs (omega arith) in
    rw pow-suc (omega arith)
num_below (suc n) x k (false ∷ bs) h =
    let ih : num bs < 2 ^ n = num_below n x (suc k) bs (omega arith) in
    rw pow-suc (omega arith)

pub wide_places : (k : ℕ) (bs : List Bool) → turns (length bs) (num bs) ≡ 0 → 0 < length (places k bs)
    → first (places k bs) + 16 ≤ last (places k bs)
wide_places k [] e some = omega arith
wide_places k (false ∷ bs) e some = wide_places (suc k) bs (sym (leading bs) ∙ e) some
wide_places k (true ∷ bs) e some = by (dec_lt (last (k ∷ places (suc k) bs)) (k + 16))
  where
    by : Dec (last (k ∷ places (suc k) bs) < k + 16) → k + 16 ≤ last (k ∷ places (suc k) bs)
    by (yes near) =
        let low : num bs < 2 ^ 15 = num_below 15 k (suc k) bs (omega arith) in
        let none : num bs * 2 + 1 ≡ 0 = turns_nonzero (suc (length bs)) (num bs * 2 + 1) (omega arith) e in
        omega arith
    by (no far) = omega arith

-- ---- not two

no_places : (k : ℕ) (bs : List Bool) → length (places k bs) ≡ 0 → num bs ≡ 0
no_places k [] e = refl
no_places k (true ∷ bs) e = let z : ⊥ = omega arith in absurd z
no_places k (false ∷ bs) e = let ih : num bs ≡ 0 = no_places (suc k) bs e in omega arith

-- one set bit alone, turned down to place 0, leaves 1
one_place : (k : ℕ) (bs : List Bool) → length (places k bs) ≡ 1 → (j : ℕ) × (j < length bs) × (turns j (num bs) ≡ 1)
one_place k [] e = let z : ⊥ = omega arith in absurd z
one_place k (true ∷ bs) e =
    let none : num bs ≡ 0 = no_places (suc k) bs (omega arith) in
    (0, omega arith, omega arith)
one_place k (false ∷ bs) e =
    let ih : (j : ℕ) × (j < length bs) × (turns j (num bs) ≡ 1) = one_place (suc k) bs e in (
      suc ih.0,
      omega arith,
      ap (λ (n : ℕ). turns ih.0 (shift n)) (add-zero (num bs * 2)) ∙ ap (turns ih.0) (shift_double (num bs)) ∙ ih.2,
    )

-- a test that some turns of r never meet 1
abbrev never_one : ℕ → ℕ → Bool
never_one zero r = true
never_one (suc n) r = not (eqb (shift r) 1) && never_one n (shift r)

meets : (b : Bool) → T (not b) → b ≡ true → ⊥
meets true t e = t
meets false t e = let z : ◌≡◌ {A = ℕ} 0 1 = ap bit e in omega arith

never : (n r : ℕ) → T (never_one n r) → (j : ℕ) → j < n → turns (suc j) r ≡ 1 → ⊥
never zero r t j h e = omega arith
never (suc n) r t zero h e =
    meets (eqb (shift r) 1) (and_l (not (eqb (shift r) 1)) (never_one n (shift r)) t) (eq-eqb (shift r) 1 e)
never (suc n) r t (suc j) h e =
    never n (shift r) (and_r (not (eqb (shift r) 1)) (never_one n (shift r)) t) j (omega arith) e

-- the order of x modulo the polynomial is above 543
unmet : T (never_one 543 1)
unmet = tt

turns_lt : (n r : ℕ) → r < 2 ^ 16 → turns n r < 2 ^ 16
turns_lt zero r h = h
turns_lt (suc n) r h = turns_lt n (shift r) (shift_lt r h)

-- two set bits, suc j apart, that are taken to 0: 1 comes back to 1 in suc j turns
comes_back : (j i m : ℕ) → turns j m ≡ 1 → turns (suc (j + i)) (m * 2 + 1) ≡ 0 → turns (suc j) 1 ≡ 1
comes_back j i m one e =
    xor_zero (turns (suc j) 1) 1
    (turns_nonzero i (bit_xor (turns (suc j) 1) 1) (xor_lt 16 (turns (suc j) 1) 1 (turns_lt (suc j) 1 (lit< tt)) (lit< tt))
    (turns-xor i (turns (suc j) 1) 1
    ∙ ap₂ bit_xor (sym (turns-add j i (shift 1)))
    (ap (turns i) (sym one) ∙ sym (turns-add j i m) ∙ ap (turns (j + i)) (sym (shift_double m)))
    ∙ sym (turns-xor (suc (j + i)) 1 (m * 2))
    ∙ ap (turns (suc (j + i))) (sym (put-bit m true))
    ∙ e))

pub not_two : (k : ℕ) (bs : List Bool) → turns (length bs) (num bs) ≡ 0 → length bs ≤ 544 → length (places k bs) ≡ 2 → ⊥
not_two k [] e l two = omega arith
not_two k (false ∷ bs) e l two = not_two (suc k) bs (sym (leading bs) ∙ e) (omega arith) two
not_two k (true ∷ bs) e l two = by (one_place (suc k) bs (omega arith))
  where
    by : (j : ℕ) × (j < length bs) × (turns j (num bs) ≡ 1) → ⊥
    by one =
        let split : suc (length bs) ≡ suc (one.0 + (length bs - one.0)) = omega arith in
        never 543 1 unmet one.0 (omega arith)
        (comes_back one.0 (length bs - one.0) (num bs) one.2
        (ap (λ (n : ℕ). turns n (num bs * 2 + 1)) (sym split) ∙ e))
