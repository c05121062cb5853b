-- Numbers in decimal, and the lengths of texts. Assumes nothing.
use mathlib.Core.Path.{◌≡◌, refl, ap, ap₂, ◌∙◌}
use mathlib.Core.Bool.{Bool, true, false, cond}
use mathlib.Core.List.{List, [], ◌∷◌, ◌++◌}
use Prim.Native.Nat.{ℕ, zero, suc, ◌+◌, ◌*◌, ◌-◌, ◌/◌, ◌%◌, ◌<◌, ◌≤◌}
use native.Mathlib.Omega.{arith}
use lib.Dec.{ltb}
use lib.ListN.{length, length-append}
use borrow.Author.Tests.{lt-ltb, le-ltb, ltb-true, ltb-false}
use Rattle.listing.specs.Lines.{noise, frame, end}
use Rattle.listing.specs.Text.{digit, digits, number, spelt, line_text}
use Rattle.listing.specs.Parts.{run_text}

-- more than enough digits are no other digits
enough : (j k n : ℕ) → n < j → n < k → digits j n ≡ digits k n
unfolding digits
enough zero k n h g = let z : ⊥ = omega arith in absurd z
enough (suc j) zero n h g = let z : ⊥ = omega arith in absurd z
enough (suc j) (suc k) n h g = by_cases n (digits j (n / 10)) (digits k (n / 10)) (λ more. enough j k (n / 10) (omega arith) (omega arith))
  where
    by_cases : (n : ℕ) (x y : List ℕ) → (10 ≤ n → x ≡ y)
        → cond (ltb n 10) (digit n ∷ []) (x ++ (digit (n % 10) ∷ [])) ≡ cond (ltb n 10) (digit n ∷ []) (y ++ (digit (n % 10) ∷ []))
    by_cases n x y f = go (ltb n 10) refl
      where
        go : (t : Bool) → ltb n 10 ≡ t
            → cond t (digit n ∷ []) (x ++ (digit (n % 10) ∷ [])) ≡ cond t (digit n ∷ []) (y ++ (digit (n % 10) ∷ []))
        go true e = refl
        go false e = ap (λ (d : List ℕ). d ++ (digit (n % 10) ∷ [])) (f (ltb-false n 10 e))

pub below_10 : (n : ℕ) → n < 10 → number n ≡ digit n ∷ []
unfolding number digits
below_10 n h = rw (lt-ltb n 10 h)

pub from_10 : (n : ℕ) → 10 ≤ n → number n ≡ number (n / 10) ++ (digit (n % 10) ∷ [])
unfolding number digits
from_10 n h =
    rw (le-ltb n 10 h) (ap (λ (d : List ℕ). d ++ (digit (n % 10) ∷ [])) (enough n (suc (n / 10)) (n / 10) (omega arith) (omega arith)))

pub below_100 : (n : ℕ) → 10 ≤ n → n < 100 → number n ≡ digit (n / 10) ∷ digit (n % 10) ∷ []
below_100 n l h = from_10 n l ∙ ap (λ (d : List ℕ). d ++ (digit (n % 10) ∷ [])) (below_10 (n / 10) (omega arith))

-- longer numbers by their last two digits and what stands before them
pub below_1000 : (n : ℕ) → 100 ≤ n → n < 1000 → number n ≡ digit (n / 100) ∷ digit (n % 100 / 10) ∷ digit (n % 100 % 10) ∷ []
below_1000 n l h =
    let first : n / 10 / 10 ≡ n / 100 = omega arith in
    let second : n / 10 % 10 ≡ n % 100 / 10 = omega arith in
    let third : n % 10 ≡ n % 100 % 10 = omega arith in
    from_10 n (omega arith)
    ∙ ap (λ (d : List ℕ). d ++ (digit (n % 10) ∷ [])) (below_100 (n / 10) (omega arith) (omega arith))
    ∙ ap₂ {C = List ℕ} (λ (d f : ℕ). digit d ∷ digit f ∷ digit (n % 10) ∷ []) first second
    ∙ ap {B = List ℕ} (λ (d : ℕ). digit (n / 100) ∷ digit (n % 100 / 10) ∷ digit d ∷ []) third

pub below_10000 : (n : ℕ) → 1000 ≤ n → n < 10000
    → number n ≡ digit (n / 100 / 10) ∷ digit (n / 100 % 10) ∷ digit (n % 100 / 10) ∷ digit (n % 100 % 10) ∷ []
below_10000 n l h =
    let front : n / 10 / 10 ≡ n / 100 = omega arith in
    let third : n / 10 % 10 ≡ n % 100 / 10 = omega arith in
    let fourth : n % 10 ≡ n % 100 % 10 = omega arith in
    from_10 n (omega arith)
    ∙ ap (λ (d : List ℕ). d ++ (digit (n % 10) ∷ [])) (from_10 (n / 10) (omega arith))
    ∙ ap (λ (d : List ℕ). (d ++ (digit (n / 10 % 10) ∷ [])) ++ (digit (n % 10) ∷ [])) (ap number front ∙ below_100 (n / 100) (omega arith) (omega arith))
    ∙ ap₂ {C = List ℕ} (λ (d f : ℕ). digit (n / 100 / 10) ∷ digit (n / 100 % 10) ∷ digit d ∷ digit f ∷ []) third fourth

-- the digits spell the number
spelt-behind : (before d : ℕ) (ds : List ℕ) → spelt before (ds ++ (d ∷ [])) ≡ spelt before ds * 10 + (d - 0x30)
spelt-behind before d [] = refl
spelt-behind before d (e ∷ ds) = spelt-behind (before * 10 + (e - 0x30)) d ds

digits_spell : (k n : ℕ) → n < k → spelt 0 (digits k n) ≡ n
unfolding digits
digits_spell zero n h = let z : ⊥ = omega arith in absurd z
digits_spell (suc k) n h = go (digits k (n / 10)) (λ more. digits_spell k (n / 10) (omega arith)) (ltb n 10) refl
  where
    go : (ds : List ℕ) → (10 ≤ n → spelt 0 ds ≡ n / 10) → (t : Bool) → ltb n 10 ≡ t
        → spelt 0 (cond t (digit n ∷ []) (ds ++ (digit (n % 10) ∷ []))) ≡ n
    go ds f true e = omega arith
    go ds f false e = omega (arith, spelt-behind 0 (digit (n % 10)) ds, f (ltb-false n 10 e))

pub number_spells : (n : ℕ) → spelt 0 (number n) ≡ n
unfolding number
number_spells n = digits_spell (suc n) n (omega arith)

-- ten times as large a number has at most one digit more
one_more : (k b : ℕ) → 1 ≤ k → ((m : ℕ) → m < b → length (number m) ≤ k) → (n : ℕ) → n < 10 * b → length (number n) ≤ k + 1
one_more k b some f n h = go (ltb n 10) refl
  where
    go : (t : Bool) → ltb n 10 ≡ t → length (number n) ≤ k + 1
    go true e = rw (below_10 n (ltb-true n 10 e)) (omega arith)
    go false e = rw (from_10 n (ltb-false n 10 e)) (simp length-append (omega (arith, f (n / 10) (omega arith))))

at_most_one : (n : ℕ) → n < 10 → length (number n) ≤ 1
at_most_one n h = rw (below_10 n h) (omega arith)

-- a number below 10,000 has at most four digits
pub at_most_four : (n : ℕ) → n < 10000 → length (number n) ≤ 4
at_most_four = one_more 3 1000 (omega arith) (one_more 2 100 (omega arith) (one_more 1 10 (omega arith) at_most_one))

module _ (offset count : ℕ) where
  pub noise-length : length (line_text (noise offset count)) ≡ length (number offset) + length (number count) + 8
  unfolding line_text
  noise-length = simp length-append (omega arith)

  pub frame-length : (kind : ℕ)
      → length (line_text (frame offset count kind)) ≡ length (number offset) + length (number count) + length (number kind) + 9
  unfolding line_text
  frame-length kind = simp length-append (omega arith)

pub end-length : (offset : ℕ) → length (line_text (end offset)) ≡ length (number offset) + 5
unfolding line_text
end-length offset = simp length-append (omega arith)

-- a run's text: none where there is no noise
pub no_run : (offset count : ℕ) → count ≡ 0 → run_text offset count ≡ []
unfolding run_text
no_run offset zero e = refl
no_run offset (suc n) e = let z : ⊥ = omega arith in absurd z

pub a_run : (offset count : ℕ) → (count ≡ 0 → ⊥) → run_text offset count ≡ line_text (noise offset count)
unfolding run_text
a_run offset zero h = absurd (h refl)
a_run offset (suc n) h = refl
