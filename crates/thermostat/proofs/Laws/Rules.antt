-- The tables state what the paper states of every register, by one computed test; and what the tables' bytes decide. Assumes nothing.
use mathlib.Core.Path.{◌≡◌, refl, sym, ◌∙◌}
use mathlib.Core.Bool.{Bool, true, false, ◌&&◌, ◌||◌, or-false}
use native.Mathlib.Omega.{arith}
use mathlib.Core.List.{List, [], ◌∷◌, map}
use Prim.Native.Nat.{ℕ, ◌<◌, ◌≤◌}
use lib.Dec.{T, eqb, leb}
use lib.ListN.{length, get_or, get_or-map}
use borrow.Author.Tests.{eqb-true, eqb-false, leb-true, leb-false, le-leb, lt-leb, ne_eqb}
use Rattle.omnistat.specs.Register.{within}
use Rattle.thermostat.specs.Registers.{Range, range, fahrenheit, is_in, in_any, allowed}
use Rattle.answer.specs.Bit.{bit}
use Rattle.thermostat.specs.Parts.{takes, low, high, lowest, highest, low_of, high_of}
use Rattle.thermostat.proofs.Laws.Fahrenheit.{fahrenheit_bytes}
use Rattle.answer.proofs.Laws.Table.{every, at, below, holds, both_left, both_right}

-- the computed test: each entry is what is stated of its place
abbrev pub stated : (ℕ → ℕ) → List ℕ → Bool
stated f bytes = eqb (length bytes) 256 && every (λ r x. eqb x (f r)) 0 bytes

pub states : (f : ℕ → ℕ) (bytes : List ℕ) → T (stated f bytes) → (r : ℕ) → r < 256 → get_or bytes r 0 ≡ f r
states f bytes t r h =
    eqb-true (get_or bytes r 0) (f r)
    (holds (eqb (get_or bytes r 0) (f r))
    (at (λ k x. eqb x (f k)) bytes (both_right (eqb (length bytes) 256) (every (λ k x. eqb x (f k)) 0 bytes) t) r inside))
  where
    inside : r < length bytes
    inside = omega (arith, eqb-true (length bytes) 256 (holds (eqb (length bytes) 256) (both_left (eqb (length bytes) 256) (every (λ k x. eqb x (f k)) 0 bytes) t)))

-- a table of truth values, by their bits
same_bit : (a b : Bool) → bit a ≡ bit b → a ≡ b
same_bit true true e = refl
same_bit true false e = absurd (omega arith)
same_bit false true e = absurd (omega arith)
same_bit false false e = refl

pub flags : (f : ℕ → Bool) (entries : List Bool) → T (stated (λ r. bit (f r)) (map bit entries)) → (r : ℕ) → r < 256 → get_or entries r false ≡ f r
flags f entries t r h =
    same_bit (get_or entries r false) (f r) (sym (get_or-map bit entries r false) ∙ states (λ k. bit (f k)) (map bit entries) t r h)

-- one number of a list
pub only_one : (n v : ℕ) → within n n v ≡ eqb v n
only_one n v = go (leb n v) (leb v n) (eqb v n) refl refl refl
  where
    go : (p q b : Bool) → leb n v ≡ p → leb v n ≡ q → eqb v n ≡ b → (p && q) ≡ b
    go true true true k l e = refl
    go true true false k l e = let h : v ≡ n = omega (arith, leb-true n v k, leb-true v n l) in absurd (eqb-false v n e h)
    go true false true k l e = absurd (omega (arith, eqb-true v n e, leb-false v n l))
    go true false false k l e = refl
    go false q true k l e = absurd (omega (arith, eqb-true v n e, leb-false n v k))
    go false q false k l e = refl

-- a range has every byte from its least to its greatest
by_edges : (x : Range) (v : ℕ) → is_in x v ≡ within (low x) (high x) v
by_edges (range lo hi) v = refl
by_edges (fahrenheit lo hi) v = fahrenheit_bytes lo hi v

-- every register but two takes one range
abbrev single : List Range → Bool
single [] = false
single (x ∷ []) = true
single (x ∷ y ∷ rs) = false

one_range : (rs : List Range) → single rs ≡ true → (v : ℕ) → in_any rs v ≡ within (lowest rs) (highest rs) v
one_range [] t v = let z : ◌≡◌ {A = ℕ} 0 1 = cc in absurd (omega arith)
one_range (x ∷ []) t v = or-false (is_in x v) ∙ by_edges x v
one_range (x ∷ y ∷ rs) t v = let z : ◌≡◌ {A = ℕ} 0 1 = cc in absurd (omega arith)

module _ (r v : ℕ) (h : r < 256) (a : r ≡ 70 → ⊥) (b : r ≡ 132 → ⊥) where
  alone : single (allowed r) ≡ true
  unfolding allowed
  alone =
      sym (simp (ne_eqb r 70 a, ne_eqb r 132 b))
      ∙ holds (eqb r 70 || (eqb r 132 || single (allowed r)))
      (below (λ k. eqb k 70 || (eqb k 132 || single (allowed k))) 256 tt r h)

  pub by_range : takes r v ≡ within (low_of r) (high_of r) v
  by_range = one_range (allowed r) alone v

  pub too_low : v < low_of r → takes r v ≡ false
  too_low l = by_range ∙ simp (lt-leb (low_of r) v l)

  pub low_enough : low_of r ≤ v → takes r v ≡ leb v (high_of r)
  low_enough l = by_range ∙ simp (le-leb (low_of r) v l)

-- the two lists
pub price_levels : (v : ℕ) → takes 70 v ≡ (eqb v 0 || (eqb v 1 || (eqb v 2 || (eqb v 4 || false))))
unfolding allowed
price_levels v = simp (only_one)

pub bauds : (v : ℕ) → takes 132 v ≡ (eqb v 0 || (eqb v 1 || (eqb v 42 || (eqb v 54 || (eqb v 126 || false)))))
unfolding allowed
bauds v = simp (only_one)
