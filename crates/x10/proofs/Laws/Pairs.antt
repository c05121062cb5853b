-- Reading places: one place more, and one pair more. Assumes nothing.
use mathlib.Core.Path.{◌≡◌, refl, sym, ap, ◌∙◌}
use mathlib.Core.Bool.{Bool, true, false, not, ◌&&◌, and_assoc}
use mathlib.Core.List.{List, ◌∷◌}
use Prim.Native.Nat.{ℕ, suc, ◌+◌, ◌*◌, ◌≤◌, ◌<◌}
use native.Mathlib.Numerals.{add-one, add-two}
use native.Mathlib.Omega.{arith}
use lib.Bits.{bit_or, or_lt, or_add_and, and_le_r, and_le_l}
use lib.Dec.{ltb}
use lib.ListN.{length, get_or, drop}
use lib.Seq.{slice, slice_empty, slice-cons, drop-cons}
use borrow.Author.Tests.{lt-ltb, le-ltb, ltb-true, ltb-false, eq-eqb, ne_eqb}
use Rattle.answer.specs.Answer.{Outcome, refused, accepted, on_accepted, refuse_if}
use Rattle.x10.specs.Places.{are_places, unpaired, number_from, spelled}

-- two numbers are below 2 where their bits together are
pub or_below : (x y : ℕ) → ltb (bit_or x y) 2 ≡ ltb x 2 && ltb y 2
or_below x y = go (ltb x 2) (ltb y 2) refl refl
  where
    go : (p q : Bool) → ltb x 2 ≡ p → ltb y 2 ≡ q → ltb (bit_or x y) 2 ≡ p && q
    go true true ex ey = lt-ltb (bit_or x y) 2 (or_lt 1 x y (ltb-true x 2 ex) (ltb-true y 2 ey))
    go true false ex ey =
        let h : 2 ≤ y = ltb-false y 2 ey in
        le-ltb (bit_or x y) 2 (omega (arith, or_add_and x y, and_le_l x y))
    go false q ex ey =
        let h : 2 ≤ x = ltb-false x 2 ex in
        le-ltb (bit_or x y) 2 (omega (arith, or_add_and x y, and_le_r x y))

-- one place more
pub next_place : (l : List ℕ) (i seen : ℕ) → i < length l
    → ltb seen 2 && are_places (drop i l) ≡ ltb (bit_or seen (get_or l i 0)) 2 && are_places (drop (i + 1) l)
next_place l i seen h =
    ap (λ (ps : List ℕ). ltb seen 2 && are_places ps) (drop-cons l i 0 h ∙ ap (λ (j : ℕ). get_or l i 0 ∷ drop j l) (sym (add-one i)))
    ∙ sym (and_assoc (ltb seen 2) (ltb (get_or l i 0) 2) (are_places (drop (i + 1) l)))
    ∙ ap (λ (b : Bool). b && are_places (drop (i + 1) l)) (sym (or_below seen (get_or l i 0)))

module _ (l : List ℕ) (i t : ℕ) where
  one : i < t → t ≤ length l → slice i t l ≡ get_or l i 0 ∷ slice (i + 1) t l
  one h k = slice-cons i t l 0 h k ∙ ap (λ (j : ℕ). get_or l i 0 ∷ slice j t l) (sym (add-one i))

  two : i + 1 < t → t ≤ length l → slice i t l ≡ get_or l i 0 ∷ get_or l (i + 1) 0 ∷ slice (i + 2) t l
  two h k =
      one (omega arith) k
      ∙ ap (λ (ps : List ℕ). get_or l i 0 ∷ ps)
      (slice-cons (i + 1) t l 0 h k
      ∙ ap (λ (j : ℕ). get_or l (i + 1) 0 ∷ slice j t l) (ap suc (add-one i) ∙ sym (add-two i)))

-- what pairs spell after what earlier pairs spelled
abbrev pub spelled_from : ℕ → List ℕ → Outcome ℕ
spelled_from n ps = on_accepted (number_from n) (unpaired ps)

joined : (n b : ℕ) (o : Outcome (List ℕ))
    → on_accepted (number_from n) (on_accepted (λ bs. b ∷ bs) o) ≡ on_accepted (number_from (n * 2 + b)) o
joined n b (refused e) = refl
joined n b (accepted bs) = refl

pub pair_right : (n b c : ℕ) (ps : List ℕ) → b + c ≡ 1 → spelled_from n (b ∷ c ∷ ps) ≡ spelled_from (n * 2 + b) ps
pair_right n b c ps e =
    ap
    (λ (t : Bool). on_accepted (number_from n) (refuse_if (not t) 5 (on_accepted (λ bs. b ∷ bs) (unpaired ps))))
    (eq-eqb (b + c) 1 e)
    ∙ joined n b (unpaired ps)

pub pair_wrong : (n b c : ℕ) (ps : List ℕ) → (b + c ≡ 1 → ⊥) → spelled_from n (b ∷ c ∷ ps) ≡ refused 5
pair_wrong n b c ps e =
    ap
    (λ (t : Bool). on_accepted (number_from n) (refuse_if (not t) 5 (on_accepted (λ bs. b ∷ bs) (unpaired ps))))
    (ne_eqb (b + c) 1 e)

module _ (l : List ℕ) (i t n : ℕ) (h : i + 1 < t) (k : t ≤ length l) where
  -- one pair more
  pub next_pair : get_or l i 0 + get_or l (i + 1) 0 ≡ 1
      → spelled_from n (slice i t l) ≡ spelled_from (n * 2 + get_or l i 0) (slice (i + 2) t l)
  next_pair e = ap (spelled_from n) (two l i t h k) ∙ pair_right n (get_or l i 0) (get_or l (i + 1) 0) (slice (i + 2) t l) e

  -- a wrong complement
  pub wrong_pair : (get_or l i 0 + get_or l (i + 1) 0 ≡ 1 → ⊥) → spelled_from n (slice i t l) ≡ refused 5
  wrong_pair e = ap (spelled_from n) (two l i t h k) ∙ pair_wrong n (get_or l i 0) (get_or l (i + 1) 0) (slice (i + 2) t l) e

-- no pair more
pub no_pair : (t n : ℕ) (l : List ℕ) → spelled_from n (slice t t l) ≡ accepted n
no_pair t n l = ap (spelled_from n) (slice_empty t l)

pub spelled_start : (ps : List ℕ) → spelled_from 0 ps ≡ spelled ps
unfolding spelled
spelled_start ps = refl
