-- The code list is a bijection of the 16 codes, by a test over the list, and a second list says where each code stands, by another. Assumes nothing.
use mathlib.Core.Path.{◌≡◌, refl, sym, ap, ◌∙◌}
use mathlib.Core.Bool.{Bool, true, false, not, cond, ◌&&◌}
use mathlib.Core.List.{List, [], ◌∷◌}
use Prim.Native.Nat.{ℕ, ◌<◌}
use lib.ListN.{get_or}
use lib.Dec.{T, eqb, ltb, eqb→eq, ltb→lt}
use borrow.Author.Tests.{ne_eqb, eqb-true, eqb-false, not-true}
use Rattle.answer.specs.Answer.{refused, accepted}
use Rattle.x10.specs.declared.Function.{Function}
use Rattle.x10.specs.declared.Function.TheVariants.{AllUnitsOff, AllLightsOn, On, Off, Dim, Bright, AllLightsOff, HailRequest, HailAcknowledge, StatusOn, StatusOff, StatusRequest}
use Rattle.x10.specs.Codes.{codes, code_at, index_of, function_code, functions, function_in, function_of, extended1}
use Rattle.answer.proofs.Laws.Test.{not_accepted, same}
use Rattle.answer.proofs.Laws.Table.{both_left, both_right, holds as is_true, at, below}

-- the rule of the list, at place i with the code x: the code is one of 16 and its place is i; and the code i has a place, where it stands
rule : ℕ → ℕ → Bool
rule i x = ltb x 16 && (eqb (index_of x) i && (ltb (index_of i) 16 && eqb (code_at (index_of i)) i))

-- where each code stands
abbrev pub places : List ℕ
places = 12 ∷ 4 ∷ 2 ∷ 10 ∷ 14 ∷ 6 ∷ 0 ∷ 8 ∷ 13 ∷ 5 ∷ 3 ∷ 11 ∷ 15 ∷ 7 ∷ 1 ∷ 9 ∷ []

right : ℕ → Bool
right i = eqb (get_or places i 0) (index_of i)

module _ (i : ℕ) (h : i < 16) where
  holds : T (rule i (code_at i))
  unfolding rule code_at index_of
  holds = at rule codes tt i h

  there : T (eqb (index_of (code_at i)) i && (ltb (index_of i) 16 && eqb (code_at (index_of i)) i))
  unfolding rule
  there = both_right (ltb (code_at i) 16) (eqb (index_of (code_at i)) i && (ltb (index_of i) 16 && eqb (code_at (index_of i)) i)) holds

  back : T (ltb (index_of i) 16 && eqb (code_at (index_of i)) i)
  back = both_right (eqb (index_of (code_at i)) i) (ltb (index_of i) 16 && eqb (code_at (index_of i)) i) there

  pub code_small : code_at i < 16
  unfolding rule
  code_small =
      ltb→lt (code_at i) 16
      (both_left (ltb (code_at i) 16) (eqb (index_of (code_at i)) i && (ltb (index_of i) 16 && eqb (code_at (index_of i)) i)) holds)

  pub index_of_code : index_of (code_at i) ≡ i
  index_of_code =
      eqb→eq (index_of (code_at i)) i (both_left (eqb (index_of (code_at i)) i) (ltb (index_of i) 16 && eqb (code_at (index_of i)) i) there)

  pub index_small : index_of i < 16
  index_small = ltb→lt (index_of i) 16 (both_left (ltb (index_of i) 16) (eqb (code_at (index_of i)) i) back)

  pub code_at_index : code_at (index_of i) ≡ i
  code_at_index = eqb→eq (code_at (index_of i)) i (both_right (ltb (index_of i) 16) (eqb (code_at (index_of i)) i) back)

  pub place_of : get_or places i 0 ≡ index_of i
  unfolding right index_of
  place_of = eqb→eq (get_or places i 0) (index_of i) (below right 16 tt i h)

-- each function is found by its code
pub function_found : (f : Function) → function_of (function_code f) ≡ accepted f
unfolding function_of
function_found AllUnitsOff = refl
function_found AllLightsOn = refl
function_found On = refl
function_found Off = refl
function_found Dim = refl
function_found Bright = refl
function_found AllLightsOff = refl
function_found HailRequest = refl
function_found HailAcknowledge = refl
function_found StatusOn = refl
function_found StatusOff = refl
function_found StatusRequest = refl

pub found : (f : Function) (code : ℕ) → code ≡ function_code f → accepted f ≡ function_of code
found f code e = sym (ap function_of e ∙ function_found f)

other : (a code : ℕ) → (code ≡ a → ⊥) → eqb a code ≡ false
other a code h = ne_eqb a code (λ e. h (sym e))

-- a code that is no function's
pub no_function : (code : ℕ)
    → (code ≡ 0 → ⊥)
    → (code ≡ 1 → ⊥)
    → (code ≡ 2 → ⊥)
    → (code ≡ 3 → ⊥)
    → (code ≡ 4 → ⊥)
    → (code ≡ 5 → ⊥)
    → (code ≡ 6 → ⊥)
    → (code ≡ 8 → ⊥)
    → (code ≡ 9 → ⊥)
    → (code ≡ 13 → ⊥)
    → (code ≡ 14 → ⊥)
    → (code ≡ 15 → ⊥)
    → refused 6 ≡ function_of code
unfolding function_of
no_function code n0 n1 n2 n3 n4 n5 n6 n8 n9 n13 n14 n15 =
    simp (
      other 0 code n0,
      other 1 code n1,
      other 2 code n2,
      other 3 code n3,
      other 4 code n4,
      other 5 code n5,
      other 6 code n6,
      other 8 code n8,
      other 9 code n9,
      other 13 code n13,
      other 14 code n14,
      other 15 code n15,
    )

-- the codes of functions have four bits, and none is that of Extended 1
plain : (f : Function) → T (ltb (function_code f) 16 && not (eqb (function_code f) extended1))
plain AllUnitsOff = tt
plain AllLightsOn = tt
plain On = tt
plain Off = tt
plain Dim = tt
plain Bright = tt
plain AllLightsOff = tt
plain HailRequest = tt
plain HailAcknowledge = tt
plain StatusOn = tt
plain StatusOff = tt
plain StatusRequest = tt

pub code_below : (f : Function) → function_code f < 16
code_below f = ltb→lt (function_code f) 16 (both_left (ltb (function_code f) 16) (not (eqb (function_code f) extended1)) (plain f))

pub code_plain : (f : Function) → function_code f ≡ extended1 → ⊥
code_plain f =
    eqb-false (function_code f) extended1
    (not-true (eqb (function_code f) extended1)
    (is_true (not (eqb (function_code f) extended1)) (both_right (ltb (function_code f) 16) (not (eqb (function_code f) extended1)) (plain f))))

-- a function that is found by a code has it
found_in : (fs : List Function) (code : ℕ) (f : Function) → function_in fs code ≡ accepted f → function_code f ≡ code
found_in [] code f e = absurd (not_accepted _ _ e)
found_in (g ∷ fs) code f e = go (found_in fs code f) (eqb (function_code g) code) refl e
  where
    go : (function_in fs code ≡ accepted f → function_code f ≡ code) → (t : Bool) → eqb (function_code g) code ≡ t
        → cond t (accepted g) (function_in fs code) ≡ accepted f → function_code f ≡ code
    go rec true et e = ap function_code (sym (same e)) ∙ eqb-true (function_code g) code et
    go rec false et e = rec e

pub found_code : (code : ℕ) (f : Function) → function_of code ≡ accepted f → function_code f ≡ code
unfolding function_of
found_code code f e = found_in functions code f e
