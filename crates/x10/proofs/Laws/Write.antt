-- The writers' checks, each decided by a fact, and what a writer hands on. Assumes nothing.
use mathlib.Core.Path.{◌≡◌, refl, sym, ap, ◌∙◌, subst}
use mathlib.Core.List.{List, ◌++◌}
use Prim.Native.Nat.{ℕ, ◌-◌, ◌≤◌, ◌<◌}
use lib.ListN.{length}
use borrow.Author.Tests.{lt-ltb, le-ltb, eq-eqb, ne_eqb}
use Rattle.std.specs.Prelude.{Result, IsErrAnd}
use Rattle.answer.proofs.Laws.Exit.{passed_up}
use Rattle.answer.specs.Answer.{Outcome, refused, accepted, on_accepted, in_room, out_after, number_of, outcome_of}
use Rattle.answer.specs.declared.Refusal.{Refusal}
use Rattle.x10.specs.declared.Function.{Function}
use Rattle.x10.specs.Codes.{code_at, house_code, unit_code, function_code, function_of, extended1}
use Rattle.x10.specs.Pattern.{unit, function, extended, standard, extension, write, write_function_code}

module _ (h : ℕ) where
  pub house_past : 15 < h → house_code h ≡ refused 8
  unfolding house_code
  house_past p = simp (lt-ltb 15 h p)

  pub house_listed : h ≤ 15 → house_code h ≡ accepted (code_at h)
  unfolding house_code
  house_listed p = simp (le-ltb 15 h p)

module _ (u : ℕ) where
  pub unit_zero : u ≡ 0 → unit_code u ≡ refused 8
  unfolding unit_code
  unit_zero e = simp (eq-eqb u 0 e)

  pub unit_some : (u ≡ 0 → ⊥) → unit_code u ≡ house_code (u - 1)
  unfolding unit_code
  unit_some n = simp (ne_eqb u 0 n)

module _ (h u d c : ℕ) (f : Function) where
  module _ (n : ℕ) (e : house_code h ≡ refused n) where
    pub unit_no_house : write (unit h u) ≡ refused n
    unfolding write
    unit_no_house = simp e

    pub function_no_house : write (function h f) ≡ refused n
    unfolding write
    function_no_house = simp e

    pub extended_no_house : write (extended h u d c) ≡ refused n
    unfolding write
    extended_no_house = simp e

  module _ (k : ℕ) (eh : house_code h ≡ accepted k) where
    module _ (n : ℕ) (e : unit_code u ≡ refused n) where
      pub unit_no_unit : write (unit h u) ≡ refused n
      unfolding write
      unit_no_unit = simp (eh, e)

      pub extended_no_unit : write (extended h u d c) ≡ refused n
      unfolding write
      extended_no_unit = simp (eh, e)

    pub function_written : write (function h f) ≡ accepted (standard k (function_code f) 1)
    unfolding write
    function_written = simp eh

    module _ (m : ℕ) (eu : unit_code u ≡ accepted m) where
      pub unit_written : write (unit h u) ≡ accepted (standard k m 0)
      unfolding write
      unit_written = simp (eh, eu)

      pub extended_written : write (extended h u d c) ≡ accepted (standard k extended1 1 ++ extension m d c)
      unfolding write
      extended_written = simp (eh, eu)

module _ (h code : ℕ) where
  pub code_unknown : (n : ℕ) → function_of code ≡ refused n → write_function_code h code ≡ refused n
  unfolding write_function_code
  code_unknown n e = simp e

  pub code_known : (f : Function) → function_of code ≡ accepted f → write_function_code h code ≡ write (function h f)
  unfolding write_function_code
  code_known f e = simp e

-- what a refusal that is passed up hands on is that refusal
pub handed_on : {A B : Type 0} (r : Result A Refusal) (e : Refusal) {o : Outcome B} → IsErrAnd r (λ (x : Refusal). x ≡ e) → refused (number_of e) ≡ o
    → (n : ℕ) × (o ≡ refused n) × (outcome_of r ≡ refused n)
handed_on r e p q = (number_of e, sym q, passed_up r e p)

module _ (l : List ℕ) where
  -- what a writer answers and leaves
  abbrev pub Leaves : Outcome (List ℕ) → Outcome ℕ → List ℕ → Type 0
  Leaves o w out = (w ≡ on_accepted length (in_room (length l) o)) × (out ≡ out_after (in_room (length l) o) l)

  pub refuses : (o : Outcome (List ℕ)) (n : ℕ) → o ≡ refused n → (w : Outcome ℕ) → w ≡ refused n → Leaves o w l
  refuses o n e w f = subst (λ (x : Outcome (List ℕ)). Leaves x w l) (sym e) (f, refl)

  pub hands_on : (o o' : Outcome (List ℕ)) → o ≡ o' → (w : Outcome ℕ) (out : List ℕ) → Leaves o' w out → Leaves o w out
  hands_on o o' e w out p = subst (λ (x : Outcome (List ℕ)). Leaves x w out) (sym e) p
