-- The search for a place, by what holds at each of the places. Assumes nothing.
use mathlib.Core.Path.{◌≡◌, refl, sym, ap, ◌∙◌}
use mathlib.Core.Bool.{Bool, true, false, cond}
use mathlib.Core.List.{List}
use Prim.Native.Nat.{ℕ, zero, suc, ◌+◌, ◌<◌, ◌≤◌}
use native.Mathlib.Decide.{dec_lt}
use native.Mathlib.Omega.{arith}
use Rattle.answer.specs.Answer.{refused, accepted}
use Rattle.answer.proofs.Laws.Test.{not_both, not_accepted, same}
use Rattle.mending.specs.Mending.{makes_frame, place_from}

module _ (s : List ℕ) where
  -- the only place at which the flip makes a frame is found
  pub found_from : (p n q : ℕ) → p ≤ q → q < p + n → makes_frame s q ≡ true
      → ((r : ℕ) → p ≤ r → r < p + n → makes_frame s r ≡ true → r ≡ q) → place_from s p n ≡ accepted q
  unfolding place_from
  found_from p zero q l h e only = let z : ⊥ = omega arith in absurd z
  found_from p (suc n) q l h e only =
      go (λ more. found_from (suc p) n q more (omega arith) e (λ r k g t. only r (omega arith) (omega arith) t)) (dec_lt p q) (makes_frame s p) refl
    where
      go : (suc p ≤ q → place_from s (suc p) n ≡ accepted q) → Dec (p < q) → (t : Bool) → makes_frame s p ≡ t
          → cond t (accepted p) (place_from s (suc p) n) ≡ accepted q
      go ih d true t = ap accepted (only p (omega arith) (omega arith) t)
      go ih (yes more) false t = ih more
      go ih (no more) false t =
          let here : q ≡ p = omega arith in
          absurd (not_both (ap (makes_frame s) (sym here) ∙ e) t)

  pub none_from : (p n : ℕ) → ((r : ℕ) → p ≤ r → r < p + n → makes_frame s r ≡ true → ⊥) → place_from s p n ≡ refused 5
  unfolding place_from
  none_from p zero none = refl
  none_from p (suc n) none =
      go (none_from (suc p) n (λ r k g t. none r (omega arith) (omega arith) t)) (makes_frame s p) refl
    where
      go : place_from s (suc p) n ≡ refused 5 → (t : Bool) → makes_frame s p ≡ t
          → cond t (accepted p) (place_from s (suc p) n) ≡ refused 5
      go ih true t = absurd (none p (omega arith) (omega arith) t)
      go ih false t = ih

  -- what is answered says so of the places
  pub accepted-from : (p n q : ℕ) → place_from s p n ≡ accepted q → (p ≤ q) × (q < p + n) × (makes_frame s q ≡ true)
  unfolding place_from
  accepted-from p zero q e = absurd (not_accepted 5 q e)
  accepted-from p (suc n) q e = go (accepted-from (suc p) n q) (makes_frame s p) refl e
    where
      go : (place_from s (suc p) n ≡ accepted q → (suc p ≤ q) × (q < suc p + n) × (makes_frame s q ≡ true)) → (t : Bool) → makes_frame s p ≡ t
          → cond t (accepted p) (place_from s (suc p) n) ≡ accepted q → (p ≤ q) × (q < p + suc n) × (makes_frame s q ≡ true)
      go ih true t e = let here : p ≡ q = same e in (omega arith, omega arith, ap (makes_frame s) (sym here) ∙ t)
      go ih false t e = let later = ih e in (omega (arith, later.0), omega (arith, later.1), later.2)

  pub refused-from : (p n m : ℕ) → place_from s p n ≡ refused m → (r : ℕ) → p ≤ r → r < p + n → makes_frame s r ≡ true → ⊥
  unfolding place_from
  refused-from p zero m e r k g t = omega arith
  refused-from p (suc n) m e r k g u = go (λ later. refused-from (suc p) n m later r) (makes_frame s p) refl e (dec_lt p r)
    where
      go : (place_from s (suc p) n ≡ refused m → suc p ≤ r → r < suc p + n → makes_frame s r ≡ true → ⊥) → (t : Bool) → makes_frame s p ≡ t
          → cond t (accepted p) (place_from s (suc p) n) ≡ refused m → Dec (p < r) → ⊥
      go ih true t e₁ d = not_accepted m p (sym e₁)
      go ih false t e₁ (yes more) = ih e₁ more (omega arith) u
      go ih false t e₁ (no more) =
          let here : r ≡ p = omega arith in
          not_both (ap (makes_frame s) (sym here) ∙ u) t
