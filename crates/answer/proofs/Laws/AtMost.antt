-- Refusals with no number above a bound, through the checks of a definition. Assumes nothing.
use mathlib.Core.Path.{◌≡◌, subst}
use mathlib.Core.Bool.{Bool, true, false, cond}
use Prim.Native.Nat.{ℕ, ◌≤◌}
use Rattle.answer.specs.Answer.{Outcome, refused, accepted, refuse_if, on_accepted, and_then}

-- what is refused is refused with no number above the bound
abbrev pub AtMost : {A : Type 0} → ℕ → Outcome A → Type 0
AtMost bound (refused n) = n ≤ bound
AtMost bound (accepted a) = Unit {0}

module _ {A : Type 0} (bound : ℕ) where
  pub check : (t : Bool) (n : ℕ) (later : Outcome A) → n ≤ bound → AtMost bound later → AtMost bound (refuse_if t n later)
  check true n later h k = h
  check false n later h k = k

  pub either : (t : Bool) (a b : Outcome A) → AtMost bound a → AtMost bound b → AtMost bound (cond t a b)
  either true a b h k = h
  either false a b h k = k

  pub refused_at_most : (o : Outcome A) (n : ℕ) → AtMost bound o → o ≡ refused n → n ≤ bound
  refused_at_most o n h e = subst (AtMost bound) e h

module _ {A B : Type 0} (bound : ℕ) where
  pub make : (f : A → B) (o : Outcome A) → AtMost bound o → AtMost bound (on_accepted f o)
  make f (refused n) h = h
  make f (accepted a) h = tt

  pub further : (o : Outcome A) (f : A → Outcome B) → AtMost bound o → ((a : A) → AtMost bound (f a)) → AtMost bound (and_then o f)
  further (refused n) f h k = h
  further (accepted a) f h k = k a
