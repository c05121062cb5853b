-- One check of a definition against the fact that decides it. Assumes nothing.
use mathlib.Core.Path.{◌≡◌, refl, sym, ap, ◌∙◌}
use mathlib.Core.Bool.{Bool, true, false, not, cond}
use mathlib.Core.Logic.{◌⊎◌, inl, inr}
use Prim.Native.Nat.{ℕ, ◌<◌, ◌≤◌}
use native.Mathlib.Omega.{arith}
use lib.Dec.{ltb, eqb}
use borrow.Author.Tests.{lt-ltb, le-ltb, eq-eqb, ne_eqb}
use Rattle.answer.specs.Bit.{bit}
use Rattle.answer.specs.Answer.{Outcome, refused, accepted, refuse_if, on_accepted, and_then, is_accepted}

module _ {A : Type 0} (n : ℕ) (later : Outcome A) where
  pub holds : {t : Bool} → t ≡ true → refuse_if t n later ≡ refused n
  holds e = ap (λ (t : Bool). refuse_if t n later) e

  pub fails : {t : Bool} → t ≡ false → refuse_if t n later ≡ later
  fails e = ap (λ (t : Bool). refuse_if t n later) e

  module _ (a b : ℕ) where
    pub below : a < b → refuse_if (ltb a b) n later ≡ refused n
    below h = holds (lt-ltb a b h)

    pub not_below : b ≤ a → refuse_if (ltb a b) n later ≡ later
    not_below h = fails (le-ltb a b h)

    pub equal : a ≡ b → refuse_if (eqb a b) n later ≡ refused n
    equal h = holds (eq-eqb a b h)

    pub not_equal : (a ≡ b → ⊥) → refuse_if (eqb a b) n later ≡ later
    not_equal h = fails (ne_eqb a b h)

-- a refusal is nothing accepted
pub not_accepted : {A : Type 0} (n : ℕ) (a : A) → ◌≡◌ {A = Outcome A} (refused n) (accepted a) → ⊥
not_accepted n a e = let z : ◌≡◌ {A = ℕ} 0 1 = cc in omega arith

-- no test both holds and fails
pub not_both : {b : Bool} → b ≡ true → b ≡ false → ⊥
not_both t f = let z : ◌≡◌ {A = ℕ} 1 0 = ap bit (sym t ∙ f) in omega arith

-- what a call accepts
pub is_accepted_lem : {A : Type 0} (o : Outcome A) → is_accepted o ≡ true → (a : A) × (o ≡ accepted a)
is_accepted_lem (refused n) e = absurd (not_both e refl)
is_accepted_lem (accepted a) e = (a, refl)

pub same : {A : Type 0} {a b : A} → accepted a ≡ accepted b → a ≡ b
same e = cc

-- what was accepted passed the check
pub passed : {A : Type 0} (t : Bool) (n : ℕ) (later : Outcome A) (a : A) → refuse_if t n later ≡ accepted a
    → (t ≡ false) × (later ≡ accepted a)
passed true n later a e = absurd (not_accepted n a e)
passed false n later a e = (refl, e)

pub passed_not : {A : Type 0} (t : Bool) (n : ℕ) (later : Outcome A) (a : A) → refuse_if (not t) n later ≡ accepted a
    → (t ≡ true) × (later ≡ accepted a)
passed_not true n later a e = (refl, e)
passed_not false n later a e = absurd (not_accepted n a e)

-- what is refused with another number passed the check
pub passed_over : {A : Type 0} (t : Bool) (n m : ℕ) (later : Outcome A) → (n ≡ m → ⊥) → refuse_if t n later ≡ refused m
    → (t ≡ false) × (later ≡ refused m)
passed_over true n m later other e = let h : n ≡ m = cc in absurd (other h)
passed_over false n m later other e = (refl, e)

-- what stands behind an answer that was read further
module _ {A B : Type 0} where
  pub then_accepted : (o : Outcome A) (f : A → Outcome B) (b : B) → and_then o f ≡ accepted b → (a : A) × (o ≡ accepted a) × (f a ≡ accepted b)
  then_accepted (refused n) f b e = absurd (not_accepted n b e)
  then_accepted (accepted a) f b e = (a, refl, e)

  pub on_accepted_lem : (f : A → B) (o : Outcome A) (b : B) → on_accepted f o ≡ accepted b → (a : A) × (o ≡ accepted a) × (f a ≡ b)
  on_accepted_lem f (refused n) b e = absurd (not_accepted n b e)
  on_accepted_lem f (accepted a) b e = (a, refl, same e)

  pub still_refused : (f : A → B) (o : Outcome A) (n : ℕ) → on_accepted f o ≡ refused n → o ≡ refused n
  still_refused f (refused m) n e = let h : m ≡ n = cc in ap refused h
  still_refused f (accepted a) n e = absurd (not_accepted n (f a) (sym e))

-- what is done of what is accepted, in two steps or in one
pub in_one : {A B C : Type 0} (f : A → B) (g : B → C) (o : Outcome A) → on_accepted g (on_accepted f o) ≡ on_accepted (λ a. g (f a)) o
in_one f g (refused n) = refl
in_one f g (accepted a) = refl

-- either way of a test
pub chosen : {A : Type 0} (t : Bool) (x y z : A) → cond t x y ≡ z → ((t ≡ true) × (x ≡ z)) ⊎ ((t ≡ false) × (y ≡ z))
chosen true x y z e = inl (refl, e)
chosen false x y z e = inr (refl, e)
