-- A check by a test that the code worked out. Assumes nothing.
use mathlib.Core.Path.{◌≡◌, refl, sym, ap, ◌∙◌}
use mathlib.Core.Bool.{Bool, true, false, not, cond, ◌&&◌}
use Prim.Native.Nat.{ℕ}
use native.Mathlib.Omega.{arith}
use Rattle.answer.specs.Answer.{Outcome, refused, accepted, refuse_if, on_accepted}
use Rattle.answer.proofs.Laws.Test.{on_accepted_lem, still_refused}

module _ {A : Type 0} (n : ℕ) (later : Outcome A) {t listed : Bool} (is : t ≡ listed) where
  pub refuses : t ≡ false → refused n ≡ refuse_if (not listed) n later
  refuses e = ap (λ (b : Bool). refuse_if (not b) n later) (sym e ∙ is)

  pub passes : t ≡ true → later ≡ refuse_if (not listed) n later
  passes e = ap (λ (b : Bool). refuse_if (not b) n later) (sym e ∙ is)

-- what is done of what is accepted may be done behind the check
pub behind_check : {A B : Type 0} (f : A → B) (t : Bool) (n : ℕ) (later : Outcome A)
    → on_accepted f (refuse_if t n later) ≡ refuse_if t n (on_accepted f later)
behind_check f true n later = refl
behind_check f false n later = refl

-- what stands behind an answer that was mapped
pub was_accepted : {A B : Type 0} (f : A → B) (o : Outcome A) (b : B) → accepted b ≡ on_accepted f o
    → (a : A) × (o ≡ accepted a) × (b ≡ f a)
was_accepted f o b e =
    let r = on_accepted_lem f o b (sym e) in
    (r.0, r.1, sym r.2)

pub was_refused : {A B : Type 0} (f : A → B) (o : Outcome A) (n : ℕ) → refused n ≡ on_accepted f o → o ≡ refused n
was_refused f o n e = still_refused f o n (sym e)

-- nothing follows from a test that fails and holds
pub never : {G : Type 0} → ◌≡◌ {A = Bool} false true → G
never e = let z : ◌≡◌ {A = ℕ} 0 1 = ap (λ t. cond t 1 0) e in let nothing : ⊥ = omega arith in absurd nothing

-- where two tests hold together, each holds
pub both : {a b : Bool} → (a && b) ≡ true → (a ≡ true) × (b ≡ true)
both {a = true} e = (refl, e)
both {a = false} e = never e
