-- What a function answers where a `?` in it passes a refusal up. Assumes nothing.
use mathlib.Core.Path.{◌≡◌, ap, ◌∙◌}
use Rattle.std.specs.Prelude.{Result}
use Rattle.std.specs.Result.{IsErrAnd}
use Rattle.std.proofs.lemmas.Result.{err_from_is_err_and}
use Rattle.answer.specs.declared.Refusal.{Refusal}
use Rattle.answer.specs.Answer.{refused, number_of, on_accepted, outcome_of}

module _ {A : Type 0} (x : Result A Refusal) (r : Refusal) (exit : IsErrAnd x (λ y. y ≡ r)) where
  pub passed_up : outcome_of x ≡ refused (number_of r)
  passed_up =
      let p = err_from_is_err_and x exit in
      ap outcome_of p.1 ∙ ap (λ (y : Refusal). refused (number_of y)) p.2

  -- also where what is accepted is read in some way
  pub still_passed_up : {M : Type 0} (f : A → M) → on_accepted f (outcome_of x) ≡ refused (number_of r)
  still_passed_up f = ap (on_accepted f) passed_up
