-- What a writer for C answers and leaves in the lent output, by what it is to write. Assumes nothing.
use Prim.Native.Nat.{ℕ}
use mathlib.Core.Path.{◌≡◌, refl, sym, subst}
use mathlib.Core.List.{List, [], ◌∷◌}
use lib.ListN.{length}
use Rattle.answer.specs.Answer.{Outcome, refused, on_accepted, in_room, out_after}
use Rattle.answer.specs.Packed.{packed, word}

module _ (old : List ℕ) where
  abbrev pub Writes : Outcome (List ℕ) → ℕ → List ℕ → Type 0
  Writes o n after =
      (n ≡ packed (on_accepted (λ count. word count ∷ []) (on_accepted length (in_room (length old) o)))) × (after ≡ out_after (in_room (length old) o) old)

  pub writes_same : (o p : Outcome (List ℕ)) (n : ℕ) (after : List ℕ) → o ≡ p → Writes p n after → Writes o n after
  writes_same o p n after e w = subst (λ (x : Outcome (List ℕ)). Writes x n after) (sym e) w

  pub writes_none : (o : Outcome (List ℕ)) (k n : ℕ) → o ≡ refused k → n ≡ packed (refused k) → Writes o n old
  writes_none o k n e p = writes_same o (refused k) n old e (p, refl)
