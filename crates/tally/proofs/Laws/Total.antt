-- A reply added to a total, by its reading; a value added to it: the two answers, that what is accepted is the exact sum, and what is refused. Assumes nothing.
use mathlib.Core.Path.{◌≡◌, refl, sym, ap}
use mathlib.Core.Bool.{Bool, true, false}
use mathlib.Core.List.{List}
use Prim.Native.Nat.{ℕ, ◌+◌, ◌-◌, ◌^◌, ◌≤◌, ◌<◌}
use lib.Dec.{ltb}
use borrow.Author.Tests.{ltb-true}
use Rattle.answer.specs.Answer.{Outcome, refused, accepted, refuse_if, and_then}
use Rattle.answer.proofs.Laws.Test.{below, not_below, not_accepted, same, passed}
use Rattle.tally.specs.Reading.{reading}
use Rattle.tally.specs.Total.{exact_sum, plus_word, next_total}

-- a reply added to a total, by what its reading is
pub next_when : (total : ℕ) (reply : List ℕ) (r : Outcome ℕ) → reading reply ≡ r → next_total total reply ≡ and_then r (plus_word total)
next_when total reply r e = ap (λ (o : Outcome ℕ). and_then o (plus_word total)) e

module _ (total v : ℕ) where
  -- the two answers
  pub refused_11 : 2 ^ 64 - 1 < total + v → exact_sum total v ≡ refused 11
  unfolding exact_sum
  refused_11 h = below 11 (accepted (total + v)) (2 ^ 64 - 1) (total + v) h

  pub taken : total + v ≤ 2 ^ 64 - 1 → exact_sum total v ≡ accepted (total + v)
  unfolding exact_sum
  taken h = not_below 11 (accepted (total + v)) (2 ^ 64 - 1) (total + v) h

  -- what is accepted is the exact sum
  pub accepted_exact : (next : ℕ) → exact_sum total v ≡ accepted next → next ≡ total + v
  unfolding exact_sum
  accepted_exact next e = sym (same (passed (ltb (2 ^ 64 - 1) (total + v)) 11 (accepted (total + v)) next e).1)

  -- what is refused is refused with 11 alone, and only where the sum would pass
  pub refused_past : (n : ℕ) → exact_sum total v ≡ refused n → (n ≡ 11) × (2 ^ 64 - 1 < total + v)
  unfolding exact_sum
  refused_past n e = by_test (ltb (2 ^ 64 - 1) (total + v)) refl e
    where
      by_test : (past : Bool) → ltb (2 ^ 64 - 1) (total + v) ≡ past → refuse_if past 11 (accepted (total + v)) ≡ refused n
          → (n ≡ 11) × (2 ^ 64 - 1 < total + v)
      by_test true t e = (cc, ltb-true (2 ^ 64 - 1) (total + v) t)
      by_test false t e = absurd (not_accepted n (total + v) (sym e))
