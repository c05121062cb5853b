-- The sum of a message's bytes, taken up byte by byte. Assumes nothing.
use mathlib.Core.Path.{◌≡◌, refl, ap}
use mathlib.Core.List.{List, [], ◌∷◌, ◌++◌}
use Prim.Native.Nat.{ℕ, zero, suc, ◌+◌, ◌%◌, ◌<◌}
use native.Mathlib.Nat.{le_of_suc-le-suc, not-suc-le-zero}
use native.Mathlib.Numerals.{add-one}
use native.Mathlib.Omega.{arith}
use lib.ListN.{length, get_or, take}
use Rattle.omnistat.specs.Frame.{total, sum_of}

pub sum_none : 0 ≡ sum_of []
unfolding total
sum_none = refl

total_suc : (s : List ℕ) (i : ℕ) → i < length s → total (take (suc i) s) ≡ total (take i s) + get_or s i 0
unfolding total
total_suc [] i h = absurd (not-suc-le-zero h)
total_suc (b ∷ s) zero h = omega arith
total_suc (b ∷ s) (suc i) h = omega (arith, total_suc s i (le_of_suc-le-suc h))

pub sum_next : (s : List ℕ) (i : ℕ) → i < length s → (sum_of (take i s) + get_or s i 0) % 256 ≡ sum_of (take (i + 1) s)
sum_next s i h = omega (arith, total_suc s i h, ap (λ (n : ℕ). total (take n s)) (add-one i))

total_both : (s t : List ℕ) → total (s ++ t) ≡ total s + total t
unfolding total
total_both [] t = omega arith
total_both (b ∷ s) t = omega (arith, total_both s t)

-- bytes behind others, in their sum
pub sum_both : (s t : List ℕ) → (sum_of s + sum_of t) % 256 ≡ sum_of (s ++ t)
sum_both s t = omega (arith, total_both s t)
