use Prim.Native.Nat.{ℕ, ◌+◌, ◌<◌, ◌≤◌}
use borrow.Author.Tests.{ltb-true, ltb-false}
use lib.Dec.{ltb}
use lib.ListN.{length}
use mathlib.Core.Bool.{Bool, true, false}
use mathlib.Core.Path.{◌≡◌, refl, sym, ap}
use mir.Val.{bool_byte}
use native.Mathlib.Omega.{arith}
use Rattle.listing.proofs.Laws.Numbers.{below_10, below_100, below_1000, below_10000}
use Rattle.listing.specs.Text.{number}
use Rattle.listing.proofs.decimal.digit_count.Goals as goal

at_most_one : (t : Bool) → bool_byte t ≤ 1
at_most_one true = omega arith
at_most_one false = omega arith

by_tests : (n : ℕ) → n < 10000 → (a : Bool) → ltb 9 n ≡ a → (b : Bool) → ltb 99 n ≡ b → (c : Bool) → ltb 999 n ≡ c
    → 1 + bool_byte a + bool_byte b + bool_byte c ≡ length (number n)
by_tests n h false e false f false g = sym (ap length (below_10 n (omega (arith, ltb-false 9 n e))))
by_tests n h true e false f false g = sym (ap length (below_100 n (omega (arith, ltb-true 9 n e)) (omega (arith, ltb-false 99 n f))))
by_tests n h true e true f false g = sym (ap length (below_1000 n (omega (arith, ltb-true 99 n f)) (omega (arith, ltb-false 999 n g))))
by_tests n h true e true f true g = sym (ap length (below_10000 n (omega (arith, ltb-true 999 n g)) h))
by_tests n h false e true f c g = let z : ⊥ = omega (arith, ltb-false 9 n e, ltb-true 99 n f) in absurd z
by_tests n h a e false f true g = let z : ⊥ = omega (arith, ltb-false 99 n f, ltb-true 999 n g) in absurd z

pub overflow_add-result : goal.overflow_add-result
overflow_add-result c = omega (arith, at_most_one (ltb 9 c.args.n))

pub overflow_add-result-2 : goal.overflow_add-result-2
overflow_add-result-2 c = omega (arith, at_most_one (ltb 9 c.args.n), at_most_one (ltb 99 c.args.n))

pub overflow_add-result-3 : goal.overflow_add-result-3
overflow_add-result-3 c = omega (arith, at_most_one (ltb 9 c.args.n), at_most_one (ltb 99 c.args.n), at_most_one (ltb 999 c.args.n))

pub returns : goal.returns
returns c = by_tests c.args.n c.requires _ refl _ refl _ refl
