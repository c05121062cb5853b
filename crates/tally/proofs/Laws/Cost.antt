-- The value of a cost word: its power of ten and its bound. Assumes nothing.
use mathlib.Core.Path.{◌≡◌}
use Prim.Native.Nat.{ℕ, ◌%◌, ◌-◌, ◌^◌, ◌≤◌}
use native.Mathlib.Nat.{pow-le-pow_right, mul-le-mul, mod-eq_of_lt}
use native.Mathlib.Omega.{arith}
use lib.Dec.{lit<}
use Rattle.tally.specs.Cost.{millionths, power, decimals}

pub power_most : (p : ℕ) → power p ≤ 1000000
unfolding power
power_most p = let h : 6 - p ≤ 6 = omega arith in pow-le-pow_right {n = 10} (lit< tt) h

-- the largest value: four digits at no decimals
pub millionths_most : (word : ℕ) → millionths word ≤ 9999000000
unfolding millionths
millionths_most word = mul-le-mul {n₁ = word % 10000} {n₂ = 9999} (omega arith) (power_most (decimals word))

-- a value fits the field of 56 bits
pub millionths_short : (word : ℕ) → millionths word % 2 ^ 56 ≡ millionths word
millionths_short word = mod-eq_of_lt (omega (arith, millionths_most word))
