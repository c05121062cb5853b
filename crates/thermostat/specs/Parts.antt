-- What the functions behind the step promise one another.
use Rattle.std.specs.Prelude.{ℕ, ◌+◌, ◌*◌, ◌/◌, Bool, List, [], ◌∷◌}
use Rattle.thermostat.specs.Registers.{Range, range, fahrenheit, in_any, allowed}

-- a register takes a byte
abbrev pub takes : ℕ → ℕ → Bool
takes r v = in_any (allowed r) v

-- the least and the greatest byte of a range: of d degrees Fahrenheit, (10d + 400)/9 rounded up and down; `fahrenheit_bytes` shows it
abbrev pub low : Range → ℕ
low (range lo hi) = lo
low (fahrenheit lo hi) = (10 * lo + 408) / 9

abbrev pub high : Range → ℕ
high (range lo hi) = hi
high (fahrenheit lo hi) = (10 * hi + 400) / 9

-- the least and the greatest byte of some ranges
abbrev pub lowest : List Range → ℕ
lowest [] = 0
lowest (r ∷ rs) = low r

abbrev pub highest : List Range → ℕ
highest [] = 0
highest (r ∷ []) = high r
highest (r ∷ s ∷ rs) = highest (s ∷ rs)

-- the least and the greatest byte that each register takes
abbrev pub low_of : ℕ → ℕ
low_of r = lowest (allowed r)

abbrev pub high_of : ℕ → ℕ
high_of r = highest (allowed r)
