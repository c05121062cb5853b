-- Document 01, "Registers and the model thermostat", and document 02, K2: temperatures and setpoint pairs.
use Rattle.std.specs.Prelude.{ℕ, zero, suc, ◌+◌, ◌-◌, ◌*◌, Bool, cond, ◌&&◌, List, [], ◌∷◌, ltb, ℤ, pos, ◌-ℤ◌, Float}
use Rattle.std.specs.Int.Signed.{le_z}
use Rattle.std.specs.Float.{binary32}
use Rattle.std.specs.Float.Ieee.{round, eq}
use Rattle.answer.specs.Answer.{Outcome, refused, accepted, on_accepted, and_then}
use Rattle.answer.specs.Packed.{Field, byte}

-- byte n is n/2 - 40 degrees Celsius: n - 80 half degrees, below zero under 80. The f32 nearest to so many half degrees; the theorem `exact`
-- says that it is that number itself
unfoldable pub celsius : ℕ → Float
celsius n = round binary32 (ltb n 80) ((n - 80) + (80 - n)) 2

-- 9n - 400 tenths of a degree Fahrenheit
abbrev pub fahrenheit_tenths : ℕ → ℤ
fahrenheit_tenths n = pos (9 * n) -ℤ pos 400

-- document 02, K2: the Fahrenheit of a byte lies between two whole degrees, both included
abbrev pub fahrenheit_within : ℕ → ℕ → ℕ → Bool
fahrenheit_within lo hi n = le_z (pos (10 * lo)) (fahrenheit_tenths n) && le_z (fahrenheit_tenths n) (pos (10 * hi))

-- the first of k bytes from n on whose temperature equals x, as floats are compared: minus zero equals zero, and a NaN equals nothing
unfoldable pub first_equal : ℕ → ℕ → Float → Outcome ℕ
first_equal zero n x = refused 8
first_equal (suc k) n x = cond (eq x (celsius n)) (accepted n) (first_equal k (suc n) x)

-- only exact half degrees from -40 to 87.5 go back, all else is 8
unfoldable pub byte_of : Float → Outcome ℕ
byte_of x = first_equal 256 0 x

-- a setpoint pair as bytes: cool, then heat; either value bad is 8
abbrev pub bytes_of : Float → Float → Outcome (ℕ × ℕ)
bytes_of cool heat = and_then (byte_of cool) (λ c. on_accepted (λ h. (c, h)) (byte_of heat))

-- for C: cool byte, heat byte
abbrev pub pair_fields : ℕ × ℕ → List Field
pair_fields p = byte p.0 ∷ byte p.1 ∷ []
