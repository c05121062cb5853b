-- Document 01, "Registers and the model thermostat", and document 02, K2: which registers are listed, which may be written, and the bytes
-- that each takes.
use Rattle.std.specs.Prelude.{ℕ, Bool, false, not, cond, ◌&&◌, ◌||◌, List, [], ◌∷◌}
use Rattle.omnistat.specs.Register.{within}
use Rattle.thermostat.specs.Temperature.{fahrenheit_within}

-- the numbers between two edges, both included; or the bytes whose Fahrenheit lies between two whole degrees (document 02, K2)
pub data Range : Type 0 where
  range : ℕ → ℕ → Range
  fahrenheit : ℕ → ℕ → Range

-- a number is in a range
abbrev pub is_in : Range → ℕ → Bool
is_in (range lo hi) n = within lo hi n
is_in (fahrenheit lo hi) n = fahrenheit_within lo hi n

abbrev pub only : ℕ → Range
only n = range n n

-- a list of the paper: numbers and ranges
abbrev pub in_any : List Range → ℕ → Bool
in_any [] n = false
in_any (r ∷ rs) n = is_in r n || in_any rs n

-- Listed
unfoldable pub listed : ℕ → Bool
listed r = in_any (only 15 ∷ range 18 68 ∷ range 70 122 ∷ range 131 145 ∷ range 158 171 ∷ []) r

-- Read only (our rule)
unfoldable pub read_only : ℕ → Bool
read_only r = in_any (only 64 ∷ only 71 ∷ only 72 ∷ only 73 ∷ only 162 ∷ only 170 ∷ only 171 ∷ []) r

-- Ranges for writing: the bytes that a register takes. Other listed registers take any byte
unfoldable pub allowed : ℕ → List Range
allowed r =
    cond (in_any (only 58 ∷ []) r) (range 0 6 ∷ [])
    (cond (in_any (only 59 ∷ only 60 ∷ only 163 ∷ only 164 ∷ []) r) (fahrenheit 51 91 ∷ [])
    (cond (in_any (only 61 ∷ []) r) (range 0 4 ∷ [])
    (cond (in_any (only 62 ∷ only 63 ∷ only 131 ∷ only 136 ∷ only 139 ∷ []) r) (range 0 2 ∷ [])
    (cond (in_any (only 132 ∷ []) r) (only 0 ∷ only 1 ∷ only 42 ∷ only 54 ∷ only 126 ∷ [])
    (cond (in_any (only 137 ∷ []) r) (range 0 1 ∷ [])
    (cond (in_any (only 161 ∷ []) r) (range 0 3 ∷ [])
    (cond (in_any (only 65 ∷ only 66 ∷ []) r) (range 0 59 ∷ [])
    (cond (in_any (only 67 ∷ []) r) (range 0 23 ∷ [])
    (cond (in_any (only 70 ∷ []) r) (only 0 ∷ only 1 ∷ only 2 ∷ only 4 ∷ [])
    (cond (in_any (only 138 ∷ []) r) (range 1 19 ∷ [])
    (cond (in_any (only 140 ∷ []) r) (range 0 100 ∷ [])
    (cond (in_any (only 141 ∷ []) r) (range 1 10 ∷ [])
    (cond (in_any (range 143 145 ∷ []) r) (range 2 30 ∷ [])
    (cond (in_any (only 168 ∷ []) r) (range 0 99 ∷ [])
    (range 0 255 ∷ [])))))))))))))))

-- listed, writable and in range
abbrev pub settable : ℕ → ℕ → Bool
settable r v = listed r && not (read_only r) && in_any (allowed r) v
