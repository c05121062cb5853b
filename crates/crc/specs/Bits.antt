-- Byte strings as bit strings, lowest bit of each byte first.
use Rattle.std.specs.Prelude.{ℕ, zero, suc, ◌/◌, ◌%◌, Bool, List, [], ◌∷◌, ◌++◌, eqb}

-- whether a number's lowest bit is set
abbrev pub odd : ℕ → Bool
odd n = eqb (n % 2) 1

-- the k lowest bits of a number, the lowest first
abbrev pub bits_of : ℕ → ℕ → List Bool
bits_of zero n = []
bits_of (suc k) n = odd n ∷ bits_of k (n / 2)

-- the bits of a byte string: of each byte its eight, the lowest first
abbrev pub bit_string : List ℕ → List Bool
bit_string [] = []
bit_string (b ∷ bs) = bits_of 8 b ++ bit_string bs
