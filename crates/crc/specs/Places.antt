-- The places at which two bit strings differ, and condition 3's bounds on them; and a byte string with one bit flipped.
use Rattle.std.specs.Prelude.{ℕ, suc, ◌+◌, ◌/◌, ◌%◌, ◌^◌, ◌≤◌, ◌≡◌, Bool, true, false, List, [], ◌∷◌, length, get_or, set}
use Rattle.std.specs.Bool.{xor}
use Rattle.std.specs.Int.Bits.{bit_xor}

-- where two bit strings differ, bit by bit, as far as both go
abbrev pub differences : List Bool → List Bool → List Bool
differences [] bs = []
differences (a ∷ r) [] = []
differences (a ∷ r) (b ∷ bs) = xor a b ∷ differences r bs

-- the places of the set bits, ascending, the first bit's place being k
abbrev pub places : ℕ → List Bool → List ℕ
places k [] = []
places k (true ∷ bs) = k ∷ places (suc k) bs
places k (false ∷ bs) = places (suc k) bs

-- the first and the last of a list of places
abbrev pub first : List ℕ → ℕ
first [] = 0
first (p ∷ ps) = p

abbrev pub last : List ℕ → ℕ
last [] = 0
last (p ∷ []) = p
last (p ∷ (q ∷ ps)) = last (q ∷ ps)

-- condition 3: an even number of places, at least four, the first and last at least 16 apart
pub record Apart (ps : List ℕ) : Type 0 where
  pub even : length ps % 2 ≡ 0
  pub four : 4 ≤ length ps
  pub wide : first ps + 16 ≤ last ps

-- a byte string with the bit at place k of its bit string flipped: bit k % 8 of the byte at k / 8
unfoldable pub flip : List ℕ → ℕ → List ℕ
flip s k = set s (k / 8) (bit_xor (get_or s (k / 8) 0) (2 ^ (k % 8)))
