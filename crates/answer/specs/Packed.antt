-- The C interface's packing: the low byte is the answer number, 0 where accepted; the fields stand above it, the first lowest.
use Rattle.std.specs.Prelude.{ℕ, ◌+◌, ◌*◌, ◌^◌, List, [], ◌∷◌}
use Rattle.answer.specs.Answer.{Outcome, refused, accepted}

-- a field of a packed answer: how many bits it takes, and its value
pub record Field : Type 0 where
  pub bits : ℕ
  pub value : ℕ

abbrev pub field : ℕ → ℕ → Field
field n v = record { bits = n; value = v }

abbrev pub byte : ℕ → Field
byte v = field 8 v

abbrev pub word : ℕ → Field
word v = field 16 v

-- the fields, the first in the lowest bits
abbrev pub stacked : List Field → ℕ
stacked [] = 0
stacked (f ∷ fs) = f.value + 2 ^ f.bits * stacked fs

-- a refusal is its number and nothing else; what is accepted stands above a low byte of 0
abbrev pub packed : Outcome (List Field) → ℕ
packed (refused n) = n
packed (accepted fs) = 2 ^ 8 * stacked fs
