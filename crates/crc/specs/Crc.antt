-- The CRC of document 000, Appendix A, on bits.
use Rattle.std.specs.Prelude.{ℕ, ◌*◌, ◌/◌, ◌%◌, Bool, List, [], ◌∷◌}
use Rattle.std.specs.Int.Bits.{bit_xor}
use Rattle.answer.specs.Bit.{bit}
use Rattle.crc.specs.Bits.{bit_string}

-- one turn of Appendix A's loop: shift right, and where a 1 was shifted out, xor x^16+x^15+x^2+1, written lowest power in the highest bit
abbrev pub shift : ℕ → ℕ
shift r = bit_xor (r / 2) (r % 2 * 0xA001)

-- the register after the bits, each put into its lowest bit before the turn
unfoldable pub feed : ℕ → List Bool → ℕ
feed r [] = r
feed r (b ∷ bs) = feed (shift (bit_xor r (bit b))) bs

-- the CRC of a byte string: start value 0, bits taken lowest first
unfoldable pub crc : List ℕ → ℕ
crc bytes = feed 0 (bit_string bytes)
