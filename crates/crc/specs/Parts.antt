-- What the functions behind the CRC promise one another.
use Rattle.std.specs.Prelude.{ℕ, zero, suc, ◌+◌, ◌*◌, ◌/◌, Bool, false, cond, List, get_or}
use Rattle.std.specs.Bool.{xor}
use Rattle.std.specs.Int.Bits.{bit_xor}
use Rattle.crc.specs.Bits.{odd}
use Rattle.crc.specs.Crc.{shift}

-- the number that k bytes from offset i on spell, the first byte lowest
unfoldable pub word : ℕ → List ℕ → ℕ → ℕ
word zero s i = 0
word (suc k) s i = get_or s i 0 + 256 * word k s (suc i)

-- the register after some turns with no bit put in
abbrev pub turns : ℕ → ℕ → ℕ
turns zero r = r
turns (suc n) r = turns n (shift r)

-- the parity of a number's k lowest bits
abbrev pub parity : ℕ → ℕ → Bool
parity zero n = false
parity (suc k) n = xor (odd n) (parity k (n / 2))

-- The polynomial is (x+1)(x^15+x+1). A number of 64 bits, turned 64 times, is the xor of two parts.

-- the part that goes by the number's parity alone: where that is odd, x^15+x+1, the lowest power in the highest bit, else 0
unfoldable pub odd_part : ℕ → ℕ
odd_part n = cond (parity 64 n) 0xC001 0

-- the other part: it has an even number of ones, and goes by the number modulo x^15+x+1 alone
unfoldable pub even_part : ℕ → ℕ
even_part n = bit_xor (turns 64 n) (odd_part n)
