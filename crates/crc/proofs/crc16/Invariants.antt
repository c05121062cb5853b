use Prim.Native.Nat.{◌-◌, ◌%◌, ◌≤◌}
use lib.Bits.{bit_xor}
use lib.ListN.{length, take}
use mathlib.Core.Path.{◌≡◌}
use Rattle.crc.specs.Crc.{crc}
use Rattle.crc.specs.Parts.{even_part, odd_part}
use Rattle.crc.proofs.crc16.Given as goal

abbrev pub invariant-loop-i : goal.invariant-loop-i
invariant-loop-i l =
    (l.i ≤ length l.bytes) × ((length l.bytes - l.i) % 8 ≡ 0) × (crc (take l.i l.bytes) ≡ bit_xor (even_part l.s) (odd_part l.all))

abbrev pub decreases-loop-i : goal.decreases-loop-i
decreases-loop-i l = length l.bytes - l.i
