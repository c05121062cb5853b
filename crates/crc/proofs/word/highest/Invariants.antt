use Prim.Native.Nat.{◌-◌, ◌*◌, ◌^◌, ◌<◌}
use mathlib.Core.Path.{◌≡◌}
use Rattle.crc.specs.Parts.{word}
use Rattle.crc.proofs.word.highest.Given as goal

abbrev pub invariant-loop-byte : goal.invariant-loop-byte
invariant-loop-byte l = (l.s < 2 ^ 64) × (l.s ≡ word l.byte-index l.bytes 0 * 2 ^ (64 - 8 * l.byte-index))
