use Prim.Native.Nat.{ℕ, ◌-◌, ◌*◌, ◌<◌, ◌≤◌}
use lib.ListN.{length}
use mathlib.Core.Path.{◌≡◌}
use Rattle.crc.specs.Parts.{turns}
use Rattle.mending.proofs.find_place.Given as goal

-- a 1 has been turned once for each place from p to the end, and was not the remainder at any of them
abbrev pub invariant-loop-p : goal.invariant-loop-p
invariant-loop-p l =
    (8 ≤ l.p) × (l.p ≤ 8 * (length l.bytes - 1)) × (l.turned ≡ turns (8 * (length l.bytes - 1) - l.p) 1)
    × ((q : ℕ) → l.p ≤ q → q < 8 * (length l.bytes - 1) → l.remainder ≡ turns (8 * (length l.bytes - 1) - q) 1 → ⊥)
