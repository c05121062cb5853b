use mathlib.Core.Path.{◌≡◌}
use Prim.Native.Nat.{◌+◌, ◌*◌, ◌-◌, ◌≤◌}
use lib.ListN.{length}
use lib.Seq.{sets}
use Rattle.x10.specs.Places.{paired, bits}
use Rattle.x10.proofs.pairs.put.Given as goal

abbrev pub invariant-loop-i : goal.invariant-loop-i
invariant-loop-i l =
    (l.i ≤ l.width)
    × (length l.out ≡ length l.initial.out)
    × (sets l.out (l.from + 2 * l.i) (paired (bits (l.width - l.i) l.n)) ≡ sets l.initial.out l.from (paired (bits l.width l.n)))

abbrev pub decreases-loop-i : goal.decreases-loop-i
decreases-loop-i l = l.width - l.i
