use mathlib.Core.Path.{◌≡◌}
use Prim.Native.Nat.{◌+◌, ◌*◌, ◌^◌, ◌<◌}
use lib.Seq.{slice}
use Rattle.x10.specs.Places.{spelled}
use Rattle.x10.proofs.Laws.Pairs.{spelled_from}
use Rattle.x10.proofs.pairs.spelled.Given as goal

abbrev pub invariant-loop-i : goal.invariant-loop-i
invariant-loop-i l =
    (l.n < 2 ^ l.i)
    × (spelled_from l.n (slice (l.from + 2 * l.i) (l.from + 2 * l.width) l.s) ≡ spelled (slice l.from (l.from + 2 * l.width) l.s))
