use mathlib.Core.Path.{◌≡◌}
use lib.ListN.{take}
use lib.Seq.{paste}
use Rattle.omnistat.specs.Frame.{sum_of}
use Rattle.omnistat.proofs.frame.put.Given as goal

abbrev pub invariant-loop-i : goal.invariant-loop-i
invariant-loop-i l =
    (l.out ≡ paste l.initial.out l.at l.from l.i) × (l.total ≡ sum_of (take l.i l.from))
