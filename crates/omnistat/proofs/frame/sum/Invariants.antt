use mathlib.Core.Path.{◌≡◌}
use lib.ListN.{take}
use Rattle.omnistat.specs.Frame.{sum_of}
use Rattle.omnistat.proofs.frame.sum.Given as goal

abbrev pub invariant-loop-b : goal.invariant-loop-b
invariant-loop-b l = l.total ≡ sum_of (take l.b-index l.bytes)
