use lib.Dec.{eqb}
use lib.ListN.{drop}
use mathlib.Core.Bool.{◌&&◌}
use mathlib.Core.Path.{◌≡◌}
use Rattle.listing.specs.State.{all_zero}
use Rattle.listing.proofs.state.is_zero.Given as goal

abbrev pub invariant-loop-b : goal.invariant-loop-b
invariant-loop-b l = all_zero l.bytes ≡ (eqb l.all 0 && all_zero (drop l.b-index l.bytes))
