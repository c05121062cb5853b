use Prim.Native.Nat.{◌*◌}
use lib.ListN.{drop}
use mathlib.Core.Path.{◌≡◌}
use Rattle.message.specs.Lists.{zones_listed}
use Rattle.message.proofs.message.zones_listed.Given as goal

abbrev pub invariant-loop-i : goal.invariant-loop-i
invariant-loop-i l = zones_listed l.data ≡ zones_listed (drop (2 * l.i) l.data)
