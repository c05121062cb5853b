use mathlib.Core.Path.{◌≡◌}
use mathlib.Core.Bool.{◌&&◌}
use lib.Dec.{ltb}
use lib.ListN.{drop}
use Rattle.x10.specs.Places.{are_places}
use Rattle.x10.proofs.pairs.are_places.Given as goal

abbrev pub invariant-loop-place : goal.invariant-loop-place
invariant-loop-place l = ltb l.seen 2 && are_places (drop l.place-index l.places) ≡ are_places l.places
