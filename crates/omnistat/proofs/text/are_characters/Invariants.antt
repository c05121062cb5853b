use mathlib.Core.Path.{◌≡◌}
use mathlib.Core.Bool.{◌&&◌}
use lib.ListN.{drop}
use Rattle.omnistat.specs.Text.{are_characters}
use Rattle.omnistat.proofs.text.are_characters.Given as goal

abbrev pub invariant-loop-b : goal.invariant-loop-b
invariant-loop-b l = are_characters l.bytes ≡ (l.all && are_characters (drop l.b-index l.bytes))
