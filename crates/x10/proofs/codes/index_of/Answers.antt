use mathlib.Core.Path.{ap, ◌∙◌}
use Prim.Native.Nat.{ℕ}
use lib.ListN.{get_or}
use Rattle.x10.proofs.Laws.Codes.{places, place_of}
use Rattle.x10.proofs.codes.index_of.Goals as goal

pub returns : goal.returns
returns c = ap (λ (i : ℕ). get_or places i 0) c.from.ensures ∙ place_of c.args.code c.requires
