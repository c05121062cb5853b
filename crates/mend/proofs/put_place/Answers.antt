use Prim.Native.Nat.{ℕ}
use mathlib.Core.List.{◌++◌}
use mathlib.Core.Path.{ap}
use native.Mathlib.Omega.{arith}
use Rattle.listing.proofs.Laws.Output.{joined, same_bytes}
use Rattle.listing.specs.Text.{field, line_feed}
use Rattle.mend.proofs.Laws.Text.{begins}
use Rattle.mend.specs.Printed.{place_word}
use Rattle.mend.proofs.put_place.Goals as goal

pub returns : goal.returns
returns c =
    same_bytes (ap (λ (p : ℕ). place_word ++ field p line_feed) c.from.ensures)
    (joined (begins place_word c.args.out.now _ c.copy_from_slice.ensures.after (omega arith)) c.put_field.ensures)
