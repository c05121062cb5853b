use mathlib.Core.Path.{ap}
use native.Mathlib.Omega.{arith}
use Rattle.listing.proofs.Laws.Output.{joined, same_bytes}
use Rattle.listing.specs.Text.{refused_word, refusal_text}
use Rattle.mend.proofs.Laws.Text.{begins}
use Rattle.mend.proofs.put_refusal.Goals as goal

pub returns : goal.returns
returns c =
    same_bytes (ap refusal_text c.from.ensures)
    (joined (begins refused_word c.args.out.now _ c.copy_from_slice.ensures.after (omega arith)) c.put_field.ensures)
