use Prim.Native.Nat.{ℕ}
use lib.Seq.{length-take-le}
use mathlib.Core.List.{List}
use mathlib.Core.Path.{sym, ap, ◌∙◌}
use Rattle.answer.specs.Answer.{on_accepted}
use Rattle.link.specs.Frame.{header, read_frame, read_first}
use Rattle.link.proofs.frame.read_first.Goals as goal

pub slice_bounds-read-end : goal.slice_bounds-read-end
slice_bounds-read-end c = sym (length-take-le c.first_size-size.result c.args.bytes.now c.first_size-size.ensures.within)

pub returns : goal.returns
unfolding read_first
returns c = c.read.ensures ∙ ap (λ (s : List ℕ). on_accepted header (read_frame s)) c.first_size-size.ensures.same
