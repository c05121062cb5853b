use Prim.Native.Nat.{ℕ, ◌+◌, ◌/◌, ◌%◌}
use lib.ListN.{length, take, drop, set}
use mathlib.Core.List.{List, ◌++◌}
use mathlib.Core.Path.{ap, ◌∙◌}
use native.Mathlib.Omega.{arith}
use Rattle.crc.specs.Crc.{crc}
use Rattle.link.proofs.Laws.Written.{frame_written}
use Rattle.link.specs.Frame.{covered}
use Rattle.link.proofs.frame.put_frame.Goals as goal

pub returns : goal.returns
returns c =
    let a = c.args in
    let d = a.«data».now in
    let l = length d + 1 in
    c.put_crc.ensures
    ∙ ap (λ (o : List ℕ). set (set o (l + 2) (crc (covered o l) % 256)) (l + 3) (crc (covered o l) / 256))
    (c.put_data.ensures ∙ ap (λ (o : List ℕ). (take 3 o ++ d) ++ drop (length d + 3) o) c.put_head.ensures)
    ∙ frame_written a.kind d a.out.now (omega arith)
