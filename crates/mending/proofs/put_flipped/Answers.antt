use Prim.Native.Nat.{ℕ, ◌+◌, ◌*◌, ◌/◌, ◌%◌, ◌^◌}
use lib.Bits.{bit_xor}
use lib.ListN.{length, get_or, drop, set}
use mathlib.Core.List.{List, ◌++◌}
use mathlib.Core.Path.{◌≡◌, ap, ◌∙◌}
use Rattle.answer.proofs.Laws.Output.{begun}
use Rattle.mending.proofs.Laws.Written.{flipped_written}
use Rattle.link.proofs.Laws.Copying.{all_copied}
use Rattle.std.proofs.Math.Seq.{take-length}
use Rattle.mending.proofs.put_flipped.Goals as goal

pub returns : goal.returns
returns c =
    let a = c.args in
    let s = c.args.bytes.now in
    let old = c.args.out.now in
    let copied : c.copy.new.to ≡ begun s old = c.copy.ensures ∙ all_copied s old c.requires.bytes_in_bounds ∙ ap (λ (t : List ℕ). t ++ drop (length s) old) (take-length s) in
    ap (λ (o : List ℕ). set o (a.p / 8 + 1) (bit_xor (get_or o (a.p / 8 + 1) 0) (1 * 2 ^ (a.p % 8) % 2 ^ 8))) copied
    ∙ flipped_written s old a.p c.requires.p_in_bounds
