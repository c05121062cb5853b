use Rattle.std.proofs.Common.{◌+◌, ◌-◌, length, length-take, length-drop, ◌∙◌, arith}
use Rattle.link.proofs.Laws.Copying.{all_copied}
use Rattle.listing.proofs.Laws.Output.{copied, two_parts}
use Rattle.listing.proofs.pieces.join.Goals as goal

pub returns : goal.returns
returns c =
    let u = c.args.unread.now in
    let p = c.args.piece.now in
    two_parts _ _
    (c.copy.ensures ∙ all_copied u _ (simp (length-take, length-drop) (omega arith)) ∙ copied u _ (length u) (omega arith))
    (c.copy-2.ensures ∙ all_copied p _ (simp (length-take, length-drop) (omega arith)) ∙ copied p _ (length u + length p - length u) (omega arith))
