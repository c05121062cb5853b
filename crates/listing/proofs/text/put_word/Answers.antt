use Prim.Native.Nat.{◌+◌, ◌-◌}
use lib.ListN.{length, length-take, length-drop}
use mathlib.Core.Path.{◌∙◌}
use native.Mathlib.Omega.{arith}
use Rattle.link.proofs.Laws.Copying.{all_copied}
use Rattle.listing.proofs.Laws.Output.{copied, put_copied}
use Rattle.listing.proofs.text.put_word.Goals as goal

pub returns : goal.returns
returns c =
    let a = c.args in
    put_copied a.word.now a.out.now _ a.at c.requires (c.copy.ensures ∙ all_copied a.word.now _ (simp (length-take, length-drop) (omega arith)) ∙ copied a.word.now _ (a.at + length a.word.now - a.at) (omega arith))
