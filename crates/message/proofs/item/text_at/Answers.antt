use Prim.Native.Nat.{ℕ, ◌/◌, ◌%◌}
use lib.ListN.{drop, length-drop}
use lib.Seq.{get_or-drop}
use mathlib.Core.Path.{sym, ap, ◌∙◌}
use native.Mathlib.Omega.{arith}
use Rattle.answer.specs.Answer.{accepted}
use Rattle.message.proofs.Laws.Lists.{past_texts, text_item_lem}
use Rattle.message.specs.Lists.{text_of}
use Rattle.message.specs.Parts.{two_bits}
use Rattle.message.proofs.item.text_at.Goals as goal

pub returns-then-data-i : goal.returns-then-data-i
returns-then-data-i c =
    let a = c.args in
    sym (past_texts (drop 1 a.«data».now) a.i (simp length-drop (omega arith)))

pub returns : goal.returns
returns c =
    let a = c.args in
    let d = a.«data».now in
    ap accepted (c.text_of.ensures ∙ ap text_of c.two_bits-bits.ensures)
    ∙ ap (λ (b : ℕ). accepted (text_of (two_bits b (a.i % 4)))) (sym (get_or-drop 1 d (a.i / 4) 0))
    ∙ sym (text_item_lem (drop 1 d) a.i (simp length-drop (omega arith)))
