use mathlib.Core.Path.{sym, ap, ◌∙◌}
use native.Mathlib.Omega.{arith}
use Rattle.answer.specs.Answer.{accepted}
use Rattle.message.proofs.Laws.Lists.{past_pairs, pair_item}
use Rattle.message.specs.Lists.{word_of}
use Rattle.message.proofs.item.event_at.Goals as goal

pub returns-then-data-i : goal.returns-then-data-i
returns-then-data-i c =
    let a = c.args in
    sym (past_pairs word_of a.«data».now a.i (omega arith))

pub returns : goal.returns
returns c =
    let a = c.args in
    ap accepted c.word.ensures ∙ sym (pair_item word_of a.«data».now a.i (omega arith))
