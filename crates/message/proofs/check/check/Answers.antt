use mathlib.Core.Path.{sym, ap, ◌∙◌}
use Rattle.answer.specs.Answer.{on_accepted}
use Rattle.message.specs.Parts.{nothing}
use Rattle.message.specs.declared.message.Fixed.TheVariants as F
use Rattle.message.proofs.Laws.Kinds.{plain_type, data_type}
use Rattle.message.proofs.check.check.Goals as goal

pub returns-then-is_plain : goal.returns-then-is_plain
returns-then-is_plain c =
    c.plain.ensures F.Acknowledge ∙ plain_type c.args.kind c.args.«data».now (sym c.is_plain.ensures ∙ c.if-is_plain.true)

pub returns : goal.returns
returns c =
    c.with_data.ensures ∙ sym (ap (on_accepted nothing) (data_type c.args.kind c.args.«data».now (sym c.is_plain.ensures ∙ c.if-is_plain.false)))
