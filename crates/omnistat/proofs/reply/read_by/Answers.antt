use mathlib.Core.Path.{sym, ◌∙◌}
use Rattle.omnistat.specs.declared.frame.End.TheVariants.{Host}
use Rattle.omnistat.specs.Answer.{known_in}
use Rattle.omnistat.proofs.Laws.Omnistat.{read-counted, read_text_lem}
use Rattle.omnistat.proofs.Laws.Text.{at_least_three}
use Rattle.omnistat.proofs.reply.read_by.Goals as goal

pub read_text-requires : goal.read_text-requires
read_text-requires c = at_least_three Host c.args.bytes.now (sym c.carries_text.ensures ∙ c.if-carries_text.true)

pub returns-then-carries_text : goal.returns-then-carries_text
returns-then-carries_text c =
    let a = c.args in
    c.read_text.ensures ∙ sym (read_text_lem Host (known_in a.known) a.bytes.now (sym c.carries_text.ensures ∙ c.if-carries_text.true))

pub returns : goal.returns
returns c =
    let a = c.args in
    c.read_counted.ensures ∙ sym (read-counted Host (known_in a.known) a.bytes.now (sym c.carries_text.ensures ∙ c.if-carries_text.false))
