use mathlib.Core.Path.{sym, ap, ◌∙◌}
use Rattle.answer.specs.Answer.{Outcome, on_accepted}
use Rattle.answer.specs.Packed.{packed}
use Rattle.answer.proofs.Laws.Test.{in_one}
use Rattle.omnistat.specs.declared.frame.End.TheVariants.{Host}
use Rattle.omnistat.specs.Text.{read_text}
use Rattle.omnistat.specs.Omnistat.{Message, Addressed, addressed_text}
use Rattle.omnistat.specs.Answer.{fields_by, known_in}
use Rattle.omnistat.proofs.Laws.Omnistat.{read-counted, read_text_lem}
use Rattle.omnistat.proofs.Laws.Text.{at_least_three}
use Rattle.omnistat.proofs.reply.read_packed.Goals as goal

pub pack-requires : goal.pack-requires
pack-requires c = at_least_three Host c.args.bytes.now (sym c.carries_text.ensures ∙ c.if-carries_text.true)

pub returns-then-carries_text : goal.returns-then-carries_text
returns-then-carries_text c =
    let a = c.args in
    let s = c.args.bytes.now in
    c.pack.ensures
    ∙ ap packed (sym (in_one (addressed_text Host) (fields_by Host (known_in a.known)) (read_text Host s)))
    ∙ ap (λ (o : Outcome (Addressed (Message Host))). packed (on_accepted (fields_by Host (known_in a.known)) o))
    (sym (read_text_lem Host (known_in a.known) s (sym c.carries_text.ensures ∙ c.if-carries_text.true)))

pub returns : goal.returns
returns c =
    let a = c.args in
    let s = c.args.bytes.now in
    c.pack_counted.ensures
    ∙ ap (λ (o : Outcome (Addressed (Message Host))). packed (on_accepted (fields_by Host (known_in a.known)) o))
    (sym (read-counted Host (known_in a.known) s (sym c.carries_text.ensures ∙ c.if-carries_text.false)))
