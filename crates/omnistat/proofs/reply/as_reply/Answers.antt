use mathlib.Core.Path.{sym, ap, ◌∙◌}
use native.Mathlib.Omega.{arith}
use Rattle.answer.specs.Answer.{on_accepted}
use Rattle.omnistat.specs.declared.frame.End.TheVariants.{Host}
use Rattle.omnistat.specs.Omnistat.{addressed_counted}
use Rattle.omnistat.specs.Answer.{known_in}
use Rattle.omnistat.proofs.Laws.Message.{names_data, names_group}
use Rattle.omnistat.proofs.reply.as_reply.Goals as goal

pub returns-in-2 : goal.returns-in-2
returns-in-2 c rest =
    let a = c.args in
    c.as_data.ensures rest ∙ ap (on_accepted (addressed_counted Host a.number)) (sym (names_data a.kind a.payload.now (known_in a.known) c.in-2.is))

pub returns-in-Some : goal.returns-in-Some
returns-in-Some c rest =
    let a = c.args in
    c.as_group.ensures rest
    ∙ ap (on_accepted (addressed_counted Host a.number))
    (sym (names_group a.kind a.payload.now (known_in a.known) (λ z. omega arith) (λ z. omega arith) (λ z. omega arith) _ c.in-Some.ensures))
