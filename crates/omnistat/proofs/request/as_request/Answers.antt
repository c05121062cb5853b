use mathlib.Core.Path.{sym, ap, ◌∙◌}
use Rattle.answer.specs.Answer.{on_accepted}
use Rattle.omnistat.specs.declared.frame.End.TheVariants.{Thermostat}
use Rattle.omnistat.specs.Omnistat.{addressed_counted}
use Rattle.omnistat.proofs.Laws.Message.{names_poll, names_set}
use Rattle.omnistat.proofs.request.as_request.Goals as goal

pub returns-in-0 : goal.returns-in-0
returns-in-0 c rest =
    let a = c.args in
    c.as_poll.ensures rest ∙ ap (on_accepted (addressed_counted Thermostat a.first)) (sym (names_poll a.kind a.payload.now c.in-0.is))

pub returns-in-1 : goal.returns-in-1
returns-in-1 c rest =
    let a = c.args in
    c.as_set.ensures rest ∙ ap (on_accepted (addressed_counted Thermostat a.first)) (sym (names_set a.kind a.payload.now c.in-1.is))
