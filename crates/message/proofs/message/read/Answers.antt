use mathlib.Core.Path.{sym, ap, ◌∙◌}
use Rattle.answer.specs.Answer.{on_accepted}
use Rattle.message.proofs.Laws.Item.{not_headed, message_headed, headed_taken}
use Rattle.message.specs.Message.{message_of, counted}
use Rattle.std.proofs.lemmas.Result.{err_from_is_err_and}
use Rattle.message.proofs.message.read.Goals as goal

pub returns-in_err-h : goal.returns-in_err-h
returns-in_err-h c =
    let p = err_from_is_err_and c.from_residual.result c.from_residual.ensures.1 in
    rw (p.1, p.2) (sym (ap (on_accepted counted) (not_headed c.args.bytes.now _ c.in_err-h.ensures)))

pub of_data-requires : goal.of_data-requires
of_data-requires c =
    let t = headed_taken c.args.bytes.now _ c.in_ok-h.ensures in
    (t.0, ap (message_of c.in_ok-h.h.kind) c.«data».ensures ∙ t.1)

pub returns : goal.returns
returns c =
    c.of_data.ensures
    ∙ ap (on_accepted counted) (ap (message_of c.in_ok-h.h.kind) c.«data».ensures ∙ sym (message_headed c.args.bytes.now _ c.in_ok-h.ensures))
