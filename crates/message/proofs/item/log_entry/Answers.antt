use lib.ListN.{length}
use mathlib.Core.Path.{◌≡◌, sym, ap, ◌∙◌}
use Rattle.answer.specs.Answer.{Outcome, accepted, and_then}
use Rattle.message.proofs.Laws.Item.{item_carried, item_found, item_refused, log_taken}
use Rattle.message.specs.Item.{item_at, log_fields}
use Rattle.message.specs.Log.{read_log, log_of}
use Rattle.message.specs.declared.log.LogEntry.{LogEntry}
use Rattle.std.proofs.lemmas.Result.{err_from_is_err_and}
use Rattle.message.proofs.item.log_entry.Goals as goal

pub returns-in_err-h : goal.returns-in_err-h
returns-in_err-h c =
    let p = err_from_is_err_and c.from_residual.result c.from_residual.ensures.1 in
    rw (p.1, p.2) (item_refused _ _ _ _ c.in_err-h.ensures)

pub log_of-requires : goal.log_of-requires
log_of-requires c =
    let m = item_carried 0x0E c.args.bytes.now _ c.in_ok-h.ensures in
    ap length c.«data».ensures ∙ (log_taken _ m.0 m.1).0

pub returns : goal.returns
returns c =
    let i = c.args.i in
    let m = item_carried 0x0E c.args.bytes.now _ c.in_ok-h.ensures in
    let d = c.«data».result.now in
    let read : read_log d ≡ accepted (log_of d) = ap read_log c.«data».ensures ∙ (log_taken _ m.0 m.1).1 ∙ ap (λ x. accepted (log_of x)) (sym c.«data».ensures) in
    item_found 0x0E (λ x. and_then (read_log x) (λ e. item_at (log_fields e) i)) _ _ d _ c.in_ok-h.ensures c.«data».ensures
    (c.log_field.ensures
    ∙ ap (λ (e : LogEntry). item_at (log_fields e) i) c.log_of.ensures
    ∙ sym (ap (λ (o : Outcome LogEntry). and_then o (λ e. item_at (log_fields e) i)) read))
