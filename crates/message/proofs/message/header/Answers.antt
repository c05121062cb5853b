use Rattle.std.proofs.lemmas.Result.{err_from_is_err_and}
use Rattle.message.proofs.Laws.Item.{header_unread, header_unchecked, header_checked}
use Rattle.message.proofs.message.header.Goals as goal

pub returns-in_err-h : goal.returns-in_err-h
returns-in_err-h c =
    let p = err_from_is_err_and c.from_residual.result c.from_residual.ensures.1 in
    rw (p.1, p.2) (header_unread _ _ c.in_err-h.ensures)

pub returns-in_err-check : goal.returns-in_err-check
returns-in_err-check c =
    let p = err_from_is_err_and c.from_residual-in_err-check.result c.from_residual-in_err-check.ensures.1 in
    rw (p.1, p.2) (header_unchecked _ _ c.in_ok-h.ensures _ c.«data».ensures _ c.in_err-check.ensures)

pub returns : goal.returns
returns c = header_checked _ _ c.in_ok-h.ensures _ c.«data».ensures c.in_ok-check.ensures
