use Rattle.std.proofs.lemmas.Result.{err_from_is_err_and}
use Rattle.message.proofs.Laws.Item.{item_found, item_refused}
use Rattle.message.proofs.item.zone.Goals as goal

pub returns-in_err-h : goal.returns-in_err-h
returns-in_err-h c =
    let p = err_from_is_err_and c.from_residual.result c.from_residual.ensures.1 in
    rw (p.1, p.2) (item_refused _ _ _ _ c.in_err-h.ensures)

pub returns : goal.returns
returns c = item_found _ _ _ _ _ _ c.in_ok-h.ensures c.«data».ensures c.zone_at.ensures
