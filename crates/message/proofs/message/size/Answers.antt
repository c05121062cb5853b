use native.Mathlib.Omega.{arith}
use Rattle.message.proofs.Laws.Sized.{size_unchecked, size_checked, few_checked}
use Rattle.std.proofs.lemmas.Result.{err_from_is_err_and}
use Rattle.message.proofs.message.size.Goals as goal

pub returns-in_err-check : goal.returns-in_err-check
returns-in_err-check c =
    let p = err_from_is_err_and c.from_residual.result c.from_residual.ensures.1 in
    rw (p.1, p.2) (size_unchecked _ _ _ c.in_err-check.ensures)

pub overflow_cast-result : goal.overflow_cast-result
overflow_cast-result c = omega (arith, few_checked c.args.kind c.args.«data».now c.in_ok-check.ensures)

pub overflow_add-result : goal.overflow_add-result
overflow_add-result c = omega (arith, few_checked c.args.kind c.args.«data».now c.in_ok-check.ensures)

pub returns : goal.returns
returns c = size_checked c.args.kind c.args.«data».now c.in_ok-check.ensures
