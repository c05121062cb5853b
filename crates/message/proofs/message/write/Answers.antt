use mathlib.Core.Path.{sym, ◌∙◌}
use Rattle.message.specs.declared.message.Fixed.TheVariants as F
use Rattle.message.proofs.Laws.Kinds.{plain_type}
use Rattle.message.proofs.Laws.Written.{leaves_unchecked, leaves_checked}
use Rattle.std.proofs.lemmas.Result.{err_from_is_err_and}
use Rattle.message.proofs.message.write.Goals as goal

pub returns-in_err-plain : goal.returns-in_err-plain
returns-in_err-plain c =
    let a = c.args in
    let none = plain_type a.kind a.«data».now (sym c.is_plain.ensures ∙ c.if-is_plain.true) in
    let p = err_from_is_err_and c.from_residual.result c.from_residual.ensures.1 in
    let w = leaves_unchecked a.kind a.«data».now a.out.now _ (c.in_err-plain.ensures F.Acknowledge ∙ none) in
    record { result_value = rw (p.1, p.2) w.0; out_after = w.1 }

pub returns-then-is_plain : goal.returns-then-is_plain
returns-then-is_plain c =
    let a = c.args in
    let none = plain_type a.kind a.«data».now (sym c.is_plain.ensures ∙ c.if-is_plain.true) in
    let w = leaves_checked a.kind a.«data».now a.out.now _ _ (c.in_ok-plain.ensures F.Acknowledge ∙ none) c.write.ensures.result_value c.write.ensures.out_after in
    record { result_value = w.0; out_after = w.1 }

pub returns-in_err-check : goal.returns-in_err-check
returns-in_err-check c =
    let a = c.args in
    let p = err_from_is_err_and c.from_residual-in_err-check.result c.from_residual-in_err-check.ensures.1 in
    let w = leaves_unchecked a.kind a.«data».now a.out.now _ c.in_err-check.ensures in
    record { result_value = rw (p.1, p.2) w.0; out_after = w.1 }

pub returns : goal.returns
returns c =
    let a = c.args in
    let w = leaves_checked a.kind a.«data».now a.out.now _ _ c.in_ok-check.ensures c.write-2.ensures.result_value c.write-2.ensures.out_after in
    record { result_value = w.0; out_after = w.1 }
