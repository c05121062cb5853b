use mathlib.Core.Path.{sym}
use Rattle.x10.specs.declared.Function.TheVariants.{On}
use Rattle.x10.specs.Pattern.{extended, write}
use Rattle.x10.proofs.Laws.Write.{handed_on, extended_no_house, extended_no_unit, extended_written, refuses, hands_on}
use Rattle.x10.proofs.write_extended.Goals as goal

pub returns-in_err-code : goal.returns-in_err-code
returns-in_err-code c =
    let a = c.args in
    let e = handed_on c.from_residual.result _ c.from_residual.ensures.1 c.in_err-code.ensures in
    let w = refuses a.out.now (write (extended a.house a.unit a.«data» a.command)) e.0
    (extended_no_house a.house a.unit a.«data» a.command On e.0 e.1) _ e.2 in
    record { result_value = w.0; out_after = w.1 }

pub returns-in_err-key : goal.returns-in_err-key
returns-in_err-key c =
    let a = c.args in
    let e = handed_on c.from_residual-in_err-key.result _ c.from_residual-in_err-key.ensures.1 c.in_err-key.ensures in
    let w = refuses a.out.now (write (extended a.house a.unit a.«data» a.command)) e.0
    (extended_no_unit a.house a.unit a.«data» a.command On _ (sym c.in_ok-code.ensures) e.0 e.1) _ e.2 in
    record { result_value = w.0; out_after = w.1 }

pub returns : goal.returns
returns c =
    let a = c.args in
    let w = hands_on a.out.now (write (extended a.house a.unit a.«data» a.command)) _
    (extended_written a.house a.unit a.«data» a.command On _ (sym c.in_ok-code.ensures) _ (sym c.in_ok-key.ensures))
    _ _ (c.write_long.ensures.result_value, c.write_long.ensures.out_after) in
    record { result_value = w.0; out_after = w.1 }
