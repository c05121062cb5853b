use mathlib.Core.Path.{sym}
use Rattle.x10.specs.Pattern.{write_function_code}
use Rattle.x10.proofs.Laws.Write.{handed_on, code_unknown, code_known, refuses, hands_on}
use Rattle.x10.proofs.write_function_code.Goals as goal

pub returns-in_err-f : goal.returns-in_err-f
returns-in_err-f c =
    let a = c.args in
    let e = handed_on c.from_residual.result _ c.from_residual.ensures.1 c.in_err-f.ensures in
    let w = refuses a.out.now (write_function_code a.house a.code) e.0 (code_unknown a.house a.code e.0 e.1) _ e.2 in
    record { result_value = w.0; out_after = w.1 }

pub returns : goal.returns
returns c =
    let a = c.args in
    let w = hands_on a.out.now (write_function_code a.house a.code) _ (code_known a.house a.code _ (sym c.in_ok-f.ensures)) _ _
    (c.write_function.ensures.result_value, c.write_function.ensures.out_after) in
    record { result_value = w.0; out_after = w.1 }
