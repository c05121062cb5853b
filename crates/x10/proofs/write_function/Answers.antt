use mathlib.Core.Path.{sym, ap, ◌∙◌}
use Prim.Native.Nat.{ℕ}
use Rattle.answer.specs.Answer.{accepted}
use Rattle.x10.specs.Pattern.{function, standard, write}
use Rattle.x10.proofs.Laws.Write.{handed_on, function_no_house, function_written, refuses, hands_on}
use Rattle.x10.proofs.write_function.Goals as goal

pub returns-in_err-code : goal.returns-in_err-code
returns-in_err-code c =
    let a = c.args in
    let e = handed_on c.from_residual.result _ c.from_residual.ensures.1 c.in_err-code.ensures in
    let w = refuses a.out.now (write (function a.house a.f)) e.0 (function_no_house a.house 0 0 0 a.f e.0 e.1) _ e.2 in
    record { result_value = w.0; out_after = w.1 }

pub returns : goal.returns
returns c =
    let a = c.args in
    let w = hands_on a.out.now (write (function a.house a.f)) _
    (function_written a.house 0 0 0 a.f _ (sym c.in_ok-code.ensures)
    ∙ ap (λ (m : ℕ). accepted (standard c.in_ok-code.code m 1)) (sym c.from.ensures))
    _ _ (c.write_standard.ensures.result_value, c.write_standard.ensures.out_after) in
    record { result_value = w.0; out_after = w.1 }
