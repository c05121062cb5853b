use mathlib.Core.Path.{sym, ap, ◌∙◌}
use Prim.Native.Nat.{ℕ}
use native.Mathlib.Omega.{arith}
use Rattle.answer.specs.Answer.{accepted, on_accepted}
use Rattle.x10.specs.Answers.{message}
use Rattle.x10.specs.Pattern.{function}
use Rattle.x10.proofs.Laws.Pattern.{function-extended, function_unknown, function_known, function-accepted, goes_on}
use Rattle.x10.proofs.Laws.Write.{handed_on}
use Rattle.x10.proofs.parts.read_function.Goals as goal

pub returns-then-key-eq-EXTENDED_1 : goal.returns-then-key-eq-EXTENDED_1
returns-then-key-eq-EXTENDED_1 c =
    let a = c.args in
    c.read_rest.ensures ∙ sym (function-extended a.places.now a.house a.key c.if-key-eq-EXTENDED_1.true)

pub returns-in_err-function : goal.returns-in_err-function
returns-in_err-function c =
    let a = c.args in
    let e = handed_on c.from_residual.result _ c.from_residual.ensures.1 c.in_err-function.ensures in
    ap (on_accepted message) e.2 ∙ sym (function_unknown a.places.now a.house a.key e.0 c.if-key-eq-EXTENDED_1.false e.1)

pub returns-then-places-gt-STANDARD : goal.returns-then-places-gt-STANDARD
returns-then-places-gt-STANDARD c =
    let a = c.args in
    sym
    (function_known a.places.now a.house a.key _ c.if-key-eq-EXTENDED_1.false (sym c.in_ok-function.ensures)
    ∙ goes_on a.places.now _ 22 c.if-places-gt-STANDARD.true)

pub returns : goal.returns
returns c =
    let a = c.args in
    ap (λ (i : ℕ). accepted (function i c.in_ok-function.function)) c.index_of.ensures
    ∙ sym
    (function-accepted a.places.now a.house a.key _ c.if-key-eq-EXTENDED_1.false (sym c.in_ok-function.ensures)
    (omega (arith, c.if-places-gt-STANDARD.false)))
