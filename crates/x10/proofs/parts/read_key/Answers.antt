use mathlib.Core.Path.{sym, ap₂, ◌∙◌}
use Prim.Native.Nat.{ℕ, ◌+◌}
use native.Mathlib.Omega.{arith}
use Rattle.answer.specs.Answer.{accepted}
use Rattle.x10.specs.Pattern.{unit}
use Rattle.x10.proofs.Laws.Codes.{index_small}
use Rattle.x10.proofs.Laws.Pattern.{goes_on, codes_unit, unit-accepted, codes_function}
use Rattle.x10.proofs.parts.read_key.Goals as goal

pub returns-then-codes-eq1 : goal.returns-then-codes-eq1
returns-then-codes-eq1 c =
    let i = c.in-Some in
    c.read_function.ensures ∙ sym (i.ensures.0 ∙ codes_function c.args.places.now i.codes.house i.codes.key i.codes.d16 (omega arith))

pub returns-then-places-gt-STANDARD : goal.returns-then-places-gt-STANDARD
returns-then-places-gt-STANDARD c =
    let i = c.in-Some in
    let ps = c.args.places.now in
    sym
    (i.ensures.0
    ∙ codes_unit ps i.codes.house i.codes.key i.codes.d16 (omega (arith, i.ensures.3))
    ∙ goes_on ps _ 22 c.if-places-gt-STANDARD.true)

pub overflow_add-result : goal.overflow_add-result
overflow_add-result c =
    let i = c.in-Some in
    omega (arith, index_small i.codes.key i.ensures.2, c.index_of-2.ensures)

pub returns : goal.returns
returns c =
    let i = c.in-Some in
    let ps = c.args.places.now in
    ap₂ (λ (i j : ℕ). accepted (unit i (j + 1))) c.index_of.ensures c.index_of-2.ensures
    ∙ sym
    (i.ensures.0
    ∙ unit-accepted ps i.codes.house i.codes.key i.codes.d16 (omega (arith, i.ensures.3)) (omega (arith, c.if-places-gt-STANDARD.false)))
