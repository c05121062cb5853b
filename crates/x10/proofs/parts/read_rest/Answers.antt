use mathlib.Core.Path.{sym, ap₂, ◌∙◌}
use Prim.Native.Nat.{ℕ, ◌+◌}
use native.Mathlib.Omega.{arith}
use Rattle.answer.specs.Answer.{accepted}
use Rattle.x10.specs.Pattern.{extended}
use Rattle.x10.proofs.Laws.Codes.{index_small}
use Rattle.x10.proofs.Laws.Pattern.{rest_short, rest_key_wrong, data_wrong, command_wrong, rest_read, rest-accepted, goes_on}
use Rattle.x10.proofs.Laws.Read.{rest-places}
use Rattle.x10.proofs.parts.read_rest.Goals as goal

pub returns-then-places-lt-EXTENDED : goal.returns-then-places-lt-EXTENDED
returns-then-places-lt-EXTENDED c = sym (rest_short c.args.places.now c.args.house c.if-places-lt-EXTENDED.true)

pub returns-in_default : goal.returns-in_default
returns-in_default c =
    let a = c.args in
    c.rest_refusal.ensures ∙ sym (rest_key_wrong a.places.now a.house c.if-places-lt-EXTENDED.false (sym c.in_default.ensures.value))

pub returns-in_default-spelled : goal.returns-in_default-spelled
returns-in_default-spelled c =
    let a = c.args in
    c.rest_refusal-in_default-spelled.ensures
    ∙ sym
    (data_wrong a.places.now a.house c.if-places-lt-EXTENDED.false _ (sym c.in-Some.ensures.value) (sym c.in_default-spelled.ensures.value))

pub returns-in_default-spelled-2 : goal.returns-in_default-spelled-2
returns-in_default-spelled-2 c =
    let a = c.args in
    c.rest_refusal-in_default-spelled-2.ensures
    ∙ sym
    (command_wrong a.places.now a.house c.if-places-lt-EXTENDED.false _ (sym c.in-Some.ensures.value) _ (sym c.in-Some-spelled.ensures.value)
    (sym c.in_default-spelled-2.ensures.value))

pub returns-then-places-gt-EXTENDED : goal.returns-then-places-gt-EXTENDED
returns-then-places-gt-EXTENDED c =
    let ps = c.args.places.now in
    let long = c.if-places-lt-EXTENDED.false in
    let key = sym c.in-Some.ensures.value in
    let data_read = sym c.in-Some-spelled.ensures.value in
    let command = sym c.in-Some-spelled-2.ensures.value in
    sym
    (rest_read ps c.args.house long _ key _ data_read (rest-places ps long _ key _ data_read _ command) _ command
    ∙ goes_on ps _ 62 c.if-places-gt-EXTENDED.true)

pub overflow_add-result : goal.overflow_add-result
overflow_add-result c = omega (arith, index_small c.in-Some.key c.in-Some.ensures.upper_bound, c.index_of-2.ensures)

pub returns : goal.returns
returns c =
    let ps = c.args.places.now in
    let there = c.if-places-lt-EXTENDED.false in
    let key = sym c.in-Some.ensures.value in
    let data_read = sym c.in-Some-spelled.ensures.value in
    let command = sym c.in-Some-spelled-2.ensures.value in
    ap₂ (λ (i j : ℕ). accepted (extended i (j + 1) c.in-Some-spelled.«data» c.in-Some-spelled-2.command)) c.index_of.ensures c.index_of-2.ensures
    ∙ sym
    (rest-accepted ps c.args.house there _ key _ data_read (rest-places ps there _ key _ data_read _ command) _ command
    (omega (arith, c.if-places-gt-EXTENDED.false)))
