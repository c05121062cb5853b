use Prim.Native.Nat.{ℕ, ◌+◌, ◌-◌, ◌/◌}
use mathlib.Core.Path.{◌≡◌, sym, ap, ◌∙◌}
use mathlib.Core.Bool.{true, false}
use native.Mathlib.Omega.{arith}
use borrow.Author.Tests.{not-false}
use lib.ListN.{get_or}
use Rattle.omnistat.specs.Frame.{directed}
use Rattle.omnistat.proofs.Laws.Frame.{sum_test, empty, misdirected, one_byte, short, long, judged}
use Rattle.omnistat.proofs.frame.read.Goals as goal

pub returns-then-bytes-eq0 : goal.returns-then-bytes-eq0
returns-then-bytes-eq0 c = sym (empty c.args.end c.args.bytes.now c.if-bytes-eq0.true)

pub returns-then-not-is_directed : goal.returns-then-not-is_directed
returns-then-not-is_directed c =
    let a = c.args in
    sym (misdirected a.end a.bytes.now (omega arith) (sym c.is_directed.ensures ∙ c.if-not-is_directed.true))

pub returns-then-bytes-eq1 : goal.returns-then-bytes-eq1
returns-then-bytes-eq1 c =
    let went_on : directed c.args.end (get_or c.args.bytes.now 0 0) ≡ true = sym c.is_directed.ensures ∙ not-false _ c.if-not-is_directed.false-raw in
    let a = c.args in
    sym (one_byte a.end a.bytes.now c.if-bytes-eq1.true went_on)

pub returns-then-bytes-whole : goal.returns-then-bytes-whole
returns-then-bytes-whole c =
    let went_on : directed c.args.end (get_or c.args.bytes.now 0 0) ≡ true = sym c.is_directed.ensures ∙ not-false _ c.if-not-is_directed.false-raw in
    let a = c.args in
    sym (short a.end a.bytes.now (omega arith) went_on (omega arith))

pub returns-then-whole-bytes : goal.returns-then-whole-bytes
returns-then-whole-bytes c =
    let went_on : directed c.args.end (get_or c.args.bytes.now 0 0) ≡ true = sym c.is_directed.ensures ∙ not-false _ c.if-not-is_directed.false-raw in
    let a = c.args in
    sym (long a.end a.bytes.now (omega arith) went_on (omega arith))

pub returns-then-not-is_summed : goal.returns-then-not-is_summed
returns-then-not-is_summed c =
    let went_on : directed c.args.end (get_or c.args.bytes.now 0 0) ≡ true = sym c.is_directed.ensures ∙ not-false _ c.if-not-is_directed.false-raw in
    let tested : sum_test c.args.bytes.now (get_or c.args.bytes.now 1 0 / 16 + 3 - 1)
    ≡ c.is_summed.result = ap (λ (n : ℕ). sum_test c.args.bytes.now (n - 1)) (sym c.counted_length-whole.ensures)
    ∙ sym c.is_summed.ensures in
    let a = c.args in
    sym
    (judged a.end false a.bytes.now (omega arith) went_on (omega arith)
    (tested ∙ c.if-not-is_summed.true))

pub returns : goal.returns
returns c =
    let went_on : directed c.args.end (get_or c.args.bytes.now 0 0) ≡ true = sym c.is_directed.ensures ∙ not-false _ c.if-not-is_directed.false-raw in
    let tested : sum_test c.args.bytes.now (get_or c.args.bytes.now 1 0 / 16 + 3 - 1)
    ≡ c.is_summed.result = ap (λ (n : ℕ). sum_test c.args.bytes.now (n - 1)) (sym c.counted_length-whole.ensures)
    ∙ sym c.is_summed.ensures in
    let a = c.args in
    sym
    (judged a.end true a.bytes.now (omega arith) went_on (omega arith)
    (tested ∙ c.if-not-is_summed.false))
