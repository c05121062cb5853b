use Prim.Native.Nat.{ℕ, ◌+◌, ◌-◌, ◌/◌}
use mathlib.Core.Path.{◌≡◌, refl, sym, ap, ◌∙◌}
use mathlib.Core.Bool.{true, false}
use native.Mathlib.Omega.{arith}
use borrow.Author.Tests.{not-false}
use lib.ListN.{get_or, take, drop}
use Rattle.answer.specs.Answer.{accepted}
use Rattle.omnistat.specs.Frame.{directed}
use Rattle.omnistat.specs.Text.{are_characters, until_end}
use Rattle.omnistat.specs.Answer.{text_in}
use Rattle.omnistat.proofs.Laws.Frame.{sum_test}
use Rattle.omnistat.proofs.Laws.Text.{text_misdirected, endless, text_short, text_long, text_judged}
use Rattle.omnistat.proofs.text.read.Goals as goal

pub returns-then-not-is_directed : goal.returns-then-not-is_directed
returns-then-not-is_directed c =
    let a = c.args in
    sym (text_misdirected a.end a.bytes.now c.requires (sym c.is_directed.ensures ∙ c.if-not-is_directed.true))

pub returns-then-count-gt-MOST_CHARACTERS : goal.returns-then-count-gt-MOST_CHARACTERS
returns-then-count-gt-MOST_CHARACTERS c =
    let went_on : directed c.args.end (get_or c.args.bytes.now 0 0) ≡ true = sym c.is_directed.ensures ∙ not-false _ c.if-not-is_directed.false-raw in
    let counted : c.until_end-count.result ≡ until_end (take 61 (drop 3 c.args.bytes.now)) = c.until_end-count.ensures ∙ ap until_end c.part.ensures in
    sym (endless c.args.end c.until_end-count.result c.args.bytes.now c.requires went_on counted c.if-count-gt-MOST_CHARACTERS.true)

pub returns-then-bytes-last : goal.returns-then-bytes-last
returns-then-bytes-last c =
    let went_on : directed c.args.end (get_or c.args.bytes.now 0 0) ≡ true = sym c.is_directed.ensures ∙ not-false _ c.if-not-is_directed.false-raw in
    let counted : c.until_end-count.result ≡ until_end (take 61 (drop 3 c.args.bytes.now)) = c.until_end-count.ensures ∙ ap until_end c.part.ensures in
    sym (text_short c.args.end c.until_end-count.result c.args.bytes.now c.requires went_on counted c.if-count-gt-MOST_CHARACTERS.false (omega arith))

pub returns-then-last-bytes : goal.returns-then-last-bytes
returns-then-last-bytes c =
    let went_on : directed c.args.end (get_or c.args.bytes.now 0 0) ≡ true = sym c.is_directed.ensures ∙ not-false _ c.if-not-is_directed.false-raw in
    let counted : c.until_end-count.result ≡ until_end (take 61 (drop 3 c.args.bytes.now)) = c.until_end-count.ensures ∙ ap until_end c.part.ensures in
    sym (text_long c.args.end c.until_end-count.result c.args.bytes.now c.requires went_on counted c.if-count-gt-MOST_CHARACTERS.false (omega arith))

pub returns-then-not-is_summed : goal.returns-then-not-is_summed
returns-then-not-is_summed c =
    let went_on : directed c.args.end (get_or c.args.bytes.now 0 0) ≡ true = sym c.is_directed.ensures ∙ not-false _ c.if-not-is_directed.false-raw in
    let counted : c.until_end-count.result ≡ until_end (take 61 (drop 3 c.args.bytes.now)) = c.until_end-count.ensures ∙ ap until_end c.part.ensures in
    let summed-up : sum_test c.args.bytes.now (c.until_end-count.result + 4)
    ≡ c.is_summed.result = let n = c.until_end-count.result in
    let e : n + 4 ≡ n + 3 + 1 = omega arith in
    ap (λ (last : ℕ). sum_test c.args.bytes.now last) e ∙ sym c.is_summed.ensures in
    sym
    (text_judged c.args.end c.until_end-count.result false _ c.args.bytes.now c.requires went_on counted c.if-count-gt-MOST_CHARACTERS.false
    (omega arith) (summed-up ∙ c.if-not-is_summed.true) refl)

pub returns-then-not-are_characters : goal.returns-then-not-are_characters
returns-then-not-are_characters c =
    let went_on : directed c.args.end (get_or c.args.bytes.now 0 0) ≡ true = sym c.is_directed.ensures ∙ not-false _ c.if-not-is_directed.false-raw in
    let counted : c.until_end-count.result ≡ until_end (take 61 (drop 3 c.args.bytes.now)) = c.until_end-count.ensures ∙ ap until_end c.part.ensures in
    let summed-up : sum_test c.args.bytes.now (c.until_end-count.result + 4)
    ≡ c.is_summed.result = let n = c.until_end-count.result in
    let e : n + 4 ≡ n + 3 + 1 = omega arith in
    ap (λ (last : ℕ). sum_test c.args.bytes.now last) e ∙ sym c.is_summed.ensures in
    let tested : are_characters (take c.until_end-count.result (drop 3 c.args.bytes.now))
    ≡ c.are_characters.result = let n = c.until_end-count.result in
    let e : n ≡ n + 3 - 3 = omega arith in
    ap (λ (k : ℕ). are_characters (take k (drop 3 c.args.bytes.now))) e
    ∙ sym c.are_characters.ensures in
    sym
    (text_judged c.args.end c.until_end-count.result true false c.args.bytes.now c.requires went_on counted c.if-count-gt-MOST_CHARACTERS.false
    (omega arith) (summed-up ∙ c.if-not-is_summed.false) (tested ∙ c.if-not-are_characters.true))

pub address_of-requires : goal.address_of-requires
address_of-requires c =
    let went_on : directed c.args.end (get_or c.args.bytes.now 0 0) ≡ true = sym c.is_directed.ensures ∙ not-false _ c.if-not-is_directed.false-raw in
    went_on

pub returns : goal.returns
returns c =
    let went_on : directed c.args.end (get_or c.args.bytes.now 0 0) ≡ true = sym c.is_directed.ensures ∙ not-false _ c.if-not-is_directed.false-raw in
    let counted : c.until_end-count.result ≡ until_end (take 61 (drop 3 c.args.bytes.now)) = c.until_end-count.ensures ∙ ap until_end c.part.ensures in
    let summed-up : sum_test c.args.bytes.now (c.until_end-count.result + 4)
    ≡ c.is_summed.result = let n = c.until_end-count.result in
    let e : n + 4 ≡ n + 3 + 1 = omega arith in
    ap (λ (last : ℕ). sum_test c.args.bytes.now last) e ∙ sym c.is_summed.ensures in
    let tested : are_characters (take c.until_end-count.result (drop 3 c.args.bytes.now))
    ≡ c.are_characters.result = let n = c.until_end-count.result in
    let e : n ≡ n + 3 - 3 = omega arith in
    ap (λ (k : ℕ). are_characters (take k (drop 3 c.args.bytes.now))) e
    ∙ sym c.are_characters.ensures in
    let s = c.args.bytes.now in
    ap (λ (address : ℕ). accepted (address, text_in s (get_or s 1 0 / 16) (get_or s 2 0) c.until_end-count.result)) c.address_of.ensures
    ∙ sym
    (text_judged c.args.end c.until_end-count.result true true s c.requires went_on counted c.if-count-gt-MOST_CHARACTERS.false
    (omega arith) (summed-up ∙ c.if-not-is_summed.false) (tested ∙ c.if-not-are_characters.false))
