use borrow.Author.Tests.{not-true, not-false}
use lib.ListN.{length-take, length-drop}
use mathlib.Core.Path.{sym, ap, ◌∙◌}
use native.Mathlib.Omega.{arith}
use Rattle.listing.proofs.Laws.State.{wrong_size, wrong_count, not_zero, by_possible, state_of_lem}
use Rattle.listing.specs.State.{possible}
use Rattle.listing.proofs.state.is_state.Goals as goal

pub returns-then-state-ne-SIZE : goal.returns-then-state-ne-SIZE
returns-then-state-ne-SIZE c = sym (wrong_size c.args.state.now c.if-state-ne-SIZE.true)

pub overflow_cast-count : goal.overflow_cast-count
overflow_cast-count c = omega (arith, c.type_inv.state 4)

pub returns-then-count-gt-MAX_UNREAD : goal.returns-then-count-gt-MAX_UNREAD
returns-then-count-gt-MAX_UNREAD c = sym (wrong_count c.args.state.now c.if-count-gt-MAX_UNREAD.true)

pub returns-then-not-is_zero : goal.returns-then-not-is_zero
returns-then-not-is_zero c =
    let s = c.args.state.now in
    sym (not_zero s c.if-state-ne-SIZE.false (sym c.is_zero.ensures ∙ not-true c.is_zero.result c.if-not-is_zero.true-raw))

pub is_possible-requires : goal.is_possible-requires
is_possible-requires c =
    let s = c.args.state.now in
    let known = c.type_inv.state in record {
      run_bound = omega (arith, c.word-2.ensures, known 2, known 3);
      unread_len_bound = simp (length-take, length-drop) (omega arith);
    }

pub returns : goal.returns
returns c =
    let s = c.args.state.now in
    c.is_possible.ensures
    ∙ ap possible (state_of_lem s _ _ c.word.ensures c.word-2.ensures)
    ∙ sym (by_possible s c.if-state-ne-SIZE.false (sym c.is_zero.ensures ∙ not-false c.is_zero.result c.if-not-is_zero.false-raw))
