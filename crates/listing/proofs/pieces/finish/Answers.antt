use borrow.Author.Tests.{not-false}
use lib.ListN.{length}
use mathlib.Core.Path.{refl, sym, ◌∙◌}
use Rattle.listing.proofs.Laws.Closing.{call-refused, finish-refused}
use Rattle.listing.proofs.pieces.finish.Goals as goal

pub returns-then-not-is_state : goal.returns-then-not-is_state
returns-then-not-is_state c =
    let a = c.args in
    let w = call-refused a.out.now a.state.now
    (finish-refused (length a.out.now) a.state.now (sym c.is_state.ensures ∙ c.if-not-is_state.true)) in
    record { result_value = w.0; out_after = w.1.0; state_after = w.1.1 }

pub finish_with-requires : goal.finish_with-requires
finish_with-requires c = record {
  state_value = sym c.is_state.ensures ∙ not-false _ c.if-not-is_state.false-raw;
  found_len = refl;
}
