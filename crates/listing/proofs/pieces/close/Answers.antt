use Prim.Native.Nat.{◌-◌}
use borrow.Author.Tests.{leb-true, leb-false}
use lib.ListN.{length}
use mathlib.Core.Path.{sym, ◌∙◌}
use native.Mathlib.Omega.{arith}
use Rattle.listing.proofs.Laws.Closing.{call_no_room, call_with_room, call-refused, call-accepted, closed_state, closed-within}
use Rattle.listing.proofs.Laws.FramesText.{last_within, frames_bound}
use Rattle.listing.specs.Parts.{closed}
use Rattle.listing.proofs.pieces.close.Goals as goal

pub frames_fit-requires : goal.frames_fit-requires
frames_fit-requires c =
    let a = c.args in record {
      within = closed-within a.from a.came a.found.now a.unread.now c.requires.came_bound c.requires.within;
      found_len_bound = c.requires.found_len_bound;
    }

pub returns-then-not-frames_fit : goal.returns-then-not-frames_fit
returns-then-not-frames_fit c =
    let a = c.args in
    let w = call-refused a.out.now a.state.now
    (call_no_room (length a.out.now) (closed a.from a.came a.found.now a.unread.now)
    (leb-false _ _ (sym c.frames_fit.ensures ∙ c.if-not-frames_fit.true))) in
    record { result_value = w.0; out_after = w.1.0; state_after = w.1.1 }

pub put_frames-size-requires : goal.put_frames-size-requires
put_frames-size-requires c =
    let a = c.args in record {
      within = closed-within a.from a.came a.found.now a.unread.now c.requires.came_bound c.requires.within;
      found_in_bounds = leb-true _ _ (sym c.frames_fit.ensures ∙ c.if-not-frames_fit.false);
    }

pub overflow_sub-run-2 : goal.overflow_sub-run-2
overflow_sub-run-2 c =
    let a = c.args in
    omega (arith, c.last_end.ensures, last_within a.from a.found.now (a.came - length a.unread.now) c.requires.within)

pub overflow_cast-result : goal.overflow_cast-result
overflow_cast-result c =
    let a = c.args in
    let bound = frames_bound a.from a.found.now (closed-within a.from a.came a.found.now a.unread.now c.requires.came_bound c.requires.within) in
    omega (arith, c.put_frames-size.ensures.moved, bound, c.requires.found_len_bound)

pub returns : goal.returns
returns c =
    let a = c.args in
    let put = c.put_frames-size.ensures in
    let w = call-accepted a.state.now
    (call_with_room (length a.out.now) (closed a.from a.came a.found.now a.unread.now) (omega (arith, put.fits)))
    put
    (c.put.ensures ∙ closed_state a.from a.came a.found.now a.unread.now _ c.last_end.ensures) in
    record { result_value = w.0; out_after = w.1.0; state_after = w.1.1 }
