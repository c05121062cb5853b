use Prim.Native.Nat.{◌+◌, ◌-◌}
use lib.ListN.{length, length-append}
use lib.Seq.{length-take-le}
use mathlib.Core.List.{◌++◌}
use mathlib.Core.Path.{refl, sym, ap}
use native.Mathlib.Omega.{arith}
use Rattle.listing.proofs.Laws.State.{state_long}
use Rattle.listing.proofs.Laws.Taken.{Ready, ready_most, ready_late, ready_few, closing, owed_closed, left_in_window, left_in_piece}
use Rattle.listing.specs.State.{State}
use Rattle.listing.proofs.pieces.piece_with.Goals as goal

pub overflow_sub-base : goal.overflow_sub-base
overflow_sub-base c =
    let k : Ready c.args.state.now c.args.bytes.now c.read-came.result.came c.read-came.result.run c.read-came.result.unread.now =
    record { known = c.requires.state_value; most = c.requires.bytes_bound; is = c.read-came.ensures } in
    omega (arith, ready_late k)

pub judge-reached-requires : goal.judge-reached-requires
judge-reached-requires c =
    let k : Ready c.args.state.now c.args.bytes.now c.read-came.result.came c.read-came.result.run c.read-came.result.unread.now =
    record { known = c.requires.state_value; most = c.requires.bytes_bound; is = c.read-came.ensures } in record {
      unread_len_bound = ready_few k;
      window_len = refl;
      piece_bound = omega (arith, ready_late k, ready_most k);
      piece_len_bound = omega (arith, c.requires.bytes_len_bound, ap (λ (st : State). length st.unread) c.read-came.ensures);
    }

pub overflow_sub-base-then-at-held : goal.overflow_sub-base-then-at-held
overflow_sub-base-then-at-held c =
    let k : Ready c.args.state.now c.args.bytes.now c.read-came.result.came c.read-came.result.run c.read-came.result.unread.now =
    record { known = c.requires.state_value; most = c.requires.bytes_bound; is = c.read-came.ensures } in
    omega (arith, ready_late k)

pub slice_bounds-close-end : goal.slice_bounds-close-end
slice_bounds-close-end c =
    let k : Ready c.args.state.now c.args.bytes.now c.read-came.result.came c.read-came.result.run c.read-came.result.unread.now =
    record { known = c.requires.state_value; most = c.requires.bytes_bound; is = c.read-came.ensures } in
    let j = c.judge-reached in
    let g = j.ensures.settles (c.read-came.result.came - length c.read-came.result.unread.now - c.read-came.result.run) (omega arith) in
    let w = c.judge-reached.new.window in
    let left = left_in_window j.result.at (length c.read-came.result.unread.now + length c.args.bytes.now) w (c.read-came.result.unread.now ++ c.args.bytes.now) (omega (arith, c.if-at-held.true)) (j.ensures.window c.if-at-held.true) (length-append c.read-came.result.unread.now c.args.bytes.now) in
    omega (arith, ready_few k, j.ensures.short c.if-at-held.true)

pub slice_bounds-close-end-then-at-held-2 : goal.slice_bounds-close-end-then-at-held-2
slice_bounds-close-end-then-at-held-2 c =
    let j = c.judge-reached in
    sym (length-take-le j.result.count _ j.ensures.counted)

pub close-requires : goal.close-requires
close-requires c =
    let k : Ready c.args.state.now c.args.bytes.now c.read-came.result.came c.read-came.result.run c.read-came.result.unread.now =
    record { known = c.requires.state_value; most = c.requires.bytes_bound; is = c.read-came.ensures } in
    let j = c.judge-reached in
    let g = j.ensures.settles (c.read-came.result.came - length c.read-came.result.unread.now - c.read-came.result.run) (omega arith) in
    let w = c.judge-reached.new.window in
    let left = left_in_window j.result.at (length c.read-came.result.unread.now + length c.args.bytes.now) w (c.read-came.result.unread.now ++ c.args.bytes.now) (omega (arith, c.if-at-held.true)) (j.ensures.window c.if-at-held.true) (length-append c.read-came.result.unread.now c.args.bytes.now) in
    let e = closing k g j.ensures.stopped left in
    record { state_len = state_long c.args.state.now c.requires.state_value; came_bound = ready_most k; unread_len_bound = e.0; unread_len_bound_2 = e.1.0; within = e.1.1.0; found_len_bound = e.1.1.1 }

pub returns-then-at-held : goal.returns-then-at-held
returns-then-at-held c =
    let k : Ready c.args.state.now c.args.bytes.now c.read-came.result.came c.read-came.result.run c.read-came.result.unread.now =
    record { known = c.requires.state_value; most = c.requires.bytes_bound; is = c.read-came.ensures } in
    let j = c.judge-reached in
    let g = j.ensures.settles (c.read-came.result.came - length c.read-came.result.unread.now - c.read-came.result.run) (omega arith) in
    let w = c.judge-reached.new.window in
    let left = left_in_window j.result.at (length c.read-came.result.unread.now + length c.args.bytes.now) w (c.read-came.result.unread.now ++ c.args.bytes.now) (omega (arith, c.if-at-held.true)) (j.ensures.window c.if-at-held.true) (length-append c.read-came.result.unread.now c.args.bytes.now) in
    let q = c.close.ensures in
    let w = owed_closed k g j.ensures.stopped left c.args.out.now c.args.state.now (q.result_value, (q.out_after, q.state_after)) in
    record { result_value = w.0; out_after = w.1.0; state_after = w.1.1 }

pub overflow_sub-base-2 : goal.overflow_sub-base-2
overflow_sub-base-2 c =
    let k : Ready c.args.state.now c.args.bytes.now c.read-came.result.came c.read-came.result.run c.read-came.result.unread.now =
    record { known = c.requires.state_value; most = c.requires.bytes_bound; is = c.read-came.ensures } in
    omega (arith, ready_late k)

pub slice_bounds-close-count-2 : goal.slice_bounds-close-count-2
slice_bounds-close-count-2 c =
    let k : Ready c.args.state.now c.args.bytes.now c.read-came.result.came c.read-came.result.run c.read-came.result.unread.now =
    record { known = c.requires.state_value; most = c.requires.bytes_bound; is = c.read-came.ensures } in
    let j = c.judge-reached in
    let g = j.ensures.settles (c.read-came.result.came - length c.read-came.result.unread.now - c.read-came.result.run) (omega arith) in
    omega (arith, g.within, length-append c.read-came.result.unread.now c.args.bytes.now)

pub slice_bounds-close-start-2 : goal.slice_bounds-close-start-2
slice_bounds-close-start-2 c =
    let k : Ready c.args.state.now c.args.bytes.now c.read-came.result.came c.read-came.result.run c.read-came.result.unread.now =
    record { known = c.requires.state_value; most = c.requires.bytes_bound; is = c.read-came.ensures } in
    let j = c.judge-reached in
    let g = j.ensures.settles (c.read-came.result.came - length c.read-came.result.unread.now - c.read-came.result.run) (omega arith) in
    omega (arith, g.within, length-append c.read-came.result.unread.now c.args.bytes.now)

pub slice_bounds-close-end-4 : goal.slice_bounds-close-end-4
slice_bounds-close-end-4 c =
    let j = c.judge-reached in
    sym (length-take-le j.result.count _ j.ensures.counted)

pub close-requires-2 : goal.close-requires-2
close-requires-2 c =
    let k : Ready c.args.state.now c.args.bytes.now c.read-came.result.came c.read-came.result.run c.read-came.result.unread.now =
    record { known = c.requires.state_value; most = c.requires.bytes_bound; is = c.read-came.ensures } in
    let j = c.judge-reached in
    let g = j.ensures.settles (c.read-came.result.came - length c.read-came.result.unread.now - c.read-came.result.run) (omega arith) in
    let left = left_in_piece j.result.at c.read-came.result.unread.now c.args.bytes.now c.if-at-held.false in
    let e = closing k g j.ensures.stopped left in
    record { state_len = state_long c.args.state.now c.requires.state_value; came_bound = ready_most k; unread_len_bound = e.0; unread_len_bound_2 = e.1.0; within = e.1.1.0; found_len_bound = e.1.1.1 }

pub returns : goal.returns
returns c =
    let k : Ready c.args.state.now c.args.bytes.now c.read-came.result.came c.read-came.result.run c.read-came.result.unread.now =
    record { known = c.requires.state_value; most = c.requires.bytes_bound; is = c.read-came.ensures } in
    let j = c.judge-reached in
    let g = j.ensures.settles (c.read-came.result.came - length c.read-came.result.unread.now - c.read-came.result.run) (omega arith) in
    let left = left_in_piece j.result.at c.read-came.result.unread.now c.args.bytes.now c.if-at-held.false in
    let q = c.close-2.ensures in
    let w = owed_closed k g j.ensures.stopped left c.args.out.now c.args.state.now (q.result_value, (q.out_after, q.state_after)) in
    record { result_value = w.0; out_after = w.1.0; state_after = w.1.1 }
