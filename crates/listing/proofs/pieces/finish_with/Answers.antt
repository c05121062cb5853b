use Prim.Native.Nat.{◌-◌}
use lib.ListN.{length, take}
use lib.Seq.{length-take-le}
use mathlib.Core.Path.{sym}
use native.Mathlib.Omega.{arith}
use Rattle.listing.proofs.Laws.Closing.{call-refused, call-accepted, known_possible, finish-within, finish_few, finish_text, finish_no_room, finish_with_room}
use Rattle.listing.proofs.Laws.FramesText.{found_bound}
use Rattle.listing.proofs.Laws.Output.{same_bytes}
use Rattle.listing.proofs.Laws.Settled.{unsettled_few}
use Rattle.listing.proofs.Laws.State.{state_long}
use Rattle.listing.proofs.pieces.finish_with.Goals as goal

pub overflow_sub-base : goal.overflow_sub-base
overflow_sub-base c =
    let b = c.args.state.now in
    let st = c.read-came.result in
    let p = known_possible b c.requires.state_value c.read-came.ensures in
    omega (arith, p.late)

pub end-n-requires : goal.end-n-requires
end-n-requires c =
    let b = c.args.state.now in
    let st = c.read-came.result in
    let p = known_possible b c.requires.state_value c.read-came.ensures in record {
      bytes_bound = omega (arith, p.late, p.most);
      bytes_len_bound = omega (arith, c.requires.found_len, unsettled_few st.unread.now p.unsettled);
      bytes_value = p.unsettled;
    }

pub slice_bounds-text_size-end-2 : goal.slice_bounds-text_size-end-2
slice_bounds-text_size-end-2 c = let end = c.end-n in sym (length-take-le end.result _ end.ensures.counted)

pub overflow_sub-base-2 : goal.overflow_sub-base-2
overflow_sub-base-2 c =
    let b = c.args.state.now in
    let st = c.read-came.result in
    let p = known_possible b c.requires.state_value c.read-came.ensures in
    omega (arith, p.late)

pub text_size-requires : goal.text_size-requires
text_size-requires c =
    let b = c.args.state.now in
    let st = c.read-came.result in
    let end = c.end-n in
    let p = known_possible b c.requires.state_value c.read-came.ensures in record {
      len_bound = p.most;
      within = finish-within b c.requires.state_value c.read-came.ensures end.ensures.ends;
      found_len_bound = omega (arith, finish_few b c.requires.state_value c.read-came.ensures end.ensures.ends);
    }

pub returns-then-out-text_size : goal.returns-then-out-text_size
returns-then-out-text_size c =
    let b = c.args.state.now in
    let st = c.read-came.result in
    let end = c.end-n in
    let w = call-refused c.args.out.now b
    (finish_no_room b c.requires.state_value c.read-came.ensures end.ensures.ends (length c.args.out.now) (omega (arith, c.if-out-text_size.true, c.text_size.ensures))) in
    record { result_value = w.0; out_after = w.1.0; state_after = w.1.1 }

pub slice_bounds-put_listing-end-2 : goal.slice_bounds-put_listing-end-2
slice_bounds-put_listing-end-2 c = let end = c.end-n in sym (length-take-le end.result _ end.ensures.counted)

pub overflow_sub-base-3 : goal.overflow_sub-base-3
overflow_sub-base-3 c =
    let b = c.args.state.now in
    let st = c.read-came.result in
    let p = known_possible b c.requires.state_value c.read-came.ensures in
    omega (arith, p.late)

pub put_listing-size-requires : goal.put_listing-size-requires
put_listing-size-requires c =
    let b = c.args.state.now in
    let st = c.read-came.result in
    let end = c.end-n in
    let p = known_possible b c.requires.state_value c.read-came.ensures in record {
      len_bound = p.most;
      within = finish-within b c.requires.state_value c.read-came.ensures end.ensures.ends;
      len_in_bounds = omega (arith, c.if-out-text_size.false, c.text_size.ensures);
    }

pub put_fresh-requires : goal.put_fresh-requires
put_fresh-requires c =
    state_long c.args.state.now c.requires.state_value

pub overflow_cast-result : goal.overflow_cast-result
overflow_cast-result c =
    let b = c.args.state.now in
    let st = c.read-came.result in
    let end = c.end-n in
    let p = known_possible b c.requires.state_value c.read-came.ensures in
    let es = take end.result end.new.found in
    let bound = found_bound (st.came - length st.unread.now - st.run) es st.came p.most (finish-within b c.requires.state_value c.read-came.ensures end.ensures.ends) in
    omega (arith, c.put_listing-size.ensures.moved, bound, finish_few b c.requires.state_value c.read-came.ensures end.ensures.ends)

pub returns : goal.returns
returns c =
    let b = c.args.state.now in
    let st = c.read-came.result in
    let end = c.end-n in
    let put = c.put_listing-size.ensures in
    let w = call-accepted b
    (finish_with_room b c.requires.state_value c.read-came.ensures end.ensures.ends (length c.args.out.now) (omega (arith, put.fits)))
    (same_bytes (sym (finish_text b c.requires.state_value c.read-came.ensures end.ensures.ends)) put)
    c.put_fresh.ensures in
    record { result_value = w.0; out_after = w.1.0; state_after = w.1.1 }
