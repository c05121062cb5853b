use native.Mathlib.Omega.{arith}
use Rattle.listing.proofs.Laws.FramesText.{step, begun_none, begun_fits, begun_more, begun_all}
use Rattle.listing.proofs.Laws.Output.{put-length}
use Rattle.listing.proofs.lines.put_frames.Goals as goal

pub loop-frame-init : goal.loop-frame-init
loop-frame-init c = begun_none c.requires.within

pub put_pair-place-requires : goal.put_pair-place-requires
put_pair-place-requires c =
    let l = c.loop-frame in
    let n = step c.args.found.now 4096 l.at l.frame-index c.loop-frame-test.true l.invariant.within in record {
      from_bound = n.forward;
      frame_bound = omega (arith, n.inside);
      frame_in_bounds = begun_fits l.invariant n c.requires.found_in_bounds;
    }

pub loop-frame-preserved : goal.loop-frame-preserved
loop-frame-preserved c =
    let l = c.loop-frame in
    let n = step c.args.found.now 4096 l.at l.frame-index c.loop-frame-test.true l.invariant.within in
    rw c.end-at.ensures (begun_more l.invariant n c.put_pair-place.ensures)

pub shape_of-out : goal.shape_of-out
shape_of-out c = put-length c.loop-frame.invariant.put

pub returns : goal.returns
returns c = begun_all c.loop-frame.invariant c.loop-frame-test.false
