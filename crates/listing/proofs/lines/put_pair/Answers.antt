use native.Mathlib.Omega.{arith}
use Rattle.listing.proofs.Laws.FramesText.{pair_of, pair_size}
use Rattle.listing.proofs.Laws.Output.{joined, put-length, same_bytes}
use Rattle.listing.proofs.lines.put_pair.Goals as goal

pub put_run-next-requires : goal.put_run-next-requires
put_run-next-requires c =
    let a = c.args in record {
      offset_bound = omega arith;
      count_bound = omega arith;
      count_in_bounds = omega (arith, c.requires.frame_in_bounds, pair_size a.from a.frame _ c.from-at.ensures);
    }

pub put_frame-requires : goal.put_frame-requires
put_frame-requires c =
    let a = c.args in
    let put = c.put_run-next.ensures in record {
      frame_bound = c.requires.frame_bound;
      frame_in_bounds = omega (arith, c.requires.frame_in_bounds, put.moved, put-length put, pair_size a.from a.frame _ c.from-at.ensures);
    }

pub returns : goal.returns
returns c = same_bytes (pair_of c.args.from c.args.frame _ c.from-at.ensures) (joined c.put_run-next.ensures c.put_frame.ensures)
