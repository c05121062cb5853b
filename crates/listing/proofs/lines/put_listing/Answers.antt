use native.Mathlib.Omega.{arith}
use Rattle.listing.proofs.Laws.FramesText.{within_more, last_within, listing_of, listing-size}
use Rattle.listing.proofs.Laws.Output.{joined, put-length, same_bytes}
use Rattle.listing.proofs.lines.put_listing.Goals as goal

pub put_frames-place-requires : goal.put_frames-place-requires
put_frames-place-requires c =
    let a = c.args in record {
      within = within_more a.from a.found.now a.len 4096 c.requires.len_bound c.requires.within;
      found_in_bounds = omega (arith, c.requires.len_in_bounds, listing-size a.from a.found.now a.len _ c.last_end-last.ensures);
    }

pub overflow_sub-len : goal.overflow_sub-len
overflow_sub-len c =
    let a = c.args in
    omega (arith, c.last_end-last.ensures, last_within a.from a.found.now a.len c.requires.within)

pub put_run-next-requires : goal.put_run-next-requires
put_run-next-requires c =
    let a = c.args in
    let last = c.last_end-last.ensures in
    let put = c.put_frames-place.ensures in record {
      offset_bound = omega (arith, last, c.requires.len_bound, last_within a.from a.found.now a.len c.requires.within);
      count_bound = omega (arith, c.requires.len_bound);
      count_in_bounds = omega (arith, c.requires.len_in_bounds, put.moved, put-length put, listing-size a.from a.found.now a.len _ last);
    }

pub put_end-requires : goal.put_end-requires
put_end-requires c =
    let a = c.args in
    let put = c.put_frames-place.ensures in
    let more = c.put_run-next.ensures in record {
      offset_bound = omega (arith, c.requires.len_bound);
      offset_in_bounds = omega (arith, c.requires.len_in_bounds, put.moved, put-length put, more.moved, put-length more, listing-size a.from a.found.now a.len _ c.last_end-last.ensures);
    }

pub returns : goal.returns
returns c =
    let a = c.args in
    same_bytes
    (listing_of a.from a.found.now a.len _ c.last_end-last.ensures)
    (joined c.put_frames-place.ensures (joined c.put_run-next.ensures c.put_end.ensures))
