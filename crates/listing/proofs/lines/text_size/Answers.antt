use native.Mathlib.Omega.{arith}
use Rattle.listing.proofs.Laws.FramesText.{within_more, last_within, found_bound, listing-size}
use Rattle.listing.proofs.lines.text_size.Goals as goal

pub frames_size-requires : goal.frames_size-requires
frames_size-requires c =
    let a = c.args in record {
      within = within_more a.from a.found.now a.len 4096 c.requires.len_bound c.requires.within;
      found_len_bound = c.requires.found_len_bound;
    }

pub overflow_sub-len : goal.overflow_sub-len
overflow_sub-len c =
    let a = c.args in
    omega (arith, c.last_end-last.ensures, last_within a.from a.found.now a.len c.requires.within)

pub run_size-requires : goal.run_size-requires
run_size-requires c =
    let a = c.args in
    let inside = last_within a.from a.found.now a.len c.requires.within in record {
      offset_bound = omega (arith, c.last_end-last.ensures, c.requires.len_bound);
      count_bound = omega (arith, c.requires.len_bound);
    }

pub overflow_add-result : goal.overflow_add-result
overflow_add-result c =
    let a = c.args in
    omega (
      arith,
      c.frames_size.ensures,
      c.run_size.ensures,
      listing-size a.from a.found.now a.len _ c.last_end-last.ensures,
      found_bound a.from a.found.now a.len c.requires.len_bound c.requires.within,
      c.requires.found_len_bound,
    )

pub overflow_add-result-2 : goal.overflow_add-result-2
overflow_add-result-2 c =
    let a = c.args in
    omega (
      arith,
      c.frames_size.ensures,
      c.run_size.ensures,
      c.end_size.ensures,
      listing-size a.from a.found.now a.len _ c.last_end-last.ensures,
      found_bound a.from a.found.now a.len c.requires.len_bound c.requires.within,
      c.requires.found_len_bound,
    )

pub returns : goal.returns
returns c =
    let a = c.args in
    omega (
      arith,
      c.frames_size.ensures,
      c.run_size.ensures,
      c.end_size.ensures,
      listing-size a.from a.found.now a.len _ c.last_end-last.ensures,
    )
