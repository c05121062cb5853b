-- Each goes on where the other stopped, and what is found stays found.
use Rattle.std.proofs.Common.{arith}
use Rattle.listing.proofs.Laws.Found.{found_quiet}
use Rattle.listing.proofs.Laws.Frames.{inside}
use Rattle.listing.proofs.scan.+frame_noise.Goals as goal

pub frame-noise-requires : goal.frame-noise-requires
frame-noise-requires t c = (
  omega (arith, c.decreases, c.keep_joined-reached.ensures.forward, c.if-limit-reached.false, c.requires.limit_in_bounds),
  (c.requires.bytes_len_bound, (omega (arith, c.requires.bytes_len_bound_2, c.keep_joined-reached.auto.found), (c.requires.limit_in_bounds, (omega (arith, c.if-limit-reached.false, c.requires.limit_in_bounds), c.keep_joined-reached.ensures.found)))),
)

pub noise-frame-requires : goal.noise-frame-requires
noise-frame-requires t c =
    let next = c.in-Some.ensures in
    let w = inside next.1 in (
      omega (arith, c.decreases, w.most, w.least, next.0.forward),
      (c.requires.bytes_len_bound, (c.requires.bytes_len_bound_2, (c.requires.limit_in_bounds, (found_quiet c.requires.found_2 next.0, next.1)))),
    )
