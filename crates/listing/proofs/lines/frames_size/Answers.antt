use Prim.Native.Nat.{ℕ, ◌+◌}
use lib.ListN.{length, drop}
use mathlib.Core.Path.{◌≡◌, subst⁻¹, ap}
use native.Mathlib.Omega.{arith}
use Rattle.listing.proofs.Laws.FramesText.{frames_bound, step, step-size, no_more}
use Rattle.listing.specs.Parts.{Within, frames_text}
use Rattle.listing.proofs.lines.frames_size.Goals as goal

pub loop-frame-init : goal.loop-frame-init
loop-frame-init c = (c.requires.within, omega arith)

pub pair_size-size-requires : goal.pair_size-size-requires
pair_size-size-requires c =
    let l = c.loop-frame in
    let n = step c.args.found.now 4096 l.at l.frame-index c.loop-frame-test.true l.invariant.0 in record {
      from_bound = n.forward;
      frame_bound = omega (arith, n.inside);
    }

pub overflow_add-size : goal.overflow_add-size
overflow_add-size c =
    let a = c.args in
    let l = c.loop-frame in
    let n = step a.found.now 4096 l.at l.frame-index c.loop-frame-test.true l.invariant.0 in
    omega (arith, c.pair_size-size.ensures, l.invariant.1, step-size n, frames_bound a.from a.found.now c.requires.within, c.requires.found_len_bound)

pub loop-frame-preserved : goal.loop-frame-preserved
loop-frame-preserved c =
    let a = c.args in
    let l = c.loop-frame in
    let n = step a.found.now 4096 l.at l.frame-index c.loop-frame-test.true l.invariant.0 in
    subst⁻¹ (λ (to : ℕ). Within to (drop (l.frame-index + 1) a.found.now) 4096
    × (l.size + c.pair_size-size.result + length (frames_text to (drop (l.frame-index + 1) a.found.now)) ≡ length (frames_text a.from a.found.now)))
    c.end-at.ensures (n.within, omega (arith, c.pair_size-size.ensures, l.invariant.1, step-size n))

pub returns : goal.returns
returns c =
    let l = c.loop-frame in
    omega (arith, l.invariant.1, ap length (no_more c.args.found.now l.at l.frame-index c.loop-frame-test.false))
