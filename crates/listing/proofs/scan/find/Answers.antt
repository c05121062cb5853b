use lib.ListN.{length}
use mathlib.Core.Path.{◌≡◌, refl, subst, ◌∙◌}
use native.Mathlib.Omega.{arith}
use Rattle.listing.proofs.Laws.Found.{found_none}
use Rattle.listing.specs.Parts.{Found}
use Rattle.listing.proofs.scan.find.Goals as goal

pub loop-at-init : goal.loop-at-init
loop-at-init c = (found_none c.args.bytes.now c.args.found.now, refl)

pub stretch_end-requires : goal.stretch_end-requires
stretch_end-requires c = c.loop-at.invariant.0.quiet.within

pub noise-reached-requires : goal.noise-reached-requires
noise-reached-requires c =
    let inv = c.loop-at.invariant in record {
      bytes_len_bound = c.requires.bytes_len_bound;
      bytes_len_bound_2 = omega (arith, c.requires.bytes_len_bound_2, inv.1);
      limit_in_bounds = c.stretch_end.ensures;
      from_in_bounds = c.loop-at-test.true;
      found_2 = inv.0;
    }

pub loop-at-smaller : goal.loop-at-smaller
loop-at-smaller c = omega (arith, c.noise-reached.ensures.forward, c.noise-reached.ensures.found.quiet.within)

pub loop-at-preserved : goal.loop-at-preserved
loop-at-preserved c = (c.noise-reached.ensures.found, c.noise-reached.auto.found ∙ c.loop-at.invariant.1)

pub shape_of-found : goal.shape_of-found
shape_of-found c = c.loop-at.invariant.1

pub returns : goal.returns
returns c =
    let s = c.args.bytes.now in
    let inv = c.loop-at.invariant in
    let end : c.loop-at.at ≡ length s = omega (arith, c.loop-at-test.false, inv.0.quiet.within) in
    subst (Found s c.loop-at.found c.loop-at.n) end inv.0
