use lib.Dec.{eqb}
use mathlib.Core.Path.{refl, sym, ◌∙◌}
use Rattle.listing.proofs.Laws.State.{zero_more, zero_ended}
use Rattle.listing.proofs.state.is_zero.Goals as goal

pub loop-b-init : goal.loop-b-init
loop-b-init c = refl

pub loop-b-preserved : goal.loop-b-preserved
loop-b-preserved c = c.loop-b.invariant ∙ zero_more c.args.bytes.now c.loop-b.b-index c.loop-b-test.true c.loop-b.all

pub returns : goal.returns
returns c = sym (c.loop-b.invariant ∙ zero_ended c.args.bytes.now c.loop-b.b-index c.loop-b-test.false (eqb c.loop-b.all 0))
