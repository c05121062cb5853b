use native.Mathlib.Omega.{arith}
use Rattle.listing.proofs.Laws.State.{state_long, state_count, state_of_lem}
use Rattle.listing.proofs.state.read.Goals as goal

pub bounds-state-4 : goal.bounds-state-4
bounds-state-4 c = omega (arith, state_long c.args.state.now c.requires)

pub returns : goal.returns
returns c = state_of_lem c.args.state.now _ _ c.word.ensures c.word-2.ensures

pub word-requires : goal.word-requires
word-requires c = omega (arith, state_long c.args.state.now c.requires)

pub word-requires-2 : goal.word-requires-2
word-requires-2 c = omega (arith, state_long c.args.state.now c.requires)

pub slice_bounds-result-end : goal.slice_bounds-result-end
slice_bounds-result-end c =
    let s = c.args.state.now in
    omega (arith, state_long s c.requires, state_count s c.requires)
