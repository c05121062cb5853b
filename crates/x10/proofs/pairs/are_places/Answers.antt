use mathlib.Core.Path.{sym, ◌∙◌}
use Rattle.x10.proofs.Laws.Pairs.{next_place}
use Rattle.x10.proofs.pairs.are_places.Goals as goal

pub loop-place-preserved : goal.loop-place-preserved
loop-place-preserved c =
    let l = c.loop-place in
    sym (next_place c.args.places.now l.place-index l.seen c.loop-place-test.true) ∙ l.invariant
