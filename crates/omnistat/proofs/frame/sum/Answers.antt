use mathlib.Core.Path.{ap, ◌∙◌}
use Prim.Native.Nat.{ℕ, ◌+◌, ◌%◌}
use lib.ListN.{get_or}
use Rattle.omnistat.proofs.Laws.Sum.{sum_none, sum_next}
use Rattle.omnistat.proofs.frame.sum.Goals as goal

pub loop-b-init : goal.loop-b-init
loop-b-init c = sum_none

pub loop-b-preserved : goal.loop-b-preserved
loop-b-preserved c =
    let s = c.args.bytes.now in
    let i = c.loop-b.b-index in
    ap (λ (n : ℕ). (n + get_or s i 0) % 256) c.loop-b.invariant ∙ sum_next s i c.loop-b-test.true
