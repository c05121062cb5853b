use mathlib.Core.Path.{ap, ◌∙◌}
use mathlib.Core.List.{List}
use Prim.Native.Nat.{ℕ, ◌+◌, ◌%◌}
use native.Mathlib.Omega.{arith}
use lib.ListN.{get_or, set}
use lib.Seq.{paste-zero}
use Rattle.std.proofs.lemmas.List.Edits.{paste_more}
use Rattle.omnistat.proofs.Laws.Sum.{sum_none, sum_next}
use Rattle.omnistat.proofs.frame.put.Goals as goal

pub loop-i-init : goal.loop-i-init
loop-i-init c = (paste-zero c.args.out.now c.args.at c.args.from.now, sum_none)

pub loop-i-preserved : goal.loop-i-preserved
loop-i-preserved c =
    let a = c.args in
    let l = c.loop-i in
    let from = c.args.from.now in (
      ap (λ (d : List ℕ). set d (a.at + l.i) (get_or from l.i 0)) l.invariant.0
          ∙ paste_more a.out.now a.at from l.i 0 (omega arith) (omega arith),
      ap (λ (n : ℕ). (n + get_or from l.i 0) % 256) l.invariant.1 ∙ sum_next from l.i (omega arith),
    )
