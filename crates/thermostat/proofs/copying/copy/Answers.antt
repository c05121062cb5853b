use Rattle.std.proofs.Common.{ℕ, List, ◌+◌, get_or, sym, ap, ◌∙◌, add-one, arith}
use Rattle.std.proofs.Math.ListN.{set}
use Rattle.std.proofs.Math.Seq.{paste, paste-suc}
use Rattle.thermostat.proofs.copying.copy.Goals as goal

pub loop-i-preserved : goal.loop-i-preserved
loop-i-preserved c =
    let a = c.args in
    let i = c.loop-i.i in
    let bytes = c.args.bytes.now in
    ap (λ (l : List ℕ). set l (a.from + i) (get_or bytes i 0)) c.loop-i.invariant
    ∙ paste-suc a.to.now a.from bytes i 0 (omega arith) (omega arith)
    ∙ ap (paste a.to.now a.from bytes) (sym (add-one i))
