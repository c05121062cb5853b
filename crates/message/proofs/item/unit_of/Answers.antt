use Prim.Native.Nat.{ℕ}
use mathlib.Core.Path.{sym, ap}
use native.Mathlib.Omega.{arith}
use Rattle.message.proofs.Laws.Packed.{unit_of_lem}
use Rattle.message.specs.Command.{duration_of}
use Rattle.message.specs.Fields.{duration_unit}
use Rattle.message.proofs.item.unit_of.Goals as goal

pub returns-then-p1-eq0 : goal.returns-then-p1-eq0
returns-then-p1-eq0 c =
    sym (ap (λ (p : ℕ). duration_unit (duration_of p)) c.if-p1-eq0.true)

pub returns : goal.returns
returns c = unit_of_lem c.args.p1 c.if-p1-eq0.false (omega arith)
