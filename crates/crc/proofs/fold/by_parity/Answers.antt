use Prim.Native.Nat.{◌%◌}
use borrow.Author.Tests.{eq-eqb, ne_eqb}
use lib.Count.{ones}
use mathlib.Core.Bool.{Bool, cond}
use mathlib.Core.Path.{sym, ap, ◌∙◌}
use Rattle.crc.proofs.Laws.Parts.{ones_parity}
use Rattle.crc.proofs.fold.by_parity.Goals as goal

pub returns-then-n-eq1 : goal.returns-then-n-eq1
returns-then-n-eq1 c =
    let a = c.args in
    ap (λ (b : Bool). cond b a.odd a.even)
    (sym (eq-eqb (ones a.n % 2) 1 c.if-n-eq1.true) ∙ ones_parity a.n c.ranges.n.fits)

pub returns : goal.returns
returns c =
    let a = c.args in
    ap (λ (b : Bool). cond b a.odd a.even)
    (sym (ne_eqb (ones a.n % 2) 1 c.if-n-eq1.false) ∙ ones_parity a.n c.ranges.n.fits)
