use Prim.Native.Nat.{◌/◌, ◌%◌}
use mathlib.Core.Path.{sym}
use native.Mathlib.Omega.{arith}
use Rattle.listing.proofs.Laws.Output.{same_bytes, stored₂, stored₃, stored₄}
use Rattle.listing.specs.Text.{digit, line_feed}
use Rattle.mend.proofs.Laws.Text.{one_digit, two_digits, three_digits}
use Rattle.mend.proofs.put_field.Goals as goal

pub returns-then-n-lt10 : goal.returns-then-n-lt10
returns-then-n-lt10 c =
    let a = c.args in
    same_bytes (sym (one_digit a.n c.if-n-lt10.true)) (stored₂ a.out.now a.at (digit a.n) line_feed (omega arith))

pub returns-then-n-lt100 : goal.returns-then-n-lt100
returns-then-n-lt100 c =
    let a = c.args in
    same_bytes (sym (two_digits a.n c.if-n-lt10.false c.if-n-lt100.true))
    (stored₃ a.out.now a.at (digit (a.n / 10)) (digit (a.n % 10)) line_feed (omega arith))

pub returns : goal.returns
returns c =
    let a = c.args in
    same_bytes (sym (three_digits a.n c.if-n-lt100.false c.requires.n_bound))
    (stored₄ a.out.now a.at (digit (a.n / 100)) (digit (a.n % 100 / 10)) (digit (a.n % 100 % 10)) line_feed (omega arith))
