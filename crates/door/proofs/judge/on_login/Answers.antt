use borrow.Author.Tests.{lt-ltb, le-ltb}
use mathlib.Core.Path.{ap}
use native.Mathlib.Omega.{arith}
use Rattle.door.specs.Door.{replied}
use Rattle.door.specs.declared.Reply.TheVariants.{NegativeAcknowledge}
use Rattle.door.proofs.judge.on_login.Goals as goal

pub returns-then-st-gt0 : goal.returns-then-st-gt0
returns-then-st-gt0 c = simp (lt-ltb 0 c.args.st.left (omega (arith, c.if-st-gt0.true)))

pub returns-then-right : goal.returns-then-right
returns-then-right c =
    simp (le-ltb 0 c.args.st.left (omega (arith, c.if-st-gt0.false)), c.if-right.true)

pub returns : goal.returns
returns c =
    simp (le-ltb 0 c.args.st.left (omega (arith, c.if-st-gt0.false)), c.if-right.false) (ap (replied NegativeAcknowledge) c.wrong_login.ensures)
