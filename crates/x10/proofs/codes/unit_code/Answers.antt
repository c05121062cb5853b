use mathlib.Core.Path.{sym, ◌∙◌}
use Rattle.x10.proofs.Laws.Write.{unit_zero, unit_some}
use Rattle.x10.proofs.codes.unit_code.Goals as goal

pub returns-then-unit-eq0 : goal.returns-then-unit-eq0
returns-then-unit-eq0 c = sym (unit_zero c.args.unit c.if-unit-eq0.true)

pub returns : goal.returns
returns c = c.house_code.ensures ∙ sym (unit_some c.args.unit c.if-unit-eq0.false)
