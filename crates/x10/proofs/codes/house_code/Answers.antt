use mathlib.Core.Path.{sym, ap, ◌∙◌}
use Prim.Native.Nat.{ℕ}
use Rattle.answer.specs.Answer.{accepted}
use Rattle.x10.specs.Codes.{code_at}
use Rattle.x10.proofs.Laws.Write.{house_past, house_listed}
use Rattle.x10.proofs.codes.house_code.Goals as goal

pub returns-then-house-gt-LAST_HOUSE : goal.returns-then-house-gt-LAST_HOUSE
returns-then-house-gt-LAST_HOUSE c = sym (house_past c.args.house c.if-house-gt-LAST_HOUSE.true)

pub returns : goal.returns
unfolding code_at
returns c = ap (λ (i : ℕ). accepted (code_at i)) c.from.ensures ∙ sym (house_listed c.args.house c.if-house-gt-LAST_HOUSE.false)
