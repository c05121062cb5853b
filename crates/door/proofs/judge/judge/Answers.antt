use borrow.Author.Tests.{eq-eqb, ne_eqb}
use mathlib.Core.Bool.{Bool}
use mathlib.Core.Path.{ap, ◌∙◌}
use Rattle.door.specs.Door.{on_login}
use Rattle.door.proofs.judge.judge.Goals as goal

pub same_digits-requires : goal.same_digits-requires
same_digits-requires c = record {
  secret_len = c.requires.secret_len;
  digits_len = c.requires.data_len c.if-kind-eq-LOGIN.true;
}

pub returns-then-kind-eq-LOGIN : goal.returns-then-kind-eq-LOGIN
returns-then-kind-eq-LOGIN c =
    let a = c.args in
    simp (eq-eqb a.kind 0x20 c.if-kind-eq-LOGIN.true) (c.on_login.ensures ∙ ap (λ (t : Bool). on_login t a.st) c.same_digits.ensures)

pub returns : goal.returns
returns c =
    let a = c.args in
    simp (ne_eqb a.kind 0x20 c.if-kind-eq-LOGIN.false) c.on_other.ensures
