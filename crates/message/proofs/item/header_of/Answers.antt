use borrow.Author.Tests.{eq-eqb, ne_eqb}
use lib.Dec.{eqb}
use mathlib.Core.Bool.{Bool, not}
use mathlib.Core.Path.{sym, ap, ◌∙◌}
use Rattle.answer.specs.Answer.{Outcome, accepted, refuse_if, and_then}
use Rattle.link.specs.declared.frame.Header.{Header}
use Rattle.message.proofs.Laws.Item.{header_of_type}
use Rattle.message.proofs.item.header_of.Goals as goal
use Rattle.std.proofs.lemmas.Result.{err_from_is_err_and}
use Prim.Native.Nat.{ℕ}

abbrev of_type : ℕ → Outcome Header → Outcome Header
of_type wanted o = and_then o (λ h. refuse_if (not (eqb h.kind wanted)) 8 (accepted h))

pub returns-in_err-h : goal.returns-in_err-h
returns-in_err-h c =
    let a = c.args in
    let p = err_from_is_err_and c.from_residual.result c.from_residual.ensures.1 in
    rw (p.1, p.2) (ap (of_type a.wanted) c.in_err-h.ensures ∙ header_of_type a.wanted a.bytes.now)

pub returns-then-h-wanted : goal.returns-then-h-wanted
returns-then-h-wanted c =
    let a = c.args in
    let h = c.in_ok-h.h in
    sym (ap (λ (t : Bool). refuse_if (not t) 8 (accepted h)) (ne_eqb h.kind a.wanted c.if-h-wanted.true))
    ∙ ap (of_type a.wanted) c.in_ok-h.ensures
    ∙ header_of_type a.wanted a.bytes.now

pub returns : goal.returns
returns c =
    let a = c.args in
    let h = c.in_ok-h.h in
    sym (ap (λ (t : Bool). refuse_if (not t) 8 (accepted h)) (eq-eqb h.kind a.wanted c.if-h-wanted.false))
    ∙ ap (of_type a.wanted) c.in_ok-h.ensures
    ∙ header_of_type a.wanted a.bytes.now
