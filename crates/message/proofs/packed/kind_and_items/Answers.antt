use mathlib.Core.Bool.{true}
use mathlib.Core.Path.{◌≡◌, sym, ◌∙◌}
use Rattle.message.specs.Parts.{is_plain}
use Rattle.message.specs.declared.message.Fixed.TheVariants as F
use Rattle.message.proofs.Laws.Counts.{unread, items_checked}
use Rattle.message.proofs.Laws.Item.{header_unread, header_unchecked, header_checked}
use Rattle.message.proofs.Laws.Kinds.{plain_type, plain_none}
use Rattle.std.proofs.lemmas.Result.{err_from_is_err_and}
use Rattle.message.proofs.packed.kind_and_items.Goals as goal

pub returns-in_err-h : goal.returns-in_err-h
returns-in_err-h c =
    let p = err_from_is_err_and c.from_residual.result c.from_residual.ensures.1 in
    rw (p.1, p.2) (unread _ _ (header_unread _ _ c.in_err-h.ensures))

pub returns-in_err-plain : goal.returns-in_err-plain
returns-in_err-plain c =
    let none = plain_type _ _ (sym c.is_plain.ensures ∙ c.if-is_plain.true) in
    let p = err_from_is_err_and c.from_residual-in_err-plain.result c.from_residual-in_err-plain.ensures.1 in
    rw (p.1, p.2) (unread _ _ (header_unchecked _ _ c.in_ok-h.ensures _ c.data-data.ensures _ (c.in_err-plain.ensures F.Acknowledge ∙ none)))

pub returns-then-is_plain : goal.returns-then-is_plain
returns-then-is_plain c =
    let h = c.in_ok-h.h in
    let d = c.data-data.result.now in
    let is : is_plain h.kind ≡ true = sym c.is_plain.ensures ∙ c.if-is_plain.true in
    items_checked _ _ (header_checked _ _ c.in_ok-h.ensures d c.data-data.ensures (c.in_ok-plain.ensures F.Acknowledge ∙ plain_type h.kind d is)) 0
    (plain_none h.kind d h.count is)

pub returns-in_err-check : goal.returns-in_err-check
returns-in_err-check c =
    let p = err_from_is_err_and c.from_residual-in_err-check.result c.from_residual-in_err-check.ensures.1 in
    rw (p.1, p.2) (unread _ _ (header_unchecked _ _ c.in_ok-h.ensures _ c.data-data.ensures _ c.in_err-check.ensures))

pub returns : goal.returns
returns c = items_checked _ _ (header_checked _ _ c.in_ok-h.ensures _ c.data-data.ensures c.in_ok-check.ensures) _ c.items_in.ensures
