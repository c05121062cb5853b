use lib.ListN.{length}
use mathlib.Core.Path.{◌≡◌, sym, ap, ◌∙◌}
use Rattle.answer.specs.Answer.{accepted}
use Rattle.message.proofs.Laws.Packed.{command_carried}
use Rattle.message.specs.Command.{read_command}
use Rattle.message.specs.Parts.{command_in}
use Rattle.message.proofs.Laws.Item.{item_carried, item_found, item_refused}
use Rattle.std.proofs.lemmas.Result.{err_from_is_err_and}
use Rattle.message.proofs.item.command.Goals as goal

pub returns-in_err-h : goal.returns-in_err-h
returns-in_err-h c =
    let p = err_from_is_err_and c.from_residual.result c.from_residual.ensures.1 in
    rw (p.1, p.2) (item_refused _ _ _ _ c.in_err-h.ensures)

pub of_data-requires : goal.of_data-requires
of_data-requires c =
    let m = item_carried 0x0F c.args.bytes.now _ c.in_ok-h.ensures in
    ap length c.«data».ensures ∙ (command_carried _ m.0 m.1).0

pub returns : goal.returns
returns c =
    let m = item_carried 0x0F c.args.bytes.now _ c.in_ok-h.ensures in
    let d = c.«data».result.now in
    let read : read_command d ≡ accepted (command_in d) = ap read_command c.«data».ensures ∙ (command_carried _ m.0 m.1).1 ∙ ap (λ x. accepted (command_in x)) (sym c.«data».ensures) in
    item_found 0x0F read_command _ _ d _ c.in_ok-h.ensures c.«data».ensures (ap accepted c.of_data.ensures ∙ sym read)
