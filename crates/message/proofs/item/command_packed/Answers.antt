use Prim.Native.Nat.{ℕ}
use mathlib.Core.Path.{refl, ap, ◌∙◌}
use Rattle.answer.specs.Answer.{Outcome, on_accepted}
use Rattle.answer.specs.Packed.{packed}
use Rattle.answer.proofs.Laws.Test.{on_accepted_lem}
use Rattle.message.proofs.Laws.Item.{item_found, item_refused, item_carried}
use Rattle.message.specs.Command.{read_command}
use Rattle.message.specs.Fields.{command_fields}
use Rattle.message.specs.Message.{fixed, message_of, with_data}
use Rattle.message.specs.declared.command.Command.{Command}
use Rattle.message.specs.declared.message.Fixed.TheVariants as F
use Rattle.message.proofs.item.command_packed.Goals as goal

abbrev packedOf : Outcome Command → ℕ
packedOf o = packed (on_accepted command_fields o)

pub packed_command-requires : goal.packed_command-requires
unfolding message_of with_data
packed_command-requires c =
    let m = item_carried 0x0F c.args.bytes.now _ c.in-Ok.ensures in
    let r = on_accepted_lem (λ x. fixed (F.Command x)) (read_command _) m.0 m.1 in
    (r.0, ap read_command c.«data».ensures ∙ r.1)

pub returns-in-Ok : goal.returns-in-Ok
returns-in-Ok c =
    c.packed_command.ensures
    ∙ ap packedOf (item_found 0x0F read_command _ _ _ _ c.in-Ok.ensures c.«data».ensures refl)

pub returns-in-Err : goal.returns-in-Err
returns-in-Err c = c.pack_refusal.ensures ∙ ap packedOf (item_refused 0x0F read_command _ _ c.in-Err.ensures)
