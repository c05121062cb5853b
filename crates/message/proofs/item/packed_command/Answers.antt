use Prim.Native.Nat.{ℕ}
use lib.ListN.{get_or}
use mathlib.Core.Path.{sym, ap, ◌∙◌}
use native.Mathlib.Omega.{arith}
use Rattle.answer.specs.Answer.{Outcome, accepted, on_accepted}
use Rattle.answer.specs.Packed.{packed}
use Rattle.message.proofs.Laws.Packed.{command_taken}
use Rattle.message.specs.Command.{command_listed, command_of}
use Rattle.message.specs.Fields.{command_fields}
use Rattle.message.specs.declared.command.Command.{Command}
use Rattle.message.proofs.item.packed_command.Goals as goal

abbrev packedOf : Outcome Command → ℕ
packedOf o = packed (on_accepted command_fields o)

pub bounds-data-0 : goal.bounds-data-0
bounds-data-0 c =
    omega (arith, (command_taken c.args.«data».now c.requires.0 c.requires.1).0)

pub bounds-data-1 : goal.bounds-data-1
bounds-data-1 c =
    omega (arith, (command_taken c.args.«data».now c.requires.0 c.requires.1).0)

pub bounds-data-2 : goal.bounds-data-2
bounds-data-2 c =
    omega (arith, (command_taken c.args.«data».now c.requires.0 c.requires.1).0)

pub bounds-data-3 : goal.bounds-data-3
bounds-data-3 c =
    omega (arith, (command_taken c.args.«data».now c.requires.0 c.requires.1).0)

pub packed_parameters-requires : goal.packed_parameters-requires
packed_parameters-requires c =
    let d = c.args.«data».now in
    ap (command_listed (get_or d 0 0) (get_or d 1 0)) c.word.ensures ∙ (command_taken d c.requires.0 c.requires.1).1

pub returns : goal.returns
returns c =
    let d = c.args.«data».now in
    c.packed_parameters.ensures
    ∙ ap (λ (w : ℕ). packedOf (accepted (command_of (get_or d 0 0) (get_or d 1 0) w))) c.word.ensures
    ∙ ap packedOf ((command_taken d c.requires.0 c.requires.1).2 ∙ sym c.requires.1)
