use Prim.Native.Nat.{ℕ}
use mathlib.Core.List.{List, [], ◌∷◌}
use mathlib.Core.Path.{sym, ap, ap₂, ◌∙◌}
use native.Mathlib.Omega.{arith}
use Rattle.answer.specs.Answer.{accepted}
use Rattle.answer.specs.Packed.{Field, packed, byte, word}
use Rattle.message.proofs.Laws.Packed.{count_of_duration, timed-fields, plain_fields}
use Rattle.message.proofs.item.packed_parameters.Goals as goal

pub returns-then-number-lt2 : goal.returns-then-number-lt2
returns-then-number-lt2 c =
    let a = c.args in
    c.pack_3_bytes_word.ensures
    ∙ ap₂ (λ (u n : ℕ). packed (accepted (byte a.number ∷ byte u ∷ byte n ∷ word a.p2 ∷ []))) c.unit_of.ensures (count_of_duration a.p1 (omega arith))
    ∙ sym (ap (λ (l : List Field). packed (accepted l)) (timed-fields a.p1 a.p2 a.number c.if-number-lt2.true))

pub returns : goal.returns
returns c =
    let a = c.args in
    c.pack_3_bytes_word-2.ensures
    ∙ sym (ap (λ (l : List Field). packed (accepted l)) (plain_fields a.p1 a.p2 a.number c.requires c.if-number-lt2.false))
