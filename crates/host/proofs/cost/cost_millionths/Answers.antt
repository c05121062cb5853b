use mathlib.Core.Path.{ap, ◌∙◌}
use mathlib.Core.List.{[], ◌∷◌}
use Prim.Native.Nat.{ℕ, ◌%◌, ◌^◌}
use Rattle.answer.specs.Answer.{accepted}
use Rattle.answer.specs.Packed.{packed, field}
use Rattle.tally.proofs.Laws.Cost.{millionths_short}
use Rattle.host.proofs.cost.cost_millionths.Goals as goal

-- the number that stands for a value
abbrev numbered : ℕ → ℕ
numbered v = packed (accepted (field 56 v ∷ []))

pub returns : goal.returns
returns c = c.pack_56_bits.ensures ∙ ap numbered (ap (λ (v : ℕ). v % 2 ^ 56) c.convert.ensures ∙ millionths_short _)
