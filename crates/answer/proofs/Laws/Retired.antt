-- The number that document 02, K4, retires: no case of `Refusal` has it. Assumes nothing.
use mathlib.Core.Path.{◌≡◌}
use native.Mathlib.Omega.{arith}
use Rattle.answer.specs.Answer.{number_of}
use Rattle.answer.specs.declared.Refusal.{Refusal}
use Rattle.answer.specs.declared.Refusal.TheVariants.{Short, Start, Length, Long, Checksum, Unknown, TypeLength, Field, Room, Total}

pub retired_10 : (r : Refusal) → number_of r ≡ 10 → ⊥
retired_10 Short e = omega arith
retired_10 Start e = omega arith
retired_10 Length e = omega arith
retired_10 Long e = omega arith
retired_10 Checksum e = omega arith
retired_10 Unknown e = omega arith
retired_10 TypeLength e = omega arith
retired_10 Field e = omega arith
retired_10 Room e = omega arith
retired_10 Total e = omega arith
