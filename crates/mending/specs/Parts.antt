-- What the functions behind mending promise one another.
use Rattle.std.specs.Prelude.{ℕ, Option, Some, None}
use Rattle.answer.specs.Answer.{Outcome, refused, accepted}

-- a place as the code has it, or none
abbrev pub place_of : Option ℕ → Outcome ℕ
place_of (Some p) = accepted p
place_of None = refused 5
