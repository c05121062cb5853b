-- Document 01, "The capture listing": what the program prints of an answer.
use Rattle.std.specs.Prelude.{ℕ, List}
use Rattle.answer.specs.Answer.{Outcome, refused, accepted}
use Rattle.listing.specs.Text.{refusal_text}

-- the listing, or only the refusal with its number
abbrev pub printed : Outcome (List ℕ) → List ℕ
printed (refused n) = refusal_text n
printed (accepted text) = text
