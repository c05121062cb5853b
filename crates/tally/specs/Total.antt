-- Document 01, "Cost", and document 02, K5: the tally's total, and one meter reply added to it.
use Rattle.std.specs.Prelude.{ℕ, ◌+◌, ◌-◌, ◌^◌, List, ltb}
use Rattle.answer.specs.Answer.{Outcome, refused, accepted, refuse_if, and_then}
use Rattle.tally.specs.Cost.{millionths}
use Rattle.tally.specs.Reading.{reading}

-- the exact sum of a total and a value, or 11 where it would pass 2^64 - 1
unfoldable pub exact_sum : ℕ → ℕ → Outcome ℕ
exact_sum total v = refuse_if (ltb (2 ^ 64 - 1) (total + v)) 11 (accepted (total + v))

-- a word added to a total
abbrev pub plus_word : ℕ → ℕ → Outcome ℕ
plus_word total word = exact_sum total (millionths word)

-- the word of a reply added to a total: the refusals of its reading, then 11
abbrev pub next_total : ℕ → List ℕ → Outcome ℕ
next_total total reply = and_then (reading reply) (plus_word total)

-- what the record holds after an answer: the new total; after a refusal the old one
abbrev pub kept_after : ℕ → Outcome ℕ → ℕ
kept_after total (refused n) = total
kept_after total (accepted next) = next

-- what the record holds after a reply
abbrev pub total_after : ℕ → List ℕ → ℕ
total_after total reply = kept_after total (next_total total reply)
