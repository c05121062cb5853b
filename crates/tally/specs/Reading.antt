-- Document 02, K5: a meter reply, and the cost word that it carries.
use Rattle.std.specs.Prelude.{ℕ, ◌≤◌, ◌≡◌, not, List, [], ◌∷◌, eqb}
use Rattle.answer.specs.Answer.{Outcome, refused, accepted, refuse_if, and_then}
use Rattle.omnistat.specs.declared.frame.End.TheVariants.{Host}
use Rattle.omnistat.specs.Frame.{first_of, summed}
use Rattle.omnistat.specs.Message.{acknowledge, negative, data_from, group}
use Rattle.omnistat.specs.Omnistat.{Message, counted, text, read}
use Rattle.tally.specs.Cost.{cost_register, word_of}

-- the word of data: it starts at 170 and has exactly two registers; any other run is 8
abbrev pub word_in : ℕ → List ℕ → Outcome ℕ
word_in start [] = refused 8
word_in start (high ∷ []) = refused 8
word_in start (high ∷ low ∷ []) = refuse_if (not (eqb start cost_register)) 8 (accepted (word_of high low))
word_in start (high ∷ low ∷ b ∷ values) = refused 8

-- the word of a message: any other than data is 8, a text too
abbrev pub word_from : Message Host → Outcome ℕ
word_from (counted (data_from start values)) = word_in start values
word_from (counted acknowledge) = refused 8
word_from (counted negative) = refused 8
word_from (counted (group g values)) = refused 8
word_from (text t) = refused 8

-- the word of a reply, from whichever thermostat: the reader's refusals, then 8
unfoldable pub reading : List ℕ → Outcome ℕ
reading reply = and_then (read Host reply) (λ a. word_from a.message)

-- the bytes of a meter reply: three data bytes of type 2, which are 170 and the two registers, and the sum
abbrev pub meter_reply : ℕ → ℕ → ℕ → List ℕ
meter_reply number high low = summed (first_of Host number ∷ 0x32 ∷ cost_register ∷ high ∷ low ∷ [])

-- a reply that carries a word: the bytes of a meter reply, from a thermostat of a number 1 to 127
pub record Carries (reply : List ℕ) (word : ℕ) : Type 0 where
  pub number : ℕ
  pub high : ℕ
  pub low : ℕ
  pub of_a_thermostat : (1 ≤ number) × (number ≤ 127)
  pub its_bytes : reply ≡ meter_reply number high low
  pub its_word : word ≡ word_of high low
