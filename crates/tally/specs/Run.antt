-- Document 01, "Cost", and document 02, K5: a run of meter calls, one after the other on one record, as the caller sees it.
use Rattle.std.specs.Prelude.{ℕ, ◌+◌, ◌-◌, ◌^◌, ◌≤◌, ◌<◌, ◌≡◌, List, [], ◌∷◌}
use Rattle.answer.specs.Answer.{Outcome, refused, accepted}
use Rattle.omnistat.specs.declared.frame.End.TheVariants.{Host}
use Rattle.omnistat.specs.Omnistat.{Message, Addressed, read}
use Rattle.tally.specs.Cost.{millionths}
use Rattle.tally.specs.Reading.{reading, Carries}
use Rattle.tally.specs.Total.{next_total, total_after}

-- one call: the bytes passed, of any kind, the answer, and the total found in the record afterwards
pub record Call : Type 0 where
  pub reply : List ℕ
  pub answer : Outcome ℕ
  pub total : ℕ

-- calls one after the other, each as promised at the total that the one before left
unfoldable pub Promised : ℕ → List Call → Type 0
Promised total [] = Unit {0}
Promised total (c ∷ cs) = (c.answer ≡ next_total total c.reply) × (c.total ≡ total_after total c.reply) × Promised c.total cs

-- the total found after the last call
unfoldable pub total_found : ℕ → List Call → ℕ
total_found total [] = total
total_found total (c ∷ cs) = total_found c.total cs

-- what a call counts, by its answer and the reading of its reply: the word's value where the answer is that it was taken, else nothing
abbrev pub value_taken : Outcome ℕ → Outcome ℕ → ℕ
value_taken (refused n) r = 0
value_taken (accepted next) (refused n) = 0
value_taken (accepted next) (accepted word) = millionths word

-- the sum of the accepted words, as integers
unfoldable pub sum_accepted : List Call → ℕ
sum_accepted [] = 0
sum_accepted (c ∷ cs) = value_taken c.answer (reading c.reply) + sum_accepted cs

-- what a call is refused with, after others: what the reader at the host refuses with, and that is no number above 8; 8 where the reader accepts
-- and the reply carries no word; 11 where it carries one and the sum would pass 2^64 - 1
pub data RefusedWith (before : List Call) (c : Call) (n : ℕ) : Type 0 where
  readers : read Host c.reply ≡ refused n → n ≤ 8 → RefusedWith before c n
  other_message : (a : Addressed (Message Host)) → read Host c.reply ≡ accepted a → n ≡ 8 → ((word : ℕ) → Carries c.reply word → ⊥) → RefusedWith before c n
  past_the_largest : (word : ℕ) → Carries c.reply word → n ≡ 11 → 2 ^ 64 - 1 < sum_accepted before + millionths word → RefusedWith before c n
