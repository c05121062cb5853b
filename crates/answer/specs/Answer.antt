-- Document 01, "Answer numbers": the refusals, what a call answers, and what a writer leaves in lent memory.
use Rattle.std.specs.Prelude.{ℕ, Bool, true, false, List, ◌++◌, length, drop, ltb, Result, Ok, Err}
use Rattle.answer.specs.declared.Refusal.{Refusal}
use Rattle.answer.specs.declared.Refusal.TheVariants.{Short, Start, Length, Long, Checksum, Unknown, TypeLength, Field, Room, Total}

-- the number of each refusal, in the table's order; 10, a cost word above 65025, is retired by document 02, K4, and not used again
abbrev pub number_of : Refusal → ℕ
number_of Short = 1
number_of Start = 2
number_of Length = 3
number_of Long = 4
number_of Checksum = 5
number_of Unknown = 6
number_of TypeLength = 7
number_of Field = 8
number_of Room = 9
number_of Total = 11

-- what a call answers: a refusal with its number, or what it accepts
pub data Outcome (A : Type 0) : Type 0 where
  refused : ℕ → Outcome A
  accepted : A → Outcome A

-- one check: the refusal where the test holds, else what the later checks say
abbrev pub refuse_if : {A : Type 0} → Bool → ℕ → Outcome A → Outcome A
refuse_if true n later = refused n
refuse_if false n later = later

-- the same answer, with f of what is accepted
abbrev pub on_accepted : {A B : Type 0} → (A → B) → Outcome A → Outcome B
on_accepted f (refused n) = refused n
on_accepted f (accepted a) = accepted (f a)

-- whether a call accepts
abbrev pub is_accepted : {A : Type 0} → Outcome A → Bool
is_accepted (refused n) = false
is_accepted (accepted a) = true

-- a further reading of what is accepted, which may refuse it
abbrev pub and_then : {A B : Type 0} → Outcome A → (A → Outcome B) → Outcome B
and_then (refused n) f = refused n
and_then (accepted a) f = f a

-- a writer's last check: 9 where what is written is longer than the lent output
abbrev pub in_room : ℕ → Outcome (List ℕ) → Outcome (List ℕ)
in_room room o = and_then o (λ bytes. refuse_if (ltb room (length bytes)) 9 (accepted bytes))

-- what a writer leaves in the lent output: the bytes written, then the old bytes from there on; where it refuses, the old bytes
abbrev pub out_after : Outcome (List ℕ) → List ℕ → List ℕ
out_after (refused n) old = old
out_after (accepted bytes) old = bytes ++ drop (length bytes) old

-- what the code answers, a refusal by its number
abbrev pub outcome_of : {A : Type 0} → Result A Refusal → Outcome A
outcome_of (Ok a) = accepted a
outcome_of (Err r) = refused (number_of r)
