-- Document 01, "Omnistat2 messages", and document 02, K1: the rules for runs of registers and for text registers.
use Rattle.std.specs.Prelude.{ℕ, ◌+◌, Bool, cond, ◌&&◌, ◌||◌, leb, ltb, eqb}

-- a number between two others, both edges included
abbrev pub within : ℕ → ℕ → ℕ → Bool
within lo hi n = leb lo n && leb n hi

-- registers 172 to 181 hold text
abbrev pub first_text : ℕ
first_text = 172

abbrev pub last_text : ℕ
last_text = 181

abbrev pub is_text : ℕ → Bool
is_text r = within first_text last_text r

-- a run of count registers ends at or below 255 and meets no text register
unfoldable pub run_allowed : ℕ → ℕ → Bool
run_allowed start count = leb (start + count) 256 && (leb (start + count) first_text || ltb last_text start)

-- a poll has count 1 where it starts at a text register, else it is of 1-14 registers, in a run that is allowed
abbrev pub poll_allowed : ℕ → ℕ → Bool
poll_allowed start count = cond (is_text start) (eqb count 1) (within 1 14 count && run_allowed start count)
