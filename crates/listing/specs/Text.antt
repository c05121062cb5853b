-- Document 01, "The capture listing": the text of the lines, and what the listing answers.
use Rattle.std.specs.Prelude.{ℕ, zero, suc, ◌+◌, ◌-◌, ◌*◌, ◌/◌, ◌%◌, cond, List, [], ◌∷◌, ◌++◌, ltb, length}
use Rattle.answer.specs.Answer.{Outcome, accepted, refuse_if}
use Rattle.listing.specs.Lines.{Line, noise, frame, end, lines}

-- the decimal digit of a number below 10
abbrev pub digit : ℕ → ℕ
digit n = 0x30 + n

-- the last digits of a number, at most so many
unfoldable pub digits : ℕ → ℕ → List ℕ
digits zero n = []
digits (suc most) n =
    let longer = digits most (n / 10) ++ (digit (n % 10) ∷ []) in
    cond (ltb n 10) (digit n ∷ []) longer

-- a number in decimal, without leading zeros: n has no more than n + 1 digits
unfoldable pub number : ℕ → List ℕ
number n = digits (suc n) n

-- the number that digits spell, behind those read already
abbrev pub spelt : ℕ → List ℕ → ℕ
spelt before [] = before
spelt before (d ∷ ds) = spelt (before * 10 + (d - digit 0)) ds

-- "noise ", "frame " and "end "
abbrev pub noise_word : List ℕ
noise_word = 0x6E ∷ 0x6F ∷ 0x69 ∷ 0x73 ∷ 0x65 ∷ 0x20 ∷ []

abbrev pub frame_word : List ℕ
frame_word = 0x66 ∷ 0x72 ∷ 0x61 ∷ 0x6D ∷ 0x65 ∷ 0x20 ∷ []

abbrev pub end_word : List ℕ
end_word = 0x65 ∷ 0x6E ∷ 0x64 ∷ 0x20 ∷ []

abbrev pub space : ℕ
space = 0x20

abbrev pub line_feed : ℕ
line_feed = 0x0A

-- a number, and the byte that closes it
abbrev pub field : ℕ → ℕ → List ℕ
field n closing = number n ++ (closing ∷ [])

-- the text of a line: its word and its numbers, closed by one line feed
unfoldable pub line_text : Line → List ℕ
line_text (noise offset count) = noise_word ++ (field offset space ++ field count line_feed)
line_text (frame offset count kind) = frame_word ++ (field offset space ++ (field count space ++ field kind line_feed))
line_text (end offset) = end_word ++ field offset line_feed

unfoldable pub text : List Line → List ℕ
text [] = []
text (l ∷ ls) = line_text l ++ text ls

-- what a program prints of a refusal, and nothing else: "refused " and its number, closed by one line feed
abbrev pub refused_word : List ℕ
refused_word = 0x72 ∷ 0x65 ∷ 0x66 ∷ 0x75 ∷ 0x73 ∷ 0x65 ∷ 0x64 ∷ 0x20 ∷ []

abbrev pub refusal_text : ℕ → List ℕ
refusal_text n = refused_word ++ field n line_feed

-- the most bytes of a capture
abbrev pub longest : ℕ
longest = 4096

-- the listing of a capture: above 4,096 bytes is 3
unfoldable pub listing : List ℕ → Outcome (List ℕ)
listing s = refuse_if (ltb longest (length s)) 3 (accepted (text (lines s)))
