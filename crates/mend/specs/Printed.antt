-- Document 02, K8: what the program prints of an answer.
use Rattle.std.specs.Prelude.{ℕ, ◌+◌, ◌/◌, ◌%◌, cond, List, [], ◌∷◌, ◌++◌, ltb}
use Rattle.answer.specs.Answer.{Outcome, refused, accepted}
use Rattle.listing.specs.Text.{field, space, line_feed, refusal_text}
use Rattle.mending.specs.Mending.{Mended}

-- "place "
abbrev pub place_word : List ℕ
place_word = 0x70 ∷ 0x6C ∷ 0x61 ∷ 0x63 ∷ 0x65 ∷ 0x20 ∷ []

-- the hex digit of a number below 16: 0 to 9, then A to F
abbrev pub hex_digit : ℕ → ℕ
hex_digit n = cond (ltb n 10) (0x30 + n) (0x37 + n)

-- a byte in hex, two digits, and the byte that closes it
abbrev pub hex_field : ℕ → ℕ → List ℕ
hex_field b closing = hex_digit (b / 16) ∷ hex_digit (b % 16) ∷ closing ∷ []

-- a line of bytes in hex: separated by one space, closed by one line feed
unfoldable pub hex_line : List ℕ → List ℕ
hex_line [] = line_feed ∷ []
hex_line (b ∷ []) = hex_field b line_feed
hex_line (b ∷ (c ∷ s)) = hex_field b space ++ hex_line (c ∷ s)

-- the place and, on the next line, the frame's bytes; or only the refusal with its number
abbrev pub printed : Outcome Mended → List ℕ
printed (refused n) = refusal_text n
printed (accepted m) = place_word ++ (field m.place line_feed ++ hex_line m.frame)
