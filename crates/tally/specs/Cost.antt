-- Document 01, "Cost": a cost word and its value. Every word of 16 bits is one, as document 02, K4, has it.
use Rattle.std.specs.Prelude.{ℕ, ◌+◌, ◌*◌, ◌/◌, ◌%◌, ◌-◌, ◌^◌}

-- registers 170 and 171 make a word
abbrev pub cost_register : ℕ
cost_register = 170

-- high byte first
abbrev pub word_of : ℕ → ℕ → ℕ
word_of high low = high * 256 + low

-- the ten-thousands digit: the number of decimals
abbrev pub decimals : ℕ → ℕ
decimals word = word / 10000

-- what the last digit counts in millionths, at a number of decimals
unfoldable pub power : ℕ → ℕ
power p = 10 ^ (6 - p)

-- the value of a word in millionths
unfoldable pub millionths : ℕ → ℕ
millionths word = word % 10000 * power (decimals word)
