-- Document 02, K1: the text store of 610 bytes. It holds ten texts, from register 172 up, each a count byte and then 60 bytes.
use Rattle.std.specs.Prelude.{ℕ, ◌+◌, ◌-◌, ◌*◌, Bool, true, ◌&&◌, List, [], ◌∷◌, ◌++◌, length, get_or, take, drop, leb}
use Rattle.omnistat.specs.Register.{first_text}
use Rattle.omnistat.specs.Text.{are_characters, most_characters}
use Rattle.thermostat.specs.Map.{run}

-- the place of a register's count byte; its characters follow it
abbrev pub text_place : ℕ → ℕ
text_place r = (r - first_text) * 61

-- the count and the characters of a register's text
unfoldable pub text_count : List ℕ → ℕ → ℕ
text_count texts r = get_or texts (text_place r) 0

unfoldable pub held_text : List ℕ → ℕ → List ℕ
held_text texts r = take (text_count texts r) (drop (text_place r + 1) texts)

-- the store with a text in register r: its count byte and its characters; every other byte as it was
unfoldable pub text_stored : List ℕ → ℕ → List ℕ → List ℕ
text_stored texts r characters =
    take (text_place r) texts ++ (length characters ∷ (characters ++ drop (text_place r + 1 + length characters) texts))

-- a count of at most 60, and characters within it. The bytes past the count are not looked at
abbrev pub holds_text : List ℕ → ℕ → Bool
holds_text texts r = leb (text_count texts r) most_characters && are_characters (held_text texts r)

unfoldable pub all_hold_text : List ℕ → List ℕ → Bool
all_hold_text texts [] = true
all_hold_text texts (r ∷ rs) = holds_text texts r && all_hold_text texts rs

-- a store that a step takes holds ten such texts
abbrev pub store_allowed : List ℕ → Bool
store_allowed texts = all_hold_text texts (run first_text 10)
