-- Document 02, K1: text on the thermostat's screen (source document 004). A set or data message that starts at a text register carries
-- characters up to 03, then the sum. Its length half-byte is kept, and means nothing.
use Rattle.std.specs.Prelude.{ℕ, suc, ◌+◌, ◌*◌, ◌/◌, ◌%◌, Bool, true, false, not, cond, ◌&&◌, List, [], ◌∷◌, ◌++◌, length, get_or, take, leb, ltb, eqb}
use Rattle.answer.specs.Answer.{Outcome, refused, accepted, refuse_if, on_accepted}
use Rattle.omnistat.specs.Register.{within, is_text}
use Rattle.omnistat.specs.Frame.{directed, address_of, first_of, sum_of, summed}
use Rattle.omnistat.specs.declared.frame.End.{End}
use Rattle.omnistat.specs.declared.frame.End.TheVariants.{Thermostat, Host}

-- a text: the half-byte as it was sent, the register, the characters
pub record Text : Type 0 where
  pub half : ℕ
  pub start : ℕ
  pub characters : List ℕ

-- characters are 20 to 7E, at most 60; 03 ends them
abbrev pub is_character : ℕ → Bool
is_character b = within 0x20 0x7E b

unfoldable pub are_characters : List ℕ → Bool
are_characters [] = true
are_characters (b ∷ bytes) = is_character b && are_characters bytes

abbrev pub most_characters : ℕ
most_characters = 60

abbrev pub end_of_text : ℕ
end_of_text = 0x03

-- how many bytes come before the first 03; all, where there is none
unfoldable pub until_end : List ℕ → ℕ
until_end [] = 0
until_end (b ∷ bytes) = cond (eqb b end_of_text) 0 (suc (until_end bytes))

-- the type that carries text: set at the thermostat, data at the host
abbrev pub text_type : End → ℕ
text_type Thermostat = 1
text_type Host = 2

-- a message of that type whose third byte is a text register, whatever its half-byte is
unfoldable pub carries_text : End → List ℕ → Bool
carries_text end [] = false
carries_text end (first ∷ []) = false
carries_text end (first ∷ second ∷ []) = false
carries_text end (first ∷ second ∷ start ∷ rest) = eqb (second % 16) (text_type end) && is_text start

-- what follows the start register, where n of its first 61 bytes come before 03: 8 where all 61 do; 1 where there are fewer and no 03, or no
-- sum behind it; more bytes 4; sum 5; a wrong character 8
abbrev pub ended : ℕ → ℕ → ℕ → List ℕ → ℕ → Outcome Text
ended first second start rest n =
    refuse_if (ltb most_characters n) 8
    (refuse_if (ltb (length rest) (n + 2)) 1
    (refuse_if (ltb (n + 2) (length rest)) 4
    (refuse_if (not (eqb (get_or rest (n + 1) 0) (sum_of (first ∷ second ∷ start ∷ take (n + 1) rest)))) 5
    (refuse_if (not (are_characters (take n rest))) 8
    (accepted (record { half = second / 16; start = start; characters = take n rest }))))))

-- a text with its address. The order of the checks: empty 1; direction 2; fewer than three bytes 1; then as above
unfoldable pub read_text : End → List ℕ → Outcome (ℕ × Text)
read_text end [] = refused 1
read_text end (first ∷ []) = refuse_if (not (directed end first)) 2 (refused 1)
read_text end (first ∷ second ∷ []) = refuse_if (not (directed end first)) 2 (refused 1)
read_text end (first ∷ second ∷ start ∷ rest) =
    refuse_if (not (directed end first)) 2
    (on_accepted (λ t. (address_of end first, t)) (ended first second start rest (until_end (take (suc most_characters) rest))))

-- half-byte, start register, count and characters that may be written
abbrev pub text_allowed : Text → Bool
text_allowed t = leb t.half 15 && (is_text t.start && (leb (length t.characters) most_characters && are_characters t.characters))

-- a text's bytes
abbrev pub text_bytes : End → ℕ → Text → List ℕ
text_bytes end first t = summed (first ∷ (t.half * 16 + text_type end) ∷ t.start ∷ (t.characters ++ (end_of_text ∷ [])))

-- a text to write: 8 for an address, a half-byte, a start register, a count or a character outside its list
unfoldable pub write_text : End → ℕ → Text → Outcome (List ℕ)
write_text end address t =
    refuse_if (not (directed end (first_of end address) && text_allowed t)) 8
    (accepted (text_bytes end (first_of end address) t))
