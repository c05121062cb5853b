-- Document 01, "X-10 patterns": places, each 0 or 1; bits and their complements; numbers highest bit first.
use Rattle.std.specs.Prelude.{ℕ, zero, suc, ◌+◌, ◌-◌, ◌*◌, ◌/◌, ◌%◌, ◌^◌, Bool, true, false, not, ◌&&◌, List, [], ◌∷◌, eqb, ltb}
use Rattle.answer.specs.Answer.{Outcome, refused, accepted, refuse_if, on_accepted}

-- every place is 0 or 1
abbrev pub are_places : List ℕ → Bool
are_places [] = true
are_places (p ∷ ps) = ltb p 2 && are_places ps

-- the start code
abbrev pub start_code : List ℕ
start_code = 1 ∷ 1 ∷ 1 ∷ 0 ∷ []

-- the places begin with a code
abbrev pub starts_with : List ℕ → List ℕ → Bool
starts_with [] ps = true
starts_with (c ∷ cs) [] = false
starts_with (c ∷ cs) (p ∷ ps) = eqb p c && starts_with cs ps

-- each bit followed by its complement
abbrev pub paired : List ℕ → List ℕ
paired [] = []
paired (b ∷ bs) = b ∷ (1 - b) ∷ paired bs

-- the bits of pairs of places: 5 where a second place is not the complement of the first
abbrev pub unpaired : List ℕ → Outcome (List ℕ)
unpaired [] = accepted []
unpaired (b ∷ []) = refused 5
unpaired (b ∷ c ∷ ps) = refuse_if (not (eqb (b + c) 1)) 5 (on_accepted (λ bs. b ∷ bs) (unpaired ps))

-- the bits of a number, highest first
abbrev pub bits : ℕ → ℕ → List ℕ
bits zero n = []
bits (suc w) n = n / 2 ^ w % 2 ∷ bits w n

-- the number that bits spell after what earlier bits spelled
abbrev pub number_from : ℕ → List ℕ → ℕ
number_from n [] = n
number_from n (b ∷ bs) = number_from (n * 2 + b) bs

-- the number that bits spell, highest first
abbrev pub number : List ℕ → ℕ
number bs = number_from 0 bs

-- the number that pairs of places spell
unfoldable pub spelled : List ℕ → Outcome ℕ
spelled ps = on_accepted number (unpaired ps)
