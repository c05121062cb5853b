-- Document 01, "Omnistat2 messages": address byte, length and type, data bytes, sum; and which end a message is for.
use Rattle.std.specs.Prelude.{ℕ, ◌+◌, ◌-◌, ◌*◌, ◌/◌, ◌%◌, Bool, not, ◌||◌, List, [], ◌∷◌, ◌++◌, length, get_or, take, ltb, eqb}
use Rattle.answer.specs.Answer.{Outcome, refused, accepted, refuse_if}
use Rattle.omnistat.specs.Register.{within}
use Rattle.omnistat.specs.declared.frame.End.{End}
use Rattle.omnistat.specs.declared.frame.End.TheVariants.{Thermostat, Host}

-- at the thermostat the first byte is 00 broadcast, 01 to 7F, or FA universal; at the host 81 to FF
abbrev pub directed : End → ℕ → Bool
directed Thermostat first = ltb first 0x80 || eqb first 0xFA
directed Host first = within 0x81 0xFF first

-- at the thermostat the address is the first byte; at the host it is the number of the thermostat that replies
abbrev pub address_of : End → ℕ → ℕ
address_of Thermostat first = first
address_of Host first = first - 0x80

-- the first byte of a message to that end
abbrev pub first_of : End → ℕ → ℕ
first_of Thermostat address = address
first_of Host number = number + 0x80

-- all bytes added up
unfoldable pub total : List ℕ → ℕ
total [] = 0
total (b ∷ bytes) = b + total bytes

-- the sum of a message's earlier bytes, modulo 256
abbrev pub sum_of : List ℕ → ℕ
sum_of bytes = total bytes % 256

-- a message without its sum, taken apart
pub record Frame : Type 0 where
  pub first : ℕ
  pub kind : ℕ
  pub payload : List ℕ

abbrev pub framed : ℕ → ℕ → List ℕ → Frame
framed first kind payload = record { first = first; kind = kind; payload = payload }

-- N is the high half of the second byte, the type the low half. The order of the checks: empty 1; direction 2; one byte 1; fewer than N+3
-- bytes 1; more 4; sum 5
unfoldable pub frame : End → List ℕ → Outcome Frame
frame end [] = refused 1
frame end (first ∷ []) = refuse_if (not (directed end first)) 2 (refused 1)
frame end (first ∷ second ∷ rest) =
    refuse_if (not (directed end first)) 2
    (refuse_if (ltb (length (first ∷ second ∷ rest)) (second / 16 + 3)) 1
    (refuse_if (ltb (second / 16 + 3) (length (first ∷ second ∷ rest))) 4
    (refuse_if (not (eqb (get_or rest (second / 16) 0) (sum_of (first ∷ second ∷ take (second / 16) rest)))) 5
    (accepted (framed first (second % 16) (take (second / 16) rest))))))

-- a message's bytes: the sum follows all earlier bytes
abbrev pub summed : List ℕ → List ℕ
summed bytes = bytes ++ (sum_of bytes ∷ [])

unfoldable pub bytes_of : Frame → List ℕ
bytes_of f = summed (f.first ∷ (length f.payload * 16 + f.kind) ∷ f.payload)
