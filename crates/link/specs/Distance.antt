-- Condition 3: the distance between accepted frames.
use Rattle.std.specs.Prelude.{ℕ, ◌≡◌, List, [], ◌∷◌, T, length, drop}
use Rattle.std.proofs.Math.Pow.{are_bytes}
use Rattle.answer.specs.Answer.{accepted}
use Rattle.crc.specs.Bits.{bit_string}
use Rattle.crc.specs.Places.{differences, places, Apart}
use Rattle.link.specs.Frame.{Frame, read_frame}

-- the places at which two byte strings differ, counted in bits from the length byte, from 0, lowest bit of each byte first
abbrev pub differing : List ℕ → List ℕ → List ℕ
differing s t = places 0 (differences (bit_string (drop 1 s)) (bit_string (drop 1 t)))

-- two frames that meet both bounds exactly: four places, the first and last 16 apart
abbrev pub acknowledge : List ℕ
acknowledge = 0x5A ∷ 0x01 ∷ 0x05 ∷ 0xC1 ∷ 0x93 ∷ []

abbrev pub nearest : List ℕ
nearest = 0x5A ∷ 0x01 ∷ 0x85 ∷ 0xC0 ∷ 0x33 ∷ []

-- any two different byte strings of equal length that are accepted whole are apart; and the two frames above are accepted, and as near as that allows
pub record Condition3 : Type 0 where
  pub apart : (s t : List ℕ) (f g : Frame) → T (are_bytes s) → T (are_bytes t)
      → read_frame s ≡ accepted f → read_frame t ≡ accepted g → length s ≡ length t → (s ≡ t → ⊥) → Apart (differing s t)
  pub first_accepted : read_frame acknowledge ≡ accepted (record { kind = 0x05; bytes = [] })
  pub second_accepted : read_frame nearest ≡ accepted (record { kind = 0x85; bytes = [] })
  pub sharp : differing acknowledge nearest ≡ 15 ∷ 16 ∷ 29 ∷ 31 ∷ []
