-- Document 02, K8: a capture with one flipped bit, mended.
use Rattle.std.specs.Prelude.{ℕ, zero, suc, ◌+◌, ◌-◌, ◌*◌, Bool, not, cond, List, eqb, length}
use Rattle.answer.specs.Answer.{Outcome, refused, accepted, refuse_if, on_accepted, and_then, is_accepted, in_room}
use Rattle.crc.specs.Places.{flip}
use Rattle.link.specs.Frame.{Frame, read_frame}
use Rattle.mending.specs.declared.FrameMended.{FrameMended}

-- the bytes with one bit flipped; the place is counted as in condition 3, in bits from the length byte, and before that stand the start byte's eight
abbrev pub flipped_at : List ℕ → ℕ → List ℕ
flipped_at s p = flip s (8 + p)

-- whether the flip at a place makes a frame
abbrev pub makes_frame : List ℕ → ℕ → Bool
makes_frame s p = is_accepted (read_frame (flipped_at s p))

-- the first of n places from p on whose flip makes a frame; 5 where none of them does
unfoldable pub place_from : List ℕ → ℕ → ℕ → Outcome ℕ
place_from s p zero = refused 5
place_from s p (suc n) = cond (makes_frame s p) (accepted p) (place_from s (suc p) n)

-- the places after the length byte: its own are 0 to 7; each later byte has eight
unfoldable pub place : List ℕ → Outcome ℕ
place s = place_from s 8 (8 * (length s - 2))

-- what mending gives: the place, and the frame with that bit flipped
pub record Mended : Type 0 where
  pub place : ℕ
  pub frame : List ℕ

-- by the frame reader's answer: its 1 to 4; an already right frame is 8; where the CRC is wrong, the place whose flip makes a frame, or 5
unfoldable pub mend_by : List ℕ → Outcome Frame → Outcome Mended
mend_by s (accepted f) = refused 8
mend_by s (refused n) = refuse_if (not (eqb n 5)) n (on_accepted (λ p. record { place = p; frame = flipped_at s p }) (place s))

abbrev pub mend : List ℕ → Outcome Mended
mend s = mend_by s (read_frame s)

-- the last check: 9 where the lent output is too short for the frame
unfoldable pub mend_in_room : ℕ → List ℕ → Outcome Mended
mend_in_room room s = and_then (mend s) (λ m. on_accepted (λ bytes. record { place = m.place; frame = bytes }) (in_room room (accepted m.frame)))

-- what the call hands back in numbers: the place and the count of bytes written
abbrev pub numbers : Mended → FrameMended
numbers m = record { place = m.place; count = length m.frame }
