-- Document 01, "Omni-Link frames": reading and writing.
use Rattle.std.specs.Prelude.{ℕ, ◌+◌, ◌-◌, ◌*◌, ◌/◌, ◌%◌, not, cond, List, [], ◌∷◌, ◌++◌, eqb, ltb, leb, length, get_or, take, drop}
use Rattle.answer.specs.Answer.{Outcome, accepted, refuse_if}
use Rattle.crc.specs.Crc.{crc}
use Rattle.link.specs.declared.frame.Header.{Header}

-- what a frame carries: its kind, which is the type byte, and its data bytes
pub record Frame : Type 0 where
  pub kind : ℕ
  pub bytes : List ℕ

-- what the CRC covers in a frame with length byte l: length, type and data, the l + 1 bytes after the start byte
abbrev pub covered : List ℕ → ℕ → List ℕ
covered s l = take (l + 1) (drop 1 s)

-- the CRC that a frame with length byte l carries, low byte first
abbrev pub sent : List ℕ → ℕ → ℕ
sent s l = get_or s (l + 2) 0 + 256 * get_or s (l + 3) 0

-- the checks on a byte string with start and length byte l: length 3; fewer than l + 4 bytes 1; more 4; CRC 5; else accepted whole
unfoldable pub read_body : List ℕ → ℕ → Outcome Frame
read_body s l =
    refuse_if (eqb l 0) 3
    (refuse_if (ltb 0x41 l) 3
    (refuse_if (ltb (length s) (l + 4)) 1
    (refuse_if (ltb (l + 4) (length s)) 4
    (refuse_if (not (eqb (sent s l) (crc (covered s l)))) 5
    (accepted (record { kind = get_or s 2 0; bytes = take (l - 1) (drop 3 s) }))))))

-- the order of checks: empty 1; start 2; one byte only 1; then those that go by the length byte
unfoldable pub read_frame : List ℕ → Outcome Frame
read_frame s =
    refuse_if (eqb (length s) 0) 1
    (refuse_if (not (eqb (get_or s 0 0) 0x5A)) 2
    (refuse_if (eqb (length s) 1) 1
    (read_body s (get_or s 1 0))))

-- the frame that starts a byte string, whatever stands behind it: its length byte says how many bytes are its own
unfoldable pub read_first : List ℕ → Outcome Frame
read_first s = read_frame (take (get_or s 1 0 + 4) s)

-- what the CRC covers, to be written: length, type and data
abbrev pub body : ℕ → List ℕ → List ℕ
body kind bytes = (length bytes + 1) ∷ kind ∷ bytes

-- the bytes of a frame: 5A, length, type, data, CRC low byte, CRC high byte
unfoldable pub frame_bytes : ℕ → List ℕ → List ℕ
frame_bytes kind bytes = 0x5A ∷ (body kind bytes ++ (crc (body kind bytes) % 256 ∷ crc (body kind bytes) / 256 ∷ []))

-- the frame writer: more than 64 data bytes is 3
unfoldable pub write_frame : ℕ → List ℕ → Outcome (List ℕ)
write_frame kind bytes = refuse_if (ltb 64 (length bytes)) 3 (accepted (frame_bytes kind bytes))

-- the bytes of a frame, in all: 5 besides its data
abbrev pub size : Frame → ℕ
size f = length f.bytes + 5

-- what the reader hands back of a frame in numbers: its type and the count of its data bytes
abbrev pub header : Frame → Header
header f = record { kind = f.kind; count = length f.bytes }

-- the part of the caller's slice that holds a frame's data bytes, so many of them
abbrev pub data_part : List ℕ → ℕ → List ℕ
data_part s count = cond (leb (3 + count) (length s)) (take count (drop 3 s)) []
