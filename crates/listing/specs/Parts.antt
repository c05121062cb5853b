-- What the functions behind the listing promise one another.
use Rattle.std.specs.Prelude.{ℕ, zero, suc, ◌+◌, ◌-◌, ◌*◌, ◌<◌, ◌≤◌, ◌≡◌, List, [], ◌∷◌, ◌++◌, length, take, drop, Option, Some, None}
use Rattle.answer.specs.Answer.{Outcome, refused, accepted}
use Rattle.link.specs.Frame.{Frame, read_first, size}
use Rattle.listing.specs.declared.place.FrameAt.{FrameAt}
use Rattle.listing.specs.Lines.{Line, noise, frame, end, lines_from, after_noise}
use Rattle.listing.specs.Text.{line_text, text}
use Rattle.listing.specs.State.{as_state, state_bytes}
use Rattle.listing.specs.Pieces.{Progress, Call, judged_from, after}

-- what stands at an offset: a frame, with its offset, byte count and type; or noise
unfoldable pub judgement : ℕ → Outcome Frame → Option FrameAt
judgement at (refused n) = None
judgement at (accepted f) = Some (record { offset = at; count = size f; kind = f.kind })

-- the offset behind a frame
abbrev pub behind : FrameAt → ℕ
behind e = e.offset + e.count

-- the same frame, where the bytes judged start at an offset of the capture
abbrev pub shifted : ℕ → FrameAt → FrameAt
shifted base e = record { offset = base + e.offset; count = e.count; kind = e.kind }

-- a frame of the capture, whose type is a byte
pub record Stands (s : List ℕ) (e : FrameAt) : Type 0 where
  pub held : Frame
  pub read : read_first (drop e.offset s) ≡ accepted held
  pub count : e.count ≡ size held
  pub kind : e.kind ≡ held.kind
  pub byte : e.kind < 256

-- from one offset up to another no frame starts
pub record Quiet (s : List ℕ) (from to : ℕ) : Type 0 where
  pub forward : from ≤ to
  pub within : to ≤ length s
  pub none : (i : ℕ) (f : Frame) → from ≤ i → i < to → read_first (drop i s) ≡ accepted f → ⊥

-- the first frame from an offset on; none where only noise is left
abbrev pub Next : List ℕ → ℕ → Option FrameAt → Type 0
Next s from None = Quiet s from (length s)
Next s from (Some e) = Quiet s from e.offset × Stands s e

-- the text of a run of noise bytes from an offset on: none where there are none
unfoldable pub run_text : ℕ → ℕ → List ℕ
run_text offset zero = []
run_text offset (suc n) = line_text (noise offset (suc n))

-- a frame's line
abbrev pub line_of : FrameAt → Line
line_of e = frame e.offset e.count e.kind

-- the text of a frame's line, with the noise from an offset up to it
unfoldable pub pair_text : ℕ → FrameAt → List ℕ
pair_text from e = run_text from (e.offset - from) ++ line_text (line_of e)

-- the text of the frames es from an offset on, and of the noise before each
unfoldable pub frames_text : ℕ → List FrameAt → List ℕ
frames_text from [] = []
frames_text from (e ∷ es) = pair_text from e ++ frames_text (behind e) es

-- the offset behind the last of the frames es; where there are none, the one from which on they were looked for
unfoldable pub last_end : ℕ → List FrameAt → ℕ
last_end from [] = from
last_end from (e ∷ es) = last_end (behind e) es

-- the text of the frames es from an offset on, the noise between and behind them, and the end
unfoldable pub found_text : ℕ → List FrameAt → ℕ → List ℕ
found_text from es len = frames_text from es ++ (run_text (last_end from es) (len - last_end from es) ++ line_text (end len))

-- the frames es lie one behind the other, from an offset on, in a capture of so many bytes; the type of each is a byte
abbrev pub Within : ℕ → List FrameAt → ℕ → Type 0
Within from [] len = from ≤ len
Within from (e ∷ es) len = ((from ≤ e.offset) × (e.kind < 256)) × Within (behind e) es len

-- the text of the listing from an offset on, where no noise byte stands just before
unfoldable pub rest : List ℕ → ℕ → List ℕ
rest s offset = text (lines_from offset 0 0 (drop offset s))

-- the frames es are those of the capture from an offset on
pub record Told (s : List ℕ) (from : ℕ) (es : List FrameAt) : Type 0 where
  pub same : rest s from ≡ found_text from es (length s)
  pub within : Within from es (length s)

-- the first n frames kept are those of the capture up to an offset; to is the end of the last
pub record Found (s : List ℕ) (kept : List FrameAt) (n at : ℕ) : Type 0 where
  pub counted : n ≤ length kept
  pub to : ℕ
  pub few : 5 * n ≤ to
  pub quiet : Quiet s to at
  pub told : (later : List FrameAt) → Told s to later → Told s 0 (take n kept ++ later)

-- the output with the bytes xs from a place on
unfoldable pub placed : ℕ → List ℕ → List ℕ → List ℕ
placed at xs old = take at old ++ xs ++ drop (at + length xs) old

-- the bytes xs fit from a place on, and were put there; next is the place behind them
pub record Put (at : ℕ) (xs before after : List ℕ) (next : ℕ) : Type 0 where
  pub fits : at + length xs ≤ length before
  pub moved : next ≡ at + length xs
  pub put : after ≡ placed at xs before

-- Document 02, K3: the lines of the frames es from an offset on, and of the noise before each
unfoldable pub lines_of : ℕ → List FrameAt → List Line
lines_of from [] = []
lines_of from (e ∷ es) =
    after_noise e.offset (e.offset - from) (line_of e ∷ lines_of (behind e) es)

-- judging from an offset on, where the noise without a line starts at another
abbrev pub judged_at : ℕ → ℕ → List ℕ → Progress
judged_at from offset s = judged_from offset (offset - from) 0 s

-- of the bytes s, whose first has the offset base, those before a place are judged, whatever follows: the frames es among them
pub record Settles (s : List ℕ) (base from : ℕ) (es : List FrameAt) (at : ℕ) : Type 0 where
  pub within : at ≤ length s
  pub few : 5 * length es ≤ at
  pub inside : Within from es (base + at)
  pub same : (t : List ℕ) → judged_at from base (s ++ t) ≡ after (lines_of from es) (judged_at (last_end from es) (base + at) (drop at s ++ t))

-- the bytes s are the last ones, and those before a place are judged: the frames es among them
pub record Ends (s : List ℕ) (base from : ℕ) (es : List FrameAt) (at : ℕ) : Type 0 where
  pub within : at ≤ length s
  pub few : 5 * length es ≤ at
  pub inside : Within from es (base + at)
  pub same : lines_from base (base - from) 0 s ≡ lines_of from es ++ lines_from (base + at) (base + at - last_end from es) 0 (drop at s)

-- what a call prints and leaves: the frames es, and bytes that stay unread
abbrev pub closed : ℕ → ℕ → List FrameAt → List ℕ → Call
closed from came es unread =
    record { text = frames_text from es; state = state_bytes (as_state came (came - length unread - last_end from es) unread) }
