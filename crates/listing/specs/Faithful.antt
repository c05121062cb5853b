-- What a listing has to be, said without the rule that makes it.
use Rattle.std.specs.Prelude.{ℕ, ◌+◌, ◌<◌, ◌≡◌, List, [], ◌∷◌, length, take, drop}
use Rattle.answer.specs.Answer.{accepted}
use Rattle.link.specs.Frame.{Frame, read_frame}
use Rattle.listing.specs.Lines.{Line, noise, frame, end}

-- at none of so many bytes from an offset on starts an accepted frame, of any length
abbrev pub NoFrame : List ℕ → ℕ → ℕ → Type 0
NoFrame s offset count = (i n : ℕ) (f : Frame) → i < count → read_frame (take n (drop (offset + i) s)) ≡ accepted f → ⊥

-- so many bytes from an offset on are an accepted frame of a type
abbrev pub IsFrame : List ℕ → ℕ → ℕ → ℕ → Type 0
IsFrame s offset count kind = (f : Frame) × (read_frame (take count (drop offset s)) ≡ accepted f) × (f.kind ≡ kind)

-- joined noise is one run: no noise line follows another
abbrev pub NotNoise : List Line → Type 0
NotNoise [] = Unit {0}
NotNoise (noise offset count ∷ ls) = ⊥
NotNoise (frame offset count kind ∷ ls) = Unit {0}
NotNoise (end offset ∷ ls) = Unit {0}

-- from an offset on, each line starts where the one before it stopped, and says what stands there; the last, and no other, is the
-- end line, and it stands where the capture ends
abbrev pub Tells : List ℕ → ℕ → List Line → Type 0
Tells s at [] = ⊥
Tells s at (noise offset count ∷ ls) = (offset ≡ at) × (0 < count) × NoFrame s at count × NotNoise ls × Tells s (at + count) ls
Tells s at (frame offset count kind ∷ ls) = (offset ≡ at) × IsFrame s at count kind × Tells s (at + count) ls
Tells s at (end offset ∷ ls) = (offset ≡ at) × (at ≡ length s) × (ls ≡ [])

-- the lines tell the capture from its first byte to its end
abbrev pub Faithful : List ℕ → List Line → Type 0
Faithful s ls = Tells s 0 ls
