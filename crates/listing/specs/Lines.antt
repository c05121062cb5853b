-- Document 01, "The capture listing": the lines of a capture.
use Rattle.std.specs.Prelude.{ℕ, zero, suc, ◌+◌, ◌-◌, List, [], ◌∷◌}
use Rattle.answer.specs.Answer.{Outcome, refused, accepted}
use Rattle.link.specs.Frame.{Frame, read_first, size}

-- a line: a run of noise, with offset and byte count; a frame, with offset, byte count and type; the end, with its offset
pub data Line : Type 0 where
  noise : ℕ → ℕ → Line
  frame : ℕ → ℕ → ℕ → Line
  end : ℕ → Line

-- what follows from a refusal, or from a frame
abbrev pub judged : {A : Type 0} → Outcome Frame → (ℕ → A) → (Frame → A) → A
judged (refused n) noisy framed = noisy n
judged (accepted f) noisy framed = framed f

-- joined noise is one run: a line for the noise bytes just before an offset, if there are any, and then the lines after it
unfoldable pub after_noise : ℕ → ℕ → List Line → List Line
after_noise offset zero later = later
after_noise offset (suc n) later = noise (offset - suc n) (suc n) ∷ later

-- from the left: where a whole accepted frame starts, it is taken; else that byte is noise. The numbers are the offset of the first
-- byte, the count of noise bytes just before it, and how many bytes of a frame already taken come first
unfoldable pub lines_from : ℕ → ℕ → ℕ → List ℕ → List Line
lines_from offset run taken [] = after_noise offset run (end offset ∷ [])
lines_from offset run (suc taken) (b ∷ s) = lines_from (offset + 1) run taken s
lines_from offset run zero (b ∷ s) =
    judged (read_first (b ∷ s))
    (λ n. lines_from (offset + 1) (run + 1) 0 s)
    (λ f. after_noise offset run (frame offset (size f) f.kind ∷ lines_from (offset + 1) 0 (size f - 1) s))

-- the lines of a capture
abbrev pub lines : List ℕ → List Line
lines s = lines_from 0 0 0 s
