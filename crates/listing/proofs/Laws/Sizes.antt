-- How long the listing's text is. Assumes nothing.
use mathlib.Core.Path.{◌≡◌, refl}
use mathlib.Core.List.{List, [], ◌∷◌}
use Prim.Native.Nat.{ℕ, zero, suc, ◌+◌, ◌-◌, ◌*◌, ◌<◌, ◌≤◌}
use native.Mathlib.Omega.{arith}
use lib.ListN.{length, get_or, length-append}
use Rattle.answer.specs.Answer.{Outcome, refused, accepted}
use Rattle.link.specs.Frame.{Frame, read_first, size}
use Rattle.link.proofs.Laws.First.{Starting, starting}
use Rattle.listing.specs.Lines.{Line, noise, frame, end, lines_from, after_noise, judged}
use Rattle.listing.specs.Text.{line_text, text}
use Rattle.listing.specs.Parts.{run_text, rest}
use Rattle.listing.proofs.Laws.Numbers.{at_most_four, noise-length, frame-length, end-length}

-- a run's line is at most 16 bytes long
pub run_bound : (offset count : ℕ) → offset < 10000 → count < 10000 → length (run_text offset count) ≤ 16
unfolding run_text
run_bound offset zero h g = omega arith
run_bound offset (suc n) h g =
    omega (arith, noise-length offset (suc n), at_most_four offset h, at_most_four (suc n) g)

pub after_bound : (offset run : ℕ) (ls : List Line) → offset < 10000 → run < 10000
    → length (text (after_noise offset run ls)) ≤ length (text ls) + 16
unfolding after_noise text
after_bound offset zero ls h g = omega arith
after_bound offset (suc n) ls h g =
    omega (
      arith,
      length-append (line_text (noise (offset - suc n) (suc n))) (text ls),
      noise-length (offset - suc n) (suc n),
      at_most_four (offset - suc n) (omega arith),
      at_most_four (suc n) g,
    )

-- a frame's line is at most 21 bytes long
pub frame_line : (offset count kind : ℕ) → offset < 10000 → count < 10000 → kind < 10000 → length (line_text (frame offset count kind)) ≤ 21
frame_line offset count kind h g k =
    omega (arith, frame-length offset count kind, at_most_four offset h, at_most_four count g, at_most_four kind k)

pub frame_bound : (offset count kind : ℕ) (ls : List Line) → offset < 10000 → count < 10000 → kind < 10000
    → length (text (frame offset count kind ∷ ls)) ≤ length (text ls) + 21
unfolding text
frame_bound offset count kind ls h g k =
    omega (arith, length-append (line_text (frame offset count kind)) (text ls), frame_line offset count kind h g k)

end_bound : (offset : ℕ) → offset < 10000 → length (text (end offset ∷ [])) ≤ 9
unfolding text
end_bound offset h =
    omega (arith, length-append (line_text (end offset)) [], end-length offset, at_most_four offset h)

-- a run's line is counted to the frame or the end behind it: 16 and 21 bytes for a frame of at least 5 bytes, 16 and 9 for the end
pub bound_from : (offset run taken : ℕ) (s : List ℕ) → ((i : ℕ) → get_or s i 0 < 10000) → run ≤ offset → offset + length s < 10000
    → taken ≤ length s → length (text (lines_from offset run taken s)) ≤ 8 * (length s - taken) + 25
unfolding lines_from
bound_from offset run taken [] small r o t =
    omega (arith, after_bound offset run (end offset ∷ []) (omega arith) (omega arith), end_bound offset (omega arith))
bound_from offset run (suc taken) (b ∷ s) small r o t =
    omega (arith, bound_from (offset + 1) run taken s (λ i. small (suc i)) (omega arith) (omega arith) (omega arith))
bound_from offset run zero (b ∷ s) small r o t =
    go (read_first (b ∷ s)) refl
    (bound_from (offset + 1) (run + 1) 0 s (λ i. small (suc i)) (omega arith) (omega arith) (omega arith))
    (λ k h. bound_from (offset + 1) 0 k s (λ i. small (suc i)) (omega arith) (omega arith) h)
  where
    go : (o : Outcome Frame) → read_first (b ∷ s) ≡ o
        → length (text (lines_from (offset + 1) (run + 1) 0 s)) ≤ 8 * (length s - 0) + 25
        → ((k : ℕ) → k ≤ length s → length (text (lines_from (offset + 1) 0 k s)) ≤ 8 * (length s - k) + 25)
        → length (text (judged o
        (λ n. lines_from (offset + 1) (run + 1) 0 s)
        (λ f. after_noise offset run (frame offset (size f) f.kind ∷ lines_from (offset + 1) 0 (size f - 1) s))))
        ≤ 8 * (suc (length s) - 0) + 25
    go (refused n) e as-noise as-frame = omega arith
    go (accepted f) e as-noise as-frame =
        let w : Starting (b ∷ s) f = starting (b ∷ s) f e in
        let ls = lines_from (offset + 1) 0 (size f - 1) s in
        let kind : f.kind < 10000 = w.kind 10000 small in
        let count : size f < 10000 = omega (arith, w.inside) in
        omega (
          arith,
          w.inside,
          w.least,
          after_bound offset run (frame offset (size f) f.kind ∷ ls) (omega arith) (omega arith),
          frame_bound offset (size f) f.kind ls (omega arith) count kind,
          as-frame (size f - 1) (omega (arith, w.inside)),
        )

-- eight bytes of text for each byte of the capture, and 25 more, are always enough
pub enough_room : (s : List ℕ) → ((i : ℕ) → get_or s i 0 < 10000) → length s ≤ 4096 → length (rest s 0) ≤ 8 * length s + 25
unfolding rest
enough_room s small h = omega (arith, bound_from 0 0 0 s small (omega arith) (omega arith) (omega arith))
