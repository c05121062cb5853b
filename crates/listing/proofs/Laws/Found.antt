-- The frames found, and the text that they stand for, kept frame by frame. Assumes nothing.
use mathlib.Core.Path.{◌≡◌, sym, ap, subst, ◌∙◌}
use mathlib.Core.List.{List, [], ◌∷◌, ◌++◌, append-nil, append_assoc}
use Prim.Native.Nat.{ℕ, ◌+◌, ◌-◌, ◌*◌, ◌<◌, ◌≤◌}
use native.Mathlib.Numerals.{add-one}
use native.Mathlib.Omega.{arith}
use lib.ListN.{length, take, set, length-set}
use lib.Seq.{length-take-le, take-suc-set}
use Rattle.listing.specs.declared.place.FrameAt.{FrameAt}
use Rattle.listing.specs.Lines.{frame}
use Rattle.listing.specs.Text.{line_text}
use Rattle.listing.specs.Parts.{behind, run_text, pair_text, frames_text, last_end, found_text, Stands, Quiet, Told, Found}
use Rattle.listing.proofs.Laws.Frames.{Inside, inside}
use Rattle.listing.proofs.Laws.FramesText.{found_more}
use Rattle.listing.proofs.Laws.Places.{quiet_none, quiet_joined, closed_at_end, closed_at_frame, noise_then, frame_then, rest_at_end}

-- the frames from an offset on: none, or one more in front
told_none : (s : List ℕ) (from : ℕ) → Quiet s from (length s) → Told s from []
unfolding found_text frames_text last_end
told_none s from q = record {
  same = noise_then s from (length s) q (closed_at_end s (length s) (length s - from) (omega arith))
      ∙ ap (λ (x : List ℕ). run_text from (length s - from) ++ x) (rest_at_end s (length s) (omega arith));
  within = q.forward;
}

told_more : (s : List ℕ) (from : ℕ) (e : FrameAt) (es : List FrameAt) → Quiet s from e.offset → Stands s e → Told s (behind e) es → Told s from (e ∷ es)
unfolding pair_text
told_more s from e es q is t =
    let at = e.offset in
    record {
      same = noise_then s from at q (closed_at_frame s at (at - from) is.held is.read)
          ∙ ap (λ (x : List ℕ). run_text from (at - from) ++ x) (frame_then s e is ∙ ap (λ (x : List ℕ). line_text (frame at e.count e.kind) ++ x) t.same)
          ∙ sym (append_assoc (run_text from (at - from)) (line_text (frame at e.count e.kind)) (found_text (behind e) es (length s)))
          ∙ sym (found_more from e es (length s));
      within = ((q.forward, is.byte), t.within);
    }

-- nothing found yet; more noise; how many at most; the end; a frame kept
pub found_none : (s : List ℕ) (kept : List FrameAt) → Found s kept 0 0
found_none s kept =
    record { counted = omega arith; to = 0; few = omega arith; quiet = quiet_none s 0 (omega arith); told = λ later t. t }

module _ {s : List ℕ} {kept : List FrameAt} {n at : ℕ} (g : Found s kept n at) where
  pub found_quiet : {to : ℕ} → Quiet s at to → Found s kept n to
  found_quiet {to} q =
      record { counted = g.counted; to = g.to; few = g.few; quiet = quiet_joined s g.to at to g.quiet q; told = g.told }

  pub found_few : 5 * length (take n kept) ≤ length s
  found_few = omega (arith, length-take-le n kept g.counted, g.few, g.quiet.forward, g.quiet.within)

  pub found_all : at ≡ length s → Told s 0 (take n kept)
  found_all e =
      subst (Told s 0) (append-nil (take n kept))
      (g.told [] (told_none s g.to (subst (Quiet s g.to) e g.quiet)))

module _ {s : List ℕ} {kept : List FrameAt} {n : ℕ} {e : FrameAt} (g : Found s kept n e.offset) (is : Stands s e) (long : length s < 5 * (length kept + 1)) where
  pub found_place : n < length kept
  found_place =
      let w : Inside s e = inside is in
      omega (arith, w.most, w.least, g.few, g.quiet.forward)

  pub found_frame : Found s (set kept n e) (n + 1) (behind e)
  found_frame =
      let w : Inside s e = inside is in
      let kept-one : take (n + 1) (set kept n e) ≡ take n kept ++ (e ∷ []) = ap (λ (k : ℕ). take k (set kept n e)) (add-one n) ∙ take-suc-set kept n e found_place in
      record {
        counted = omega (arith, found_place, length-set kept n e);
        to = behind e;
        few = omega (arith, w.least, g.few, g.quiet.forward);
        quiet = quiet_none s (behind e) w.most;
        told = λ later t. subst (Told s 0) (sym (ap (λ (x : List FrameAt). x ++ later) kept-one ∙ append_assoc (take n kept) (e ∷ []) later))
            (g.told (e ∷ later) (told_more s g.to e later g.quiet is t));
      }
