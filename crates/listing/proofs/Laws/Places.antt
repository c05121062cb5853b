-- The listing place by place: a noise byte, a run of noise, a frame, the end. Assumes nothing.
use mathlib.Core.Path.{◌≡◌, refl, sym, ap, ap₂, subst⁻¹, ◌∙◌}
use mathlib.Core.Bool.{Bool, true, false}
use mathlib.Core.List.{List, [], ◌∷◌, ◌++◌, append-nil, append_assoc}
use Prim.Native.Nat.{ℕ, zero, suc, ◌+◌, ◌-◌, ◌<◌, ◌≤◌}
use native.Mathlib.Nat.{add-zero}
use native.Mathlib.Numerals.{add-one}
use native.Mathlib.Omega.{arith}
use lib.ListN.{length, get_or, drop, drop_of_length-le}
use lib.Seq.{drop-cons, drop-drop}
use lib.Dec.{ltb}
use borrow.Author.Tests.{ltb-true, ltb-false}
use Rattle.answer.specs.Answer.{Outcome, accepted}
use Rattle.link.specs.Frame.{Frame, read_first, size}
use Rattle.link.proofs.Laws.First.{Starting, starting}
use Rattle.listing.specs.declared.place.FrameAt.{FrameAt}
use Rattle.listing.specs.Lines.{Line, frame, end, lines_from, after_noise, judged}
use Rattle.listing.specs.Text.{line_text, text}
use Rattle.listing.specs.Parts.{behind, run_text, rest, Stands, Quiet}
use Rattle.listing.proofs.Laws.Frames.{refused_by}

-- the bytes of a frame already taken are passed over
skip : (k offset run : ℕ) (s : List ℕ) → k ≤ length s → lines_from offset run k s ≡ lines_from (offset + k) run 0 (drop k s)
unfolding lines_from
skip zero offset run s h = ap (λ (n : ℕ). lines_from n run 0 s) (sym (add-zero offset))
skip (suc k) offset run [] h = let z : ⊥ = omega arith in absurd z
skip (suc k) offset run (b ∷ s) h =
    let e : offset + 1 + k ≡ offset + suc k = omega arith in
    skip k (offset + 1) run s (omega arith) ∙ ap (λ (n : ℕ). lines_from n run 0 (drop k s)) e

pub no_frame : (b : ℕ) (s : List ℕ) (offset run : ℕ) → ((f : Frame) → read_first (b ∷ s) ≡ accepted f → ⊥)
    → lines_from offset run 0 (b ∷ s) ≡ lines_from (offset + 1) (run + 1) 0 s
unfolding lines_from
no_frame b s offset run none =
    ap (λ (o : Outcome Frame). judged o (λ n. lines_from (offset + 1) (run + 1) 0 s)
    (λ f. after_noise offset run (frame offset (size f) f.kind ∷ lines_from (offset + 1) 0 (size f - 1) s)))
    (refused_by (read_first (b ∷ s)) none).1

pub a_frame : (s : List ℕ) (offset run : ℕ) (f : Frame) → read_first s ≡ accepted f
    → lines_from offset run 0 s ≡ after_noise offset run (frame offset (size f) f.kind ∷ lines_from (offset + size f) 0 0 (drop (size f) s))
unfolding lines_from
a_frame [] offset run f e = let z : ⊥ = omega (arith, (starting [] f e).inside) in absurd z
a_frame (b ∷ s) offset run f e =
    let w : Starting (b ∷ s) f = starting (b ∷ s) f e in
    let one : offset + 1 + (size f - 1) ≡ offset + size f = omega arith in
    let more : suc (size f - 1) ≡ size f = omega arith in
    ap (λ (o : Outcome Frame). judged o (λ n. lines_from (offset + 1) (run + 1) 0 s)
    (λ f. after_noise offset run (frame offset (size f) f.kind ∷ lines_from (offset + 1) 0 (size f - 1) s))) e
    ∙ ap (λ (ls : List Line). after_noise offset run (frame offset (size f) f.kind ∷ ls))
    (skip (size f - 1) (offset + 1) 0 s (omega (arith, w.inside))
    ∙ ap₂ (λ (n k : ℕ). lines_from n 0 0 (drop k (b ∷ s))) one more)

-- a byte of noise more
pub noise-byte : (s : List ℕ) (offset run : ℕ) → offset < length s → ((f : Frame) → read_first (drop offset s) ≡ accepted f → ⊥)
    → lines_from offset run 0 (drop offset s) ≡ lines_from (offset + 1) (run + 1) 0 (drop (offset + 1) s)
noise-byte s offset run h none =
    let cons : drop offset s ≡ get_or s offset 0 ∷ drop (suc offset) s = drop-cons s offset 0 h in
    ap (lines_from offset run 0) cons
    ∙ no_frame (get_or s offset 0) (drop (suc offset) s) offset run (λ f e. none f (ap read_first cons ∙ e))
    ∙ ap (λ (n : ℕ). lines_from (offset + 1) (run + 1) 0 (drop n s)) (sym (add-one offset))

-- no noise yet, a byte of noise more, and one run behind another
pub quiet_none : (s : List ℕ) (from : ℕ) → from ≤ length s → Quiet s from from
quiet_none s from h = record { forward = omega arith; within = h; none = λ i f from_on below e. omega arith }

pub quiet_more : (s : List ℕ) (from at : ℕ) → Quiet s from at → at < length s → ((f : Frame) → read_first (drop at s) ≡ accepted f → ⊥)
    → Quiet s from (at + 1)
quiet_more s from at q h none =
    record { forward = omega (arith, q.forward); within = omega arith; none = λ i f from_on below. go i f from_on below (ltb i at) refl }
  where
    go : (i : ℕ) (f : Frame) → from ≤ i → i < at + 1 → (t : Bool) → ltb i at ≡ t → read_first (drop i s) ≡ accepted f → ⊥
    go i f from_on below true e is = q.none i f from_on (ltb-true i at e) is
    go i f from_on below false e is =
        let last : at ≡ i = omega (arith, ltb-false i at e) in
        none f (ap (λ (n : ℕ). read_first (drop n s)) last ∙ is)

pub quiet_joined : (s : List ℕ) (from at to : ℕ) → Quiet s from at → Quiet s at to → Quiet s from to
quiet_joined s from at to q r =
    record { forward = omega (arith, q.forward, r.forward); within = r.within; none = λ i f from_on below. go i f from_on below (ltb i at) refl }
  where
    go : (i : ℕ) (f : Frame) → from ≤ i → i < to → (t : Bool) → ltb i at ≡ t → read_first (drop i s) ≡ accepted f → ⊥
    go i f from_on below true e = q.none i f from_on (ltb-true i at e)
    go i f from_on below false e = r.none i f (ltb-false i at e) below

-- a run of noise
pub quiet_lines : (s : List ℕ) (from k : ℕ) → Quiet s from (from + k)
    → lines_from from 0 0 (drop from s) ≡ lines_from (from + k) k 0 (drop (from + k) s)
quiet_lines s from zero q = ap (λ (n : ℕ). lines_from n 0 0 (drop n s)) (sym (add-zero from))
quiet_lines s from (suc k) q =
    let shorter : Quiet s from (from + k) = record { forward = omega arith; within = omega (arith, q.within); none = λ i f from_on below. q.none i f from_on (omega arith) } in
    let offset : from + k + 1 ≡ from + suc k = omega arith in
    quiet_lines s from k shorter
    ∙ noise-byte s (from + k) k (omega (arith, q.within)) (λ f. q.none (from + k) f (omega arith) (omega arith))
    ∙ ap₂ (λ (n m : ℕ). lines_from n m 0 (drop n s)) offset (add-one k)

-- behind noise stands a frame or the end: the run's line is closed there
module _ (s : List ℕ) (to run : ℕ) where
  pub closed_at_end : length s ≤ to → lines_from to run 0 (drop to s) ≡ after_noise to run (lines_from to 0 0 (drop to s))
  unfolding lines_from after_noise
  closed_at_end h =
      let none : drop to s ≡ [] = drop_of_length-le s {i = to} h in
      ap (lines_from to run 0) none ∙ ap (λ (x : List ℕ). after_noise to run (lines_from to 0 0 x)) (sym none)

  pub closed_at_frame : (f : Frame) → read_first (drop to s) ≡ accepted f
      → lines_from to run 0 (drop to s) ≡ after_noise to run (lines_from to 0 0 (drop to s))
  unfolding after_noise
  closed_at_frame f e = a_frame (drop to s) to run f e ∙ ap (after_noise to run) (sym (a_frame (drop to s) to 0 f e))

-- the text of lines, and of others behind them
pub text_joined : (ls ms : List Line) → text (ls ++ ms) ≡ text ls ++ text ms
unfolding text
text_joined [] ms = refl
text_joined (l ∷ ls) ms = ap (λ (x : List ℕ). line_text l ++ x) (text_joined ls ms) ∙ sym (append_assoc (line_text l) (text ls) (text ms))

pub text_after : (offset run : ℕ) (ls : List Line) → text (after_noise offset run ls) ≡ run_text (offset - run) run ++ text ls
unfolding after_noise run_text text
text_after offset zero ls = refl
text_after offset (suc run) ls = refl

-- the text of noise up to where its run is closed
pub noise_then : (s : List ℕ) (from to : ℕ) → Quiet s from to
    → lines_from to (to - from) 0 (drop to s) ≡ after_noise to (to - from) (lines_from to 0 0 (drop to s))
    → rest s from ≡ run_text from (to - from) ++ rest s to
unfolding rest
noise_then s from to q closed =
    let whole : from + (to - from) ≡ to = omega (arith, q.forward) in
    let back : to - (to - from) ≡ from = omega (arith, q.forward) in
    ap text (quiet_lines s from (to - from) (subst⁻¹ (Quiet s from) whole q)
    ∙ ap (λ (n : ℕ). lines_from n (to - from) 0 (drop n s)) whole
    ∙ closed)
    ∙ text_after to (to - from) _
    ∙ ap (λ (n : ℕ). run_text n (to - from) ++ text (lines_from to 0 0 (drop to s))) back

-- at the end there is only its line
pub rest_at_end : (s : List ℕ) (at : ℕ) → length s ≤ at → rest s at ≡ line_text (end at)
unfolding rest lines_from after_noise text
rest_at_end s at h =
    ap (λ (x : List ℕ). text (lines_from at 0 0 x)) (drop_of_length-le s {i = at} h) ∙ append-nil (line_text (end at))

-- a frame, and what follows
pub frame_then : (s : List ℕ) (e : FrameAt) → Stands s e
    → rest s e.offset ≡ line_text (frame e.offset e.count e.kind) ++ rest s (behind e)
unfolding rest after_noise text
frame_then s e t =
    let at = e.offset in
    let f = t.held in
    ap text (a_frame (drop at s) at 0 f t.read
    ∙ ap (λ (x : List ℕ). frame at (size f) f.kind ∷ lines_from (at + size f) 0 0 x) (drop-drop (size f) at s))
    ∙ ap₂ (λ (n k : ℕ). line_text (frame at n k) ++ text (lines_from (at + n) 0 0 (drop (at + n) s))) (sym t.count) (sym t.kind)
