-- Judging the places of some bytes: a noise byte, a frame, a place not settled; and what follows them. Assumes nothing.
use mathlib.Core.Path.{◌≡◌, refl, sym, ap, ap₂, subst⁻¹, ◌∙◌}
use mathlib.Core.Bool.{Bool, true, false, cond}
use mathlib.Core.List.{List, [], ◌∷◌, ◌++◌}
use Prim.Native.Nat.{ℕ, zero, suc, ◌+◌, ◌-◌, ◌≤◌}
use native.Mathlib.Nat.{add-zero}
use native.Mathlib.Omega.{arith}
use lib.ListN.{length, drop, length-drop}
use lib.Seq.{drop-append-le}
use Rattle.answer.specs.Answer.{Outcome, refused, accepted}
use Rattle.link.specs.Frame.{Frame, read_first, size}
use Rattle.link.proofs.Laws.First.{Starting, starting}
use Rattle.listing.specs.Lines.{Line, frame, lines_from, after_noise, judged}
use Rattle.listing.specs.State.{settled}
use Rattle.listing.specs.Pieces.{Progress, after, judged_from}
use Rattle.listing.proofs.Laws.Frames.{refused_by}
use Rattle.listing.proofs.Laws.Places.{no_frame, a_frame}
use Rattle.listing.proofs.Laws.Settled.{none_unsettled, frame_settles, frame_stays, stays_frame}

-- nothing, or at least a frame of 5 bytes
abbrev pub FrameOrNone : ℕ → Type 0
FrameOrNone n = (n ≡ 0 → ⊥) → 5 ≤ n

-- what a place comes to by its judgement
abbrev noisy : ℕ → ℕ → List ℕ → ℕ → Progress
noisy offset run s n = judged_from (offset + 1) (run + 1) 0 s

abbrev framed : ℕ → ℕ → List ℕ → Frame → Progress
framed offset run s f = after (after_noise offset run (frame offset (size f) f.kind ∷ [])) (judged_from (offset + 1) 0 (size f - 1) s)

abbrev pub left_open : ℕ → List ℕ → Progress
left_open run s = record { lines = []; run = run; unread = s }

module _ (b : ℕ) (s : List ℕ) (offset run : ℕ) where
  abbrev by : Bool → Outcome Frame → Progress
  by t o = cond t (judged o (noisy offset run s) (framed offset run s)) (left_open run (b ∷ s))

  -- the same, from what is known of the place
  here : (t : Bool) (o : Outcome Frame) → settled (b ∷ s) ≡ t → read_first (b ∷ s) ≡ o → judged_from offset run 0 (b ∷ s) ≡ by t o
  unfolding judged_from
  here t o e d = ap₂ by e d

-- the bytes of a frame already taken are passed over
skip : (k offset run : ℕ) (s : List ℕ) → k ≤ length s → judged_from offset run k s ≡ judged_from (offset + k) run 0 (drop k s)
unfolding judged_from
skip zero offset run s h = ap (λ (n : ℕ). judged_from n run 0 s) (sym (add-zero offset))
skip (suc k) offset run [] h = let z : ⊥ = omega arith in absurd z
skip (suc k) offset run (b ∷ s) h =
    let e : offset + 1 + k ≡ offset + suc k = omega arith in
    skip k (offset + 1) run s (omega arith) ∙ ap (λ (n : ℕ). judged_from n run 0 (drop k s)) e

-- a place that is not settled is left unread; so is the end
pub at_open : (s : List ℕ) (offset run : ℕ) → settled s ≡ false → judged_from offset run 0 s ≡ left_open run s
unfolding judged_from
at_open [] offset run e = refl
at_open (b ∷ s) offset run e = here b s offset run false (read_first (b ∷ s)) e refl

pub at_noise : (b : ℕ) (s : List ℕ) (offset run : ℕ) → settled (b ∷ s) ≡ true → ((f : Frame) → read_first (b ∷ s) ≡ accepted f → ⊥)
    → judged_from offset run 0 (b ∷ s) ≡ judged_from (offset + 1) (run + 1) 0 s
at_noise b s offset run e none =
    let o = refused_by (read_first (b ∷ s)) none in
    here b s offset run true (refused o.0) e o.1

pub at_frame : (s : List ℕ) (offset run : ℕ) (f : Frame) → read_first s ≡ accepted f
    → judged_from offset run 0 s ≡ after (after_noise offset run (frame offset (size f) f.kind ∷ [])) (judged_from (offset + size f) 0 0 (drop (size f) s))
at_frame [] offset run f e = let z : ⊥ = omega (arith, (starting [] f e).inside, (starting [] f e).least) in absurd z
at_frame (b ∷ s) offset run f e =
    let w : Starting (b ∷ s) f = starting (b ∷ s) f e in
    let one : offset + 1 + (size f - 1) ≡ offset + size f = omega arith in
    let more : suc (size f - 1) ≡ size f = omega arith in
    here b s offset run true (accepted f) (frame_settles (b ∷ s) f e) e
    ∙ ap (after (after_noise offset run (frame offset (size f) f.kind ∷ [])))
    (skip (size f - 1) (offset + 1) 0 s (omega (arith, w.inside))
    ∙ ap₂ (λ (n k : ℕ). judged_from n 0 0 (drop k (b ∷ s))) one more)

-- a line for noise stands before the lines after it
pub after_first : (offset run : ℕ) (l : Line) (ls ms : List Line) → after_noise offset run (l ∷ (ls ++ ms)) ≡ after_noise offset run (l ∷ ls) ++ ms
unfolding after_noise
after_first offset zero l ls ms = refl
after_first offset (suc n) l ls ms = refl

-- a claim about what judging comes to: at a place that is not settled, at a noise byte, at a frame
module _ (P : ℕ → ℕ → List ℕ → Progress → Type 0)
    (when-open : (offset run : ℕ) (s : List ℕ) → settled s ≡ false → P offset run s (left_open run s))
    (when-noise : (offset run b : ℕ) (s : List ℕ) (j : Progress) → settled (b ∷ s) ≡ true → ((f : Frame) → read_first (b ∷ s) ≡ accepted f → ⊥)
    → P (offset + 1) (run + 1) s j → P offset run (b ∷ s) j)
    (when-frame : (offset run : ℕ) (s : List ℕ) (f : Frame) (j : Progress) → read_first s ≡ accepted f → P (offset + size f) 0 (drop (size f) s) j
    → P offset run s (after (after_noise offset run (frame offset (size f) f.kind ∷ [])) j)) where
  place_on : (left offset run b : ℕ) (s : List ℕ) → length s ≤ left
      → ((offset run : ℕ) (t : List ℕ) → length t ≤ left → P offset run t (judged_from offset run 0 t)) → P offset run (b ∷ s) (judged_from offset run 0 (b ∷ s))
  place_on left offset run b s h later = go (settled (b ∷ s)) (read_first (b ∷ s)) refl refl
    where
      go : (d : Bool) (o : Outcome Frame) → settled (b ∷ s) ≡ d → read_first (b ∷ s) ≡ o → P offset run (b ∷ s) (judged_from offset run 0 (b ∷ s))
      go false o e is = subst⁻¹ (P offset run (b ∷ s)) (at_open (b ∷ s) offset run e) (when-open offset run (b ∷ s) e)
      go true (refused n) e is =
          let none : (f : Frame) → read_first (b ∷ s) ≡ accepted f → ⊥ = λ f acc. let z : ◌≡◌ {A = ℕ} 0 1 = cc in omega arith in
          subst⁻¹ (P offset run (b ∷ s)) (at_noise b s offset run e none) (when-noise offset run b s _ e none (later (offset + 1) (run + 1) s h))
      go true (accepted f) e is =
          let w : Starting (b ∷ s) f = starting (b ∷ s) f is in
          subst⁻¹ (P offset run (b ∷ s)) (at_frame (b ∷ s) offset run f is)
          (when-frame offset run (b ∷ s) f _ is (later (offset + size f) 0 (drop (size f) (b ∷ s)) (omega (arith, w.least, length-drop (size f) (b ∷ s)))))

  at_end : (offset run : ℕ) → P offset run [] (judged_from offset run 0 [])
  at_end offset run = subst⁻¹ (P offset run []) (at_open [] offset run (none_unsettled [] refl)) (when-open offset run [] (none_unsettled [] refl))

  any_on : (left offset run : ℕ) (s : List ℕ) → length s ≤ suc left
      → ((offset run : ℕ) (t : List ℕ) → length t ≤ left → P offset run t (judged_from offset run 0 t)) → P offset run s (judged_from offset run 0 s)
  any_on left offset run [] h later = at_end offset run
  any_on left offset run (b ∷ s) h later = place_on left offset run b s (omega arith) later

  no_more : (offset run : ℕ) (s : List ℕ) → length s ≤ 0 → P offset run s (judged_from offset run 0 s)
  no_more offset run [] h = at_end offset run
  no_more offset run (b ∷ s) h = let z : ⊥ = omega arith in absurd z

  from : (left offset run : ℕ) (s : List ℕ) → length s ≤ left → P offset run s (judged_from offset run 0 s)
  from zero offset run s h = no_more offset run s h
  from (suc left) offset run s h = any_on left offset run s h (from left)

  pub by_places : (offset run : ℕ) (s : List ℕ) → P offset run s (judged_from offset run 0 s)
  by_places offset run s = from (length s) offset run s (omega arith)

-- what more bytes bring: the lines of the bytes judged, and then those from the first unread byte on
abbrev pub onward : ℕ → List ℕ → List ℕ → Progress → List Line
onward offset s t j = j.lines ++ lines_from (offset + length s - length j.unread) j.run 0 (j.unread ++ t)

pub appended : (offset run : ℕ) (s t : List ℕ) → lines_from offset run 0 (s ++ t) ≡ onward offset s t (judged_from offset run 0 s)
appended offset run s t =
    by_places (λ offset run s j. lines_from offset run 0 (s ++ t) ≡ onward offset s t j)
    (λ offset run s e. let o : offset ≡ offset + length s - length s = omega arith in ap (λ (n : ℕ). lines_from n run 0 (s ++ t)) o)
    (λ offset run b s j e none later.
    let o : offset + 1 + length s - length j.unread ≡ offset + suc (length s) - length j.unread = omega arith in
    no_frame b (s ++ t) offset run (λ f is. none f (stays_frame (b ∷ s) t e f is)) ∙ later
    ∙ ap (λ (n : ℕ). j.lines ++ lines_from n j.run 0 (j.unread ++ t)) o)
    (λ offset run s f j is later.
    let w : Starting s f = starting s f is in
    let l = frame offset (size f) f.kind in
    let o : offset + size f + length (drop (size f) s) - length j.unread ≡ offset + length s - length j.unread =
    omega (arith, w.inside, length-drop (size f) s) in
    let rest = lines_from (offset + length s - length j.unread) j.run 0 (j.unread ++ t) in
    a_frame (s ++ t) offset run f (frame_stays s t f is)
    ∙ ap (λ (x : List ℕ). after_noise offset run (l ∷ lines_from (offset + size f) 0 0 x)) (drop-append-le (size f) s t w.inside)
    ∙ ap (λ (ls : List Line). after_noise offset run (l ∷ ls)) (later ∙ ap (λ (n : ℕ). j.lines ++ lines_from n j.run 0 (j.unread ++ t)) o)
    ∙ after_first offset run l j.lines rest
    ∙ ap (λ (ls : List Line). ls ++ rest) (after_first offset run l [] j.lines))
    offset run s

-- judging stops where a place is not settled
pub left_unsettled : (offset run : ℕ) (s : List ℕ) → settled (judged_from offset run 0 s).unread ≡ false
left_unsettled =
    by_places (λ offset run s j. settled j.unread ≡ false)
    (λ offset run s e. e)
    (λ offset run b s j e none later. later)
    (λ offset run s f j is later. later)

-- what came before noise and unread bytes is what it was before, or ends in a frame
pub early : (offset run : ℕ) (s : List ℕ) → run ≤ offset → FrameOrNone (offset - run)
    → ((judged_from offset run 0 s).run + length (judged_from offset run 0 s).unread ≤ offset + length s)
    × FrameOrNone (offset + length s - ((judged_from offset run 0 s).run + length (judged_from offset run 0 s).unread))
early =
    by_places (λ offset run s j. run ≤ offset → FrameOrNone (offset - run)
    → (j.run + length j.unread ≤ offset + length s) × FrameOrNone (offset + length s - (j.run + length j.unread)))
    (λ offset run s e r some. (omega arith, λ n. omega (arith, some (λ z. n (omega arith)))))
    (λ offset run b s j e none later r some.
    let l = later (omega arith) (λ n. omega (arith, some (λ z. n (omega arith)))) in
    (omega (arith, l.0), λ n. omega (arith, l.1 (λ z. n (omega arith)))))
    (λ offset run s f j is later r some.
    let w : Starting s f = starting s f is in
    let l = later (omega arith) (λ n. omega (arith, w.least)) in
    let d : length (drop (size f) s) ≡ length s - size f = length-drop (size f) s in
    (omega (arith, l.0, w.inside), λ n. omega (arith, w.inside, l.1 (λ z. n (omega (arith, w.inside))))))
