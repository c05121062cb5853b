-- The listing's lines account for every byte, each frame line for an accepted frame, and no noise line hides one; and no other lines do. Assumes nothing.
use mathlib.Core.Path.{◌≡◌, refl, sym, ap, ap₂, subst, subst⁻¹, ◌∙◌}
use mathlib.Core.Bool.{Bool, true, false}
use mathlib.Core.List.{List, [], ◌∷◌}
use Prim.Native.Nat.{ℕ, zero, suc, ◌+◌, ◌-◌, ◌<◌, ◌≤◌}
use native.Mathlib.Nat.{le_antisymm}
use native.Mathlib.Omega.{arith}
use lib.Dec.{ltb}
use lib.ListN.{length, take, drop, drop_of_length-le, length-take, length-drop}
use lib.Seq.{drop-drop}
use borrow.Author.Tests.{ltb-true, ltb-false}
use Rattle.answer.specs.Answer.{Outcome, refused, accepted}
use Rattle.link.specs.Frame.{Frame, read_frame, read_first, size}
use Rattle.link.proofs.Laws.First.{Starting, starting, only_one}
use Rattle.link.proofs.Laws.Whole.{counted}
use Rattle.listing.specs.Lines.{Line, noise, frame, end, lines, lines_from, after_noise}
use Rattle.listing.specs.Faithful.{NoFrame, NotNoise, Tells, Faithful}
use Rattle.listing.specs.Parts.{Quiet}
use Rattle.listing.proofs.Laws.Places.{a_frame, noise-byte, quiet_none, quiet_more, quiet_lines, closed_at_end, closed_at_frame}

-- a claim about the lines from an offset on, with so many noise bytes just before: at the end, at a noise byte, at a frame
module _ (s : List ℕ) (P : ℕ → ℕ → List Line → Type 0)
    (at_end : (run : ℕ) → P (length s) run (after_noise (length s) run (end (length s) ∷ [])))
    (at_noise : (offset run : ℕ) (ls : List Line) → offset < length s → ((f : Frame) → read_first (drop offset s) ≡ accepted f → ⊥)
    → P (offset + 1) (run + 1) ls → P offset run ls)
    (at_frame : (offset run : ℕ) (f : Frame) (ls : List Line) → read_first (drop offset s) ≡ accepted f → P (offset + size f) 0 ls
    → P offset run (after_noise offset run (frame offset (size f) f.kind ∷ ls))) where
  Here : ℕ → ℕ → Type 0
  Here offset run = P offset run (lines_from offset run 0 (drop offset s))

  ended : (offset run : ℕ) → offset ≡ length s → Here offset run
  unfolding Here lines_from
  ended offset run e =
      subst (λ (t : List ℕ). P offset run (lines_from offset run 0 t)) (sym (drop_of_length-le s {i = offset} (omega arith)))
      (subst (λ (n : ℕ). P n run (after_noise n run (end n ∷ []))) (sym e) (at_end run))

  framed : (offset run : ℕ) (f : Frame) → read_first (drop offset s) ≡ accepted f → Here (offset + size f) 0 → Here offset run
  unfolding Here
  framed offset run f e p =
      subst (P offset run)
      (sym (a_frame (drop offset s) offset run f e
      ∙ ap (λ (t : List ℕ). after_noise offset run (frame offset (size f) f.kind ∷ lines_from (offset + size f) 0 0 t)) (drop-drop (size f) offset s)))
      (at_frame offset run f _ e p)

  noisy : (offset run : ℕ) → offset < length s → ((f : Frame) → read_first (drop offset s) ≡ accepted f → ⊥) → Here (offset + 1) (run + 1)
      → Here offset run
  unfolding Here
  noisy offset run h none p = subst (P offset run) (sym (noise-byte s offset run h none)) (at_noise offset run _ h none p)

  -- one place, by what stands there
  at_place : (left offset run : ℕ) → length s ≤ offset + suc left → offset ≤ length s
      → ((at more : ℕ) → length s ≤ at + left → at ≤ length s → Here at more) → Here offset run
  at_place left offset run h g later = here (ltb offset (length s)) refl
    where
      there : (o : Outcome Frame) → offset < length s → read_first (drop offset s) ≡ o → Here offset run
      there (accepted f) in-it e =
          let inside : size f ≤ length (drop offset s) = (starting (drop offset s) f e).inside in
          let left_over : length (drop offset s) ≡ length s - offset = length-drop offset s in
          framed offset run f e (later (offset + size f) 0 (omega arith) (omega arith))
      there (refused n) in-it e =
          noisy offset run in-it (λ f is. let z : ◌≡◌ {A = ℕ} 0 1 = cc in omega arith) (later (offset + 1) (run + 1) (omega arith) (omega arith))

      here : (t : Bool) → ltb offset (length s) ≡ t → Here offset run
      here true e = there (read_first (drop offset s)) (ltb-true offset (length s) e) refl
      here false e = ended offset run (le_antisymm g (ltb-false offset (length s) e))

  from : (left offset run : ℕ) → length s ≤ offset + left → offset ≤ length s → Here offset run
  from zero offset run h g = ended offset run (le_antisymm g (omega arith))
  from (suc left) offset run h g = at_place left offset run h g (from left)

  by_places : P 0 0 (lines s)
  unfolding Here
  by_places = from (length s) 0 0 (omega arith) (omega arith)

-- the lines after the noise, with the noise line before them
tells_after : (s : List ℕ) (offset run : ℕ) (ls : List Line) → run ≤ offset → Quiet s (offset - run) offset → NotNoise ls → Tells s offset ls
    → Tells s (offset - run) (after_noise offset run ls)
unfolding after_noise
tells_after s offset zero ls le q other p =
    let e : offset ≡ offset - 0 = omega arith in
    subst (λ (n : ℕ). Tells s n ls) e p
tells_after s offset (suc n) ls le q other p =
    let e : offset ≡ offset - suc n + suc n = omega arith in
    (refl, omega arith, hides_none, other, subst (λ (k : ℕ). Tells s k ls) e p)
  where
    hides_none : NoFrame s (offset - suc n) (suc n)
    hides_none i m f h e = q.none (offset - suc n + i) f (omega arith) (omega arith) (only_one _ m f e)

-- the listing of any capture is faithful
pub faithful : (s : List ℕ) → Faithful s (lines s)
faithful s =
    by_places s (λ offset run ls. run ≤ offset → Quiet s (offset - run) offset → Tells s (offset - run) ls)
    (λ run h q. tells_after s (length s) run (end (length s) ∷ []) h q tt (refl, refl, refl))
    (λ offset run ls in-it none p h q.
    let same : offset + 1 - (run + 1) ≡ offset - run = omega arith in
    subst (λ (n : ℕ). Tells s n ls) same (p (omega arith) (subst⁻¹ (λ (n : ℕ). Quiet s n (offset + 1)) same (quiet_more s (offset - run) offset q in-it none))))
    (λ offset run f ls e p h q.
    let w : Starting (drop offset s) f = starting (drop offset s) f e in
    let here : offset + size f ≡ offset + size f - 0 = omega arith in
    tells_after s offset run (frame offset (size f) f.kind ∷ ls) h q tt (
      refl,
      (f, w.whole, refl),
      subst⁻¹ (λ (n : ℕ). Tells s n ls) here
          (p (omega arith) (subst (λ (n : ℕ). Quiet s n (offset + size f)) here (quiet_none s (offset + size f) (omega (arith, w.inside, w.least, length-drop offset s))))),
    ))
    (omega arith)
    (quiet_none s 0 (omega arith))

-- faithful lines do not go past the capture's end
within : (s : List ℕ) (at : ℕ) (ls : List Line) → Tells s at ls → at ≤ length s
within s at [] t = absurd t
within s at (noise offset count ∷ ls) t = omega (arith, within s (at + count) ls t.4)
within s at (frame offset count kind ∷ ls) t = omega (arith, within s (at + count) ls t.2)
within s at (end offset ∷ ls) t = omega (arith, t.1)

-- bytes at which no frame starts are noise
quiet_run : (s : List ℕ) (from count : ℕ) → from + count ≤ length s → NoFrame s from count → Quiet s from (from + count)
quiet_run s from count h none = record {
  forward = omega arith;
  within = h;
  none = λ i f from_on below e.
      let back : from + (i - from) ≡ i = omega arith in
      none (i - from) (size f) f (omega arith) (ap (λ (n : ℕ). read_frame (take (size f) (drop n s))) back ∙ (starting (drop i s) f e).whole);
}

-- behind a noise line stands a frame or the end
closed : (s : List ℕ) (at run : ℕ) (ls : List Line) → NotNoise ls → Tells s at ls
    → lines_from at run 0 (drop at s) ≡ after_noise at run (lines_from at 0 0 (drop at s))
closed s at run [] other t = absurd t
closed s at run (noise offset count ∷ ls) other t = absurd other
closed s at run (frame offset count kind ∷ ls) other t = closed_at_frame s at run t.1.0 (only_one (drop at s) count t.1.0 t.1.1)
closed s at run (end offset ∷ ls) other t = closed_at_end s at run (omega (arith, t.1))

a_line : (offset count : ℕ) (ls : List Line) → 0 < count → after_noise (offset + count) count ls ≡ noise offset count ∷ ls
unfolding after_noise
a_line offset zero ls h = let z : ⊥ = omega arith in absurd z
a_line offset (suc n) ls h = let e : offset + suc n - suc n ≡ offset = omega arith in ap (λ (o : ℕ). noise o (suc n) ∷ ls) e

told : (s : List ℕ) (at : ℕ) (ls : List Line) → Tells s at ls → ls ≡ lines_from at 0 0 (drop at s)
unfolding lines_from after_noise
told s at [] t = absurd t
told s at (noise offset count ∷ ls) t =
    let to = at + count in
    sym (quiet_lines s at count (quiet_run s at count (within s to ls t.4) t.2)
    ∙ closed s to count ls t.3 t.4
    ∙ ap (after_noise to count) (sym (told s to ls t.4))
    ∙ a_line at count ls t.1
    ∙ ap (λ (n : ℕ). noise n count ∷ ls) (sym t.0))
told s at (frame offset count kind ∷ ls) t =
    let f = t.1.0 in
    let is = only_one (drop at s) count f t.1.1 in
    let n : size f ≡ count = omega (arith, counted (take count (drop at s)) f t.1.1, length-take count (drop at s), length-drop at s, within s (at + count) ls t.2) in
    sym (a_frame (drop at s) at 0 f is
    ∙ ap (λ (x : List ℕ). frame at (size f) f.kind ∷ lines_from (at + size f) 0 0 x) (drop-drop (size f) at s)
    ∙ ap₂ (λ (m k : ℕ). frame at m k ∷ lines_from (at + m) 0 0 (drop (at + m) s)) n t.1.2
    ∙ ap₂ (λ (o : ℕ) (x : List Line). frame o count kind ∷ x) (sym t.0) (sym (told s (at + count) ls t.2)))
told s at (end offset ∷ ls) t =
    ap₂ (λ (o : ℕ) (x : List Line). end o ∷ x) t.0 t.2
    ∙ sym (ap (lines_from at 0 0) (drop_of_length-le s {i = at} (omega (arith, t.1))))

-- and no other lines are
pub only_faithful : (s : List ℕ) (ls : List Line) → Faithful s ls → ls ≡ lines s
only_faithful s ls t = told s 0 ls t
