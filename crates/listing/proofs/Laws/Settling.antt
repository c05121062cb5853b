-- Bytes judged place by place, with the frames among them kept. Assumes nothing.
use mathlib.Core.Path.{◌≡◌, refl, sym, ap, ap₂, ◌∙◌}
use mathlib.Core.Bool.{true, false}
use mathlib.Core.List.{List, [], ◌∷◌, ◌++◌, append-nil, append_assoc}
use Prim.Native.Nat.{ℕ, ◌+◌, ◌-◌, ◌<◌, ◌≤◌}
use native.Mathlib.Nat.{add-zero, add_assoc}
use native.Mathlib.Numerals.{add-one}
use native.Mathlib.Omega.{arith}
use lib.ListN.{length, get_or, take, drop, length-append, length-drop, take-append-drop}
use lib.Seq.{take_at, length-take-le, drop-cons, drop-drop, drop-length, drop-append-le}
use Rattle.answer.specs.Answer.{accepted}
use Rattle.link.specs.Frame.{Frame, read_first, size}
use Rattle.link.proofs.Laws.First.{Starting, starting}
use Rattle.listing.specs.declared.place.FrameAt.{FrameAt}
use Rattle.listing.specs.Lines.{Line, frame, end, lines_from, after_noise}
use Rattle.listing.specs.Text.{line_text, text}
use Rattle.listing.specs.State.{settled}
use Rattle.listing.specs.Pieces.{Progress, after, judged_from}
use Rattle.listing.specs.Parts.{behind, run_text, pair_text, frames_text, last_end, found_text, Within, lines_of, judged_at, Settles, Ends}
use Rattle.listing.proofs.Laws.FramesText.{within_more, last_within, last_joined, within-joined}
use Rattle.listing.proofs.Laws.Judging.{at_noise, at_frame, after_first, onward, appended}
use Rattle.listing.proofs.Laws.Places.{no_frame, text_after, text_joined}
use Rattle.listing.proofs.Laws.Settled.{unsettled_none, settled_stays, frame_stays, stays_frame}

-- the lines of frames, and of others behind them
lines-joined : (from : ℕ) (es fs : List FrameAt) → lines_of from (es ++ fs) ≡ lines_of from es ++ lines_of (last_end from es) fs
unfolding lines_of last_end
lines-joined from [] fs = refl
lines-joined from (e ∷ es) fs =
    let l = frame e.offset e.count e.kind in
    ap (λ (ls : List Line). after_noise e.offset (e.offset - from) (l ∷ ls)) (lines-joined (behind e) es fs)
    ∙ after_first e.offset (e.offset - from) l (lines_of (behind e) es) (lines_of (last_end (behind e) es) fs)

after_both : (ls ms : List Line) (j : Progress) → after ls (after ms j) ≡ after (ls ++ ms) j
after_both ls ms j = ap (λ (x : List Line). record { lines = x; run = j.run; unread = j.unread }) (sym (append_assoc ls ms j.lines))

-- no byte judged yet
pub settles_none : (s : List ℕ) (base from : ℕ) → from ≤ base → Settles s base from [] 0
unfolding lines_of last_end
settles_none s base from h = record {
  within = omega arith;
  few = omega arith;
  inside = omega arith;
  same = λ t. ap (λ (n : ℕ). judged_at from n (s ++ t)) (sym (add-zero base));
}

module _ {s : List ℕ} {base from : ℕ} {es : List FrameAt} {at : ℕ} (g : Settles s base from es at) where
  last : ℕ
  last = last_end from es

  last_here : last_end from es ≤ base + at
  last_here = last_within from es (base + at) g.inside

  -- one byte of noise more
  pub settles_noise : at < length s → settled (drop at s) ≡ true → ((f : Frame) → read_first (drop at s) ≡ accepted f → ⊥)
      → Settles s base from es (at + 1)
  settles_noise h e none = record {
    within = omega arith;
    few = omega (arith, g.few);
    inside = within_more_one;
    same = λ t. g.same t ∙ ap (after (lines_of from es)) (one t);
  }
    where
      within_more_one : Within from es (base + (at + 1))
      within_more_one = within_more from es (base + at) (base + (at + 1)) (omega arith) g.inside

      cons : drop at s ≡ get_or s at 0 ∷ drop (at + 1) s
      cons = drop-cons s at 0 h ∙ ap (λ (n : ℕ). get_or s at 0 ∷ drop n s) (sym (add-one at))

      one : (t : List ℕ) → judged_at (last_end from es) (base + at) (drop at s ++ t) ≡ judged_at (last_end from es) (base + (at + 1)) (drop (at + 1) s ++ t)
      one t =
          let b = get_or s at 0 in
          let r = drop (at + 1) s in
          let o : base + at + 1 ≡ base + (at + 1) = omega arith in
          let n : base + at - last_end from es + 1 ≡ base + (at + 1) - last_end from es = omega (arith, last_here) in
          ap (λ (x : List ℕ). judged_at (last_end from es) (base + at) (x ++ t)) cons
          ∙ at_noise b (r ++ t) (base + at) (base + at - last_end from es) (settled_stays (b ∷ r) t (ap settled (sym cons) ∙ e))
          (λ f is. none f (ap read_first cons ∙ stays_frame (b ∷ r) t (ap settled (sym cons) ∙ e) f is))
          ∙ ap₂ (λ (k m : ℕ). judged_from k m 0 (r ++ t)) o n

  -- one frame more
  module _ (f : Frame) (is : read_first (drop at s) ≡ accepted f) (e : FrameAt) (here : e.offset ≡ base + at) (counts : e.count ≡ size f) (types : e.kind ≡ f.kind) (byte : f.kind < 256) where
    w : Starting (drop at s) f
    w = starting (drop at s) f is

    its_line : after_noise (base + at) (base + at - last_end from es) (frame (base + at) (size f) f.kind ∷ []) ≡ lines_of (last_end from es) (e ∷ [])
    unfolding lines_of
    its_line =
        sym (ap₂ (λ (o n : ℕ). after_noise o (o - last_end from es) (frame o n e.kind ∷ [])) here counts
        ∙ ap (λ (k : ℕ). after_noise (base + at) (base + at - last_end from es) (frame (base + at) (size f) k ∷ [])) types)

    its_end : last_end from (es ++ (e ∷ [])) ≡ base + (at + size f)
    unfolding last_end
    its_end = let sum : behind e ≡ base + (at + size f) = omega arith in last_joined from es (e ∷ []) ∙ sum

    abbrev later : List ℕ → Progress
    later t = judged_at (last_end from (es ++ (e ∷ []))) (base + (at + size f)) (drop (at + size f) s ++ t)

    pub settles_frame : Settles s base from (es ++ (e ∷ [])) (at + size f)
    settles_frame = record {
      within = omega (arith, w.inside, g.within, length-drop at s);
      few = omega (arith, g.few, w.least, length-append es (e ∷ []));
      inside = within-joined from es (e ∷ []) (base + at) (base + (at + size f)) g.inside ((omega (arith, last_here), omega (arith, types, byte)), omega arith);
      same = λ t. g.same t ∙ ap (after (lines_of from es)) (one t) ∙ after_both (lines_of from es) (lines_of (last_end from es) (e ∷ [])) (later t)
          ∙ ap (λ (ls : List Line). after ls (later t)) (sym (lines-joined from es (e ∷ [])));
    }
      where
        one : (t : List ℕ) → judged_at (last_end from es) (base + at) (drop at s ++ t) ≡ after (lines_of (last_end from es) (e ∷ [])) (later t)
        one t =
            let o : base + at + size f ≡ base + (at + size f) = omega arith in
            let n : 0 ≡ base + (at + size f) - last_end from (es ++ (e ∷ [])) = omega (arith, its_end) in
            at_frame (drop at s ++ t) (base + at) (base + at - last_end from es) f (frame_stays (drop at s) t f is)
            ∙ ap₂ (λ (ls : List Line) (x : List ℕ). after ls (judged_from (base + at + size f) 0 0 x)) its_line
            (drop-append-le (size f) (drop at s) t w.inside ∙ ap (λ (x : List ℕ). x ++ t) (drop-drop (size f) at s))
            ∙ ap₂ (λ (k m : ℕ). after (lines_of (last_end from es) (e ∷ [])) (judged_from k m 0 (drop (at + size f) s ++ t))) o n

  -- more bytes behind these, and judged on
  pub settles_on : (t : List ℕ) (fs : List FrameAt) (more : ℕ) → Settles (drop at (s ++ t)) (base + at) (last_end from es) fs more
      → Settles (s ++ t) base from (es ++ fs) (at + more)
  settles_on t fs more h = record {
    within = omega (arith, h.within, g.within, length-drop at (s ++ t), length-append s t);
    few = omega (arith, g.few, h.few, length-append es fs);
    inside = within-joined from es fs (base + at) (base + (at + more)) g.inside (within_more (last_end from es) fs (base + at + more) (base + (at + more)) (omega arith) h.inside);
    same = λ u. ap (judged_at from base) (append_assoc s t u) ∙ g.same (t ++ u)
        ∙ ap (λ (x : List ℕ). after (lines_of from es) (judged_at (last_end from es) (base + at) x))
        (sym (append_assoc (drop at s) t u) ∙ ap (λ (x : List ℕ). x ++ u) (sym (drop-append-le at s t g.within)))
        ∙ ap (after (lines_of from es)) (h.same u)
        ∙ after_both (lines_of from es) (lines_of (last_end from es) fs) (judged_at (last_end (last_end from es) fs) (base + at + more) (drop more (drop at (s ++ t)) ++ u))
        ∙ ap₂ (λ (ls : List Line) (x : List ℕ). after ls (judged_at (last_end (last_end from es) fs) (base + at + more) (x ++ u))) (sym (lines-joined from es fs)) (drop-drop more at (s ++ t))
        ∙ ap₂ (λ (l o : ℕ). after (lines_of from (es ++ fs)) (judged_at l o (drop (at + more) (s ++ t) ++ u))) (sym (last_joined from es fs)) (add_assoc base at more);
  }

  -- what the listing makes of these bytes, with nothing behind them
  pub settles_lines : lines_from base (base - from) 0 s ≡ lines_of from es ++ lines_from (base + at) (base + at - last_end from es) 0 (drop at s)
  settles_lines =
      let j = judged_at (last_end from es) (base + at) (drop at s) in
      let n : base + length s - length j.unread ≡ base + at + length (drop at s) - length j.unread = omega (arith, g.within, length-drop at s) in
      let rest = lines_from (base + at + length (drop at s) - length j.unread) j.run 0 (j.unread ++ []) in
      ap (lines_from base (base - from) 0) (sym (append-nil s))
      ∙ appended base (base - from) s []
      ∙ ap (onward base s []) (ap (judged_at from base) (sym (append-nil s)) ∙ g.same [] ∙ ap (λ (x : List ℕ). after (lines_of from es) (judged_at (last_end from es) (base + at) x)) (append-nil (drop at s)))
      ∙ append_assoc (lines_of from es) j.lines (lines_from (base + length s - length j.unread) j.run 0 (j.unread ++ []))
      ∙ ap (λ (k : ℕ). lines_of from es ++ (j.lines ++ lines_from k j.run 0 (j.unread ++ []))) n
      ∙ ap (λ (ls : List Line). lines_of from es ++ ls) (sym (appended (base + at) (base + at - last_end from es) (drop at s) []) ∙ ap (lines_from (base + at) (base + at - last_end from es) 0) (append-nil (drop at s)))

-- the last bytes: a place that is not settled is noise
pub ends_none : (s : List ℕ) (base from : ℕ) → from ≤ base → Ends s base from [] 0
unfolding lines_of last_end
ends_none s base from h = record {
  within = omega arith;
  few = omega arith;
  inside = omega arith;
  same = ap (λ (n : ℕ). lines_from n (n - from) 0 s) (sym (add-zero base));
}

pub ends_on : {s : List ℕ} {base from : ℕ} {es : List FrameAt} {at : ℕ} → Ends s base from es at → at < length s → settled (drop at s) ≡ false
    → (fs : List FrameAt) (more : ℕ) → Settles (drop (at + 1) s) (base + (at + 1)) (last_end from es) fs more → Ends s base from (es ++ fs) (at + 1 + more)
ends_on {s} {base} {from} {es} {at} g h e fs more k =
    let b = get_or s at 0 in
    let last = last_end from es in
    let cons : drop at s ≡ b ∷ drop (at + 1) s = drop-cons s at 0 h ∙ ap (λ (n : ℕ). b ∷ drop n s) (sym (add-one at)) in
    let o : base + at + 1 ≡ base + (at + 1) = omega arith in
    let n : base + at - last + 1 ≡ base + (at + 1) - last = omega (arith, last_within from es (base + at) g.inside) in
    let to : base + (at + 1) + more ≡ base + (at + 1 + more) = omega arith in
    let later = lines_from (base + (at + 1) + more) (base + (at + 1) + more - last_end last fs) 0 (drop more (drop (at + 1) s)) in
    record {
      within = omega (arith, k.within, length-drop (at + 1) s);
      few = omega (arith, g.few, k.few, length-append es fs);
      inside = within-joined from es fs (base + at) (base + (at + 1 + more)) g.inside (within_more last fs (base + (at + 1) + more) (base + (at + 1 + more)) (omega arith) k.inside);
      same = g.same
          ∙ ap (λ (ls : List Line). lines_of from es ++ ls)
          (ap (lines_from (base + at) (base + at - last) 0) cons
          ∙ no_frame b (drop (at + 1) s) (base + at) (base + at - last) (λ f is. unsettled_none (drop at s) e f (ap read_first cons ∙ is))
          ∙ ap₂ (λ (i m : ℕ). lines_from i m 0 (drop (at + 1) s)) o n
          ∙ settles_lines k)
          ∙ sym (append_assoc (lines_of from es) (lines_of last fs) later)
          ∙ ap₂ (λ (ls : List Line) (x : List ℕ). ls ++ lines_from (base + (at + 1) + more) (base + (at + 1) + more - last_end last fs) 0 x) (sym (lines-joined from es fs)) (drop-drop more (at + 1) s)
          ∙ ap₂ (λ (i l : ℕ). lines_of from (es ++ fs) ++ lines_from i (i - l) 0 (drop (at + 1 + more) s)) to (sym (last_joined from es fs));
    }

-- a part of a list from a place on, put back with so many kept in it
pub part-kept : (n count : ℕ) (old part later : List FrameAt) → n ≤ length old → count ≤ length part
    → take (n + count) (take n old ++ (part ++ later)) ≡ take n old ++ take count part
part-kept n count old part later h k =
    let a = take n old in
    let b = take count part in
    let c = drop count part ++ later in
    let long : length (a ++ b) ≡ n + count = omega (arith, length-append a b, length-take-le n old h, length-take-le count part k) in
    ap (λ (x : List FrameAt). take (n + count) (a ++ (x ++ later))) (sym (take-append-drop count part))
    ∙ ap (λ (x : List FrameAt). take (n + count) (a ++ x)) (append_assoc b (drop count part) later)
    ∙ ap (take (n + count)) (sym (append_assoc a b c))
    ∙ take_at (a ++ b) c (n + count) long

-- the text of the lines
pub text_of_lem : (from : ℕ) (es : List FrameAt) (len : ℕ) → Within from es len → text (lines_of from es) ≡ frames_text from es
unfolding lines_of frames_text pair_text text
text_of_lem from [] len h = refl
text_of_lem from (e ∷ es) len h =
    let o = e.offset in
    let l = frame o e.count e.kind in
    let back : o - (o - from) ≡ from = omega (arith, h.0.0) in
    text_after o (o - from) (l ∷ lines_of (behind e) es)
    ∙ ap₂ (λ (n : ℕ) (x : List ℕ). run_text n (o - from) ++ (line_text l ++ x)) back (text_of_lem (behind e) es len h.1)
    ∙ sym (append_assoc (run_text from (o - from)) (line_text l) (frames_text (behind e) es))

pub ends_text : {s : List ℕ} {base from : ℕ} {es : List FrameAt} → Ends s base from es (length s)
    → text (lines_from base (base - from) 0 s) ≡ found_text from es (base + length s)
unfolding found_text lines_from text
ends_text {s} {base} {from} {es} g =
    let last = last_end from es in
    let len = base + length s in
    let back : len - (len - last) ≡ last = omega (arith, last_within from es len g.inside) in
    ap text (g.same ∙ ap (λ (x : List ℕ). lines_of from es ++ lines_from len (len - last) 0 x) (drop-length s))
    ∙ text_joined (lines_of from es) (after_noise len (len - last) (end len ∷ []))
    ∙ ap₂ (λ (x y : List ℕ). x ++ y) (text_of_lem from es len g.inside)
    (text_after len (len - last) (end len ∷ []) ∙ ap₂ (λ (n : ℕ) (x : List ℕ). run_text n (len - last) ++ x) back (append-nil (line_text (end len))))
