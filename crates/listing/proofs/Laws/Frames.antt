-- What stands at a place. Assumes nothing.
use mathlib.Core.Path.{◌≡◌, refl, sym, ap, ◌∙◌}
use mathlib.Core.List.{List}
use Prim.Native.Nat.{ℕ, ◌+◌, ◌<◌, ◌≤◌}
use Rattle.std.specs.Prelude.{Option, Some, None}
use native.Mathlib.Nat.{add-zero}
use native.Mathlib.Omega.{arith}
use lib.ListN.{length, get_or, drop, length-drop}
use lib.Seq.{get_or-drop}
use Rattle.answer.specs.Answer.{Outcome, refused, accepted, on_accepted}
use Rattle.link.specs.Frame.{Frame, header, read_first, size}
use Rattle.link.specs.declared.frame.Header.{Header}
use Rattle.link.proofs.Laws.First.{Starting, starting}
use Rattle.listing.specs.declared.place.FrameAt.{FrameAt}
use Rattle.listing.specs.Parts.{judgement, behind, Stands}

-- an outcome that accepts no frame
pub refused_by : (o : Outcome Frame) → ((f : Frame) → o ≡ accepted f → ⊥) → (n : ℕ) × (o ≡ refused n)
refused_by (refused n) h = (n, refl)
refused_by (accepted f) h = absurd (h f refl)

-- what the code makes of the reader's answer
pub judged-refused : (at n : ℕ) (o : Outcome Frame) → refused n ≡ on_accepted header o → None ≡ judgement at o
unfolding judgement
judged-refused at n (refused k) e = refl
judged-refused at n (accepted f) e = cc

pub judged-frame : (at kind count : ℕ) (o : Outcome Frame) → accepted (record { kind = kind; count = count }) ≡ on_accepted header o
    → Some (record { offset = at; count = count + 5; kind = kind }) ≡ judgement at o
unfolding judgement
judged-frame at kind count (refused k) e = cc
judged-frame at kind count (accepted f) e =
    let h : ◌≡◌ {A = Header} (record { kind = kind; count = count }) (header f) = cc in
    ap (λ (x : Header). Some (record { offset = at; count = x.count + 5; kind = x.kind })) h

-- so few data bytes has the frame that starts a byte string
pub judged-few : (s : List ℕ) (kind count : ℕ) → accepted (record { kind = kind; count = count }) ≡ on_accepted header (read_first s) → count ≤ 64
judged-few s kind count e = go (read_first s) refl e
  where
    go : (o : Outcome Frame) → read_first s ≡ o → accepted (record { kind = kind; count = count }) ≡ on_accepted header o → count ≤ 64
    go (refused k) is e = absurd (cc)
    go (accepted f) is e =
        let h : ◌≡◌ {A = Header} (record { kind = kind; count = count }) (header f) = cc in
        omega (arith, ap (λ (x : Header). x.count) h, (starting s f is).most)

-- at an offset of the capture
module _ (s : List ℕ) (at : ℕ) where
  pub other_byte : (get_or s at 0 ≡ 0x5A → ⊥) → (f : Frame) → read_first (drop at s) ≡ accepted f → ⊥
  other_byte h f e = h (sym (get_or-drop at s 0 0 ∙ ap (λ (n : ℕ). get_or s n 0) (add-zero at)) ∙ (starting (drop at s) f e).start)

  pub judged_other : (get_or s at 0 ≡ 0x5A → ⊥) → None ≡ judgement at (read_first (drop at s))
  unfolding judgement
  judged_other h = ap (judgement at) (sym (refused_by (read_first (drop at s)) (other_byte h)).1)

  -- noise
  pub judged_none : None ≡ judgement at (read_first (drop at s)) → (f : Frame) → read_first (drop at s) ≡ accepted f → ⊥
  unfolding judgement
  judged_none h f e = let no_way : ◌≡◌ {A = Option FrameAt} None (Some (record { offset = at; count = size f; kind = f.kind })) = h ∙ ap (judgement at) e in cc

  -- a frame, at this offset
  pub judged_some : (e : FrameAt) → ((i : ℕ) → get_or s i 0 < 256) → Some e ≡ judgement at (read_first (drop at s)) → (e.offset ≡ at) × Stands s e
  unfolding judgement
  judged_some e small h = go (read_first (drop at s)) refl
    where
      go : (o : Outcome Frame) → read_first (drop at s) ≡ o → (e.offset ≡ at) × Stands s e
      go (refused n) is = let no_way : ◌≡◌ {A = Option FrameAt} (Some e) None = h ∙ ap (judgement at) is in absurd (cc)
      go (accepted f) is =
          let whole : ◌≡◌ {A = FrameAt} e (record { offset = at; count = size f; kind = f.kind }) = let both : ◌≡◌ {A = Option FrameAt} (Some e) (Some (record { offset = at; count = size f; kind = f.kind })) = h ∙ ap (judgement at) is in cc in
          let here : e.offset ≡ at = ap (λ (x : FrameAt). x.offset) whole in (
            here,
            record {
              held = f;
              read = ap (λ (n : ℕ). read_first (drop n s)) here ∙ is;
              count = ap (λ (x : FrameAt). x.count) whole;
              kind = ap (λ (x : FrameAt). x.kind) whole;
              byte = omega (arith, ap (λ (x : FrameAt). x.kind) whole, (starting (drop at s) f is).kind 256 (λ i. omega (arith, small (at + i), get_or-drop at s i 0)));
            },
          )

-- a frame lies inside the capture, and has at least 5 bytes
pub record Inside (s : List ℕ) (e : FrameAt) : Type 0 where
  pub most : behind e ≤ length s
  pub least : 5 ≤ e.count

pub inside : {s : List ℕ} {e : FrameAt} → Stands s e → Inside s e
inside {s} {e} t =
    let w : Starting (drop e.offset s) t.held = starting (drop e.offset s) t.held t.read in
    record { most = omega (arith, w.inside, w.least, t.count, length-drop e.offset s); least = omega (arith, w.least, t.count) }
