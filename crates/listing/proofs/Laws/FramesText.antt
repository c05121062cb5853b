-- The text of frames from an offset on: joined, measured, and put frame by frame. Assumes nothing.
use mathlib.Core.Path.{◌≡◌, refl, sym, ap, subst, ◌∙◌}
use mathlib.Core.List.{List, [], ◌∷◌, ◌++◌, append_assoc, append-nil}
use Prim.Native.Nat.{ℕ, suc, ◌+◌, ◌-◌, ◌*◌, ◌<◌, ◌≤◌}
use native.Mathlib.Numerals.{add-one}
use native.Mathlib.Omega.{arith}
use lib.ListN.{length, get_or, drop, length-append, drop_of_length-le}
use lib.Seq.{drop-cons}
use Rattle.listing.specs.declared.place.FrameAt.{FrameAt}
use Rattle.listing.specs.Lines.{end}
use Rattle.listing.specs.Text.{line_text}
use Rattle.listing.specs.Parts.{behind, line_of, run_text, pair_text, frames_text, last_end, found_text, Within, Put}
use Rattle.listing.proofs.Laws.Numbers.{at_most_four, end-length}
use Rattle.listing.proofs.Laws.Output.{joined, nothing, next_fits, same_bytes}
use Rattle.listing.proofs.Laws.Sizes.{run_bound, frame_line}

-- the frames lie inside the capture
pub within_start : (from : ℕ) (es : List FrameAt) (len : ℕ) → Within from es len → from ≤ len
within_start from [] len w = w
within_start from (e ∷ es) len w = omega (arith, w.0.0, within_start (behind e) es len w.1)

-- and inside a longer one
pub within_more : (from : ℕ) (es : List FrameAt) (n m : ℕ) → n ≤ m → Within from es n → Within from es m
within_more from [] n m h w = omega (arith, w)
within_more from (e ∷ es) n m h w = (w.0, within_more (behind e) es n m h w.1)

pub last_within : (from : ℕ) (es : List FrameAt) (len : ℕ) → Within from es len → last_end from es ≤ len
unfolding last_end
last_within from [] len w = w
last_within from (e ∷ es) len w = last_within (behind e) es len w.1

-- frames, and others behind them
pub frames_joined : (from : ℕ) (es fs : List FrameAt) → frames_text from (es ++ fs) ≡ frames_text from es ++ frames_text (last_end from es) fs
unfolding frames_text last_end
frames_joined from [] fs = refl
frames_joined from (e ∷ es) fs =
    ap (λ (x : List ℕ). pair_text from e ++ x) (frames_joined (behind e) es fs)
    ∙ sym (append_assoc (pair_text from e) (frames_text (behind e) es) (frames_text (last_end (behind e) es) fs))

pub last_joined : (from : ℕ) (es fs : List FrameAt) → last_end from (es ++ fs) ≡ last_end (last_end from es) fs
unfolding last_end
last_joined from [] fs = refl
last_joined from (e ∷ es) fs = last_joined (behind e) es fs

pub within-joined : (from : ℕ) (es fs : List FrameAt) (n len : ℕ) → Within from es n → Within (last_end from es) fs len → Within from (es ++ fs) len
unfolding last_end
within-joined from [] fs n len w v = v
within-joined from (e ∷ es) fs n len w v = (w.0, within-joined (behind e) es fs n len w.1 v)

-- the end of the last frame
pub last_none : (from : ℕ) (es : List FrameAt) → length es ≡ 0 → last_end from es ≡ from
unfolding last_end
last_none from [] h = refl
last_none from (e ∷ es) h = let z : ⊥ = omega (arith, h) in absurd z

pub last_some : (from : ℕ) (es : List FrameAt) (d : FrameAt) → 0 < length es → last_end from es ≡ behind (get_or es (length es - 1) d)
unfolding last_end
last_some from [] d h = let z : ⊥ = omega (arith, h) in absurd z
last_some from (e ∷ []) d h = refl
last_some from (e ∷ f ∷ es) d h =
    let same : suc (length (f ∷ es) - 1) ≡ length (e ∷ f ∷ es) - 1 = omega arith in
    last_some (behind e) (f ∷ es) d (omega arith) ∙ ap (λ (n : ℕ). behind (get_or (e ∷ f ∷ es) n d)) same

-- one frame's text, from where the code has its offset
module _ (from : ℕ) (e : FrameAt) (at : ℕ) (here : at ≡ e.offset) where
  pub pair_of : run_text from (at - from) ++ line_text (line_of e) ≡ pair_text from e
  unfolding pair_text
  pair_of = ap (λ (n : ℕ). run_text from (n - from) ++ line_text (line_of e)) here

  pub pair_size : length (run_text from (at - from)) + length (line_text (line_of e)) ≡ length (pair_text from e)
  pair_size = sym (length-append (run_text from (at - from)) (line_text (line_of e))) ∙ ap length pair_of

-- at most 16 bytes for the noise before a frame, and 21 for the frame
pub frames_bound : (from : ℕ) (es : List FrameAt) → Within from es 4096 → length (frames_text from es) ≤ 37 * length es
unfolding frames_text
frames_bound from [] w = omega arith
frames_bound from (e ∷ es) w =
    let inside : behind e ≤ 4096 = within_start (behind e) es 4096 w.1 in
    omega (
      arith,
      length-append (pair_text from e) (frames_text (behind e) es),
      pair_size from e e.offset refl,
      run_bound from (e.offset - from) (omega (arith, w.0.0)) (omega arith),
      frame_line e.offset e.count e.kind (omega arith) (omega arith) (omega (arith, w.0.1)),
      frames_bound (behind e) es w.1,
    )

-- the whole text: with a frame in front, and from the parts that the code makes
pub found_more : (from : ℕ) (e : FrameAt) (es : List FrameAt) (len : ℕ) → found_text from (e ∷ es) len ≡ pair_text from e ++ found_text (behind e) es len
unfolding found_text frames_text last_end
found_more from e es len =
    append_assoc (pair_text from e) (frames_text (behind e) es) (run_text (last_end (behind e) es) (len - last_end (behind e) es) ++ line_text (end len))

module _ (from : ℕ) (es : List FrameAt) (len last : ℕ) (is : last ≡ last_end from es) where
  pub listing_of : frames_text from es ++ (run_text last (len - last) ++ line_text (end len)) ≡ found_text from es len
  unfolding found_text
  listing_of = ap (λ (n : ℕ). frames_text from es ++ (run_text n (len - n) ++ line_text (end len))) is

  pub listing-size : length (frames_text from es) + length (run_text last (len - last)) + length (line_text (end len)) ≡ length (found_text from es len)
  listing-size =
      omega (
        arith,
        ap length listing_of,
        length-append (frames_text from es) (run_text last (len - last) ++ line_text (end len)),
        length-append (run_text last (len - last)) (line_text (end len)),
      )

-- at most 16 bytes for the noise behind the frames, and 9 for the end
pub found_bound : (from : ℕ) (es : List FrameAt) (len : ℕ) → len ≤ 4096 → Within from es len → length (found_text from es len) ≤ 37 * length es + 25
found_bound from es len h w =
    let last = last_end from es in
    let inside : last ≤ len = last_within from es len w in
    omega (
      arith,
      listing-size from es len last refl,
      frames_bound from es (within_more from es len 4096 h w),
      run_bound last (len - last) (omega arith) (omega arith),
      end-length len,
      at_most_four len (omega arith),
    )

-- what the code reads past the end of a list
abbrev pub unused : FrameAt
unused = record { offset = 0; count = 0; kind = 0 }

-- the text from a frame of the list on, and behind the last one
pub record Step (es : List FrameAt) (len from i : ℕ) (e : FrameAt) : Type 0 where
  pub forward : from ≤ e.offset
  pub byte : e.kind < 256
  pub inside : behind e ≤ len
  pub within : Within (behind e) (drop (i + 1) es) len
  pub same : frames_text from (drop i es) ≡ pair_text from e ++ frames_text (behind e) (drop (i + 1) es)

pub step-size : {es : List FrameAt} {len from i : ℕ} {e : FrameAt} → Step es len from i e
    → length (frames_text from (drop i es)) ≡ length (pair_text from e) + length (frames_text (behind e) (drop (i + 1) es))
step-size {es} {len} {from} {i} {e} n =
    ap length n.same ∙ length-append (pair_text from e) (frames_text (behind e) (drop (i + 1) es))

module _ (es : List FrameAt) (len from i : ℕ) where
  pub step : i < length es → Within from (drop i es) len → Step es len from i (get_or es i unused)
  unfolding frames_text
  step h w =
      let e = get_or es i unused in
      let cons : drop i es ≡ e ∷ drop (i + 1) es = drop-cons es i unused h ∙ ap (λ (n : ℕ). e ∷ drop n es) (sym (add-one i)) in
      let v : Within from (e ∷ drop (i + 1) es) len = subst (λ (x : List FrameAt). Within from x len) cons w in
      record {
        forward = v.0.0;
        byte = v.0.1;
        inside = within_start (behind e) (drop (i + 1) es) len v.1;
        within = v.1;
        same = ap (frames_text from) cons;
      }

pub no_more : (es : List FrameAt) (from i : ℕ) → length es ≤ i → frames_text from (drop i es) ≡ []
unfolding frames_text
no_more es from i h = ap (frames_text from) (drop_of_length-le es {i = i} h)

-- the text up to a frame of the list, put from the start of the output on
pub record Begun (es : List FrameAt) (start len : ℕ) (before after : List ℕ) (place from i : ℕ) : Type 0 where
  pub written : List ℕ
  pub put : Put 0 written before after place
  pub same : frames_text start es ≡ written ++ frames_text from (drop i es)
  pub within : Within from (drop i es) len

module _ {es : List FrameAt} {start len : ℕ} {o₀ : List ℕ} where
  pub begun_none : Within start es len → Begun es start len o₀ o₀ 0 start 0
  begun_none w = record { written = []; put = nothing o₀ 0 (omega arith); same = refl; within = w }

  module _ {o₁ : List ℕ} {place from i : ℕ} (b : Begun es start len o₀ o₁ place from i) where
    module _ {e : FrameAt} (next : Step es len from i e) where
      pub begun_fits : length (frames_text start es) ≤ length o₀ → place + length (pair_text from e) ≤ length o₁
      begun_fits room =
          omega (
            arith,
            next_fits (frames_text from (drop i es)) b.put (omega (arith, ap length b.same)),
            step-size next,
          )

      pub begun_more : {o₂ : List ℕ} {to : ℕ} → Put place (pair_text from e) o₁ o₂ to → Begun es start len o₀ o₂ to (behind e) (i + 1)
      begun_more p = record {
        written = b.written ++ pair_text from e;
        put = joined b.put p;
        same = b.same ∙ ap (λ (x : List ℕ). b.written ++ x) next.same
            ∙ sym (append_assoc b.written (pair_text from e) (frames_text (behind e) (drop (i + 1) es)));
        within = next.within;
      }

    pub begun_all : length es ≤ i → Put 0 (frames_text start es) o₀ o₁ place
    begun_all h =
        same_bytes (sym (b.same ∙ ap (λ (x : List ℕ). b.written ++ x) (no_more es from i h) ∙ append-nil b.written)) b.put
