-- What is claimed of mending, and the answers behind it. Assumes nothing.
use mathlib.Core.Path.{◌≡◌, refl, sym, ap, ◌∙◌}
use mathlib.Core.Bool.{Bool, true, false, not, xor}
use mathlib.Core.List.{List}
use Prim.Native.Nat.{ℕ, ◌+◌, ◌-◌, ◌*◌, ◌<◌, ◌≤◌}
use native.Mathlib.Omega.{arith}
use lib.Bits.{bit_xor}
use lib.Dec.{T, eqb}
use lib.ListN.{length, drop}
use lib.Pow.{are_bytes}
use borrow.Author.Tests.{eq-eqb, ne_eqb, eqb-true, not-false}
use Rattle.answer.specs.Answer.{Outcome, refused, accepted, refuse_if, on_accepted, is_accepted}
use Rattle.answer.proofs.Laws.Test.{not_both, not_accepted, passed, is_accepted_lem, on_accepted_lem, still_refused}
use Rattle.crc.specs.Crc.{crc, feed}
use Rattle.crc.specs.Parts.{turns}
use Rattle.crc.specs.Places.{flip}
use Rattle.crc.proofs.Laws.Flip.{flip_twice}
use Rattle.crc.proofs.Laws.Parity.{three_turned}
use Rattle.link.specs.Frame.{Frame, read_frame, read_body}
use Rattle.link.proofs.Laws.Remainder.{Fits, accepted_fits, refused_fits, frame_of_remainder_0, no_frame_else}
use Rattle.mending.specs.Mending.{flipped_at, makes_frame, place_from, place, Mended, mend_by, mend}
use Rattle.mending.specs.Claim.{Mends, Mending}
use Rattle.mending.proofs.Laws.Flips.{flipped_length, fits_flipped, fits_back, flipped_bytes, makes, remainder, remainder_of, one_place, only, right_has_none}
use Rattle.mending.proofs.Laws.Search.{found_from, none_from, accepted-from, refused-from}

abbrev pub flipping : List ℕ → ℕ → Mended
flipping s p = record { place = p; frame = flipped_at s p }

-- ---- the answer, by the frame reader's

module _ (s : List ℕ) where
  pub right_frame : (f : Frame) → read_frame s ≡ accepted f → mend s ≡ refused 8
  unfolding mend_by
  right_frame f e = ap (mend_by s) e

  pub other_refusal : (n : ℕ) → (n ≡ 5 → ⊥) → read_frame s ≡ refused n → mend s ≡ refused n
  unfolding mend_by
  other_refusal n other e = ap (mend_by s) e ∙ ap (λ (t : Bool). refuse_if (not t) n (on_accepted (flipping s) (place s))) (ne_eqb n 5 other)

  pub wrong_crc : read_frame s ≡ refused 5 → mend s ≡ on_accepted (flipping s) (place s)
  unfolding mend_by
  wrong_crc e = ap (mend_by s) e

  -- an answer that names a place, or is 5, comes of a wrong CRC
  by_answer : (o : Outcome Frame) → read_frame s ≡ o → (m : Mended) → mend_by s o ≡ accepted m → (read_frame s ≡ refused 5) × (on_accepted (flipping s) (place s) ≡ accepted m)
  unfolding mend_by
  by_answer (accepted f) e m a = absurd (not_accepted 8 m a)
  by_answer (refused n) e m a =
      let p = passed (not (eqb n 5)) n _ m a in
      let five : n ≡ 5 = eqb-true n 5 (not-false (eqb n 5) p.0) in
      (e ∙ ap refused five, p.1)

  by_five : (o : Outcome Frame) → read_frame s ≡ o → mend_by s o ≡ refused 5 → (read_frame s ≡ refused 5) × (place s ≡ refused 5)
  unfolding mend_by
  by_five (accepted f) e a = let z : ◌≡◌ {A = ℕ} 8 5 = cc in let no_way : ⊥ = omega arith in absurd no_way
  by_five (refused n) e a = go (eqb n 5) refl a
    where
      go : (t : Bool) → eqb n 5 ≡ t → refuse_if (not t) n (on_accepted (flipping s) (place s)) ≡ refused 5 → (read_frame s ≡ refused 5) × (place s ≡ refused 5)
      go true t b = (e ∙ ap refused (eqb-true n 5 t), still_refused (flipping s) (place s) 5 b)
      go false t b = let five : n ≡ 5 = cc in (e ∙ ap refused five, absurd (not_both (eq-eqb n 5 five) t))

-- ---- the places

-- a place that the search found mends, and one that mends makes a frame
module _ (s : List ℕ) where
  of_search : (p : ℕ) → 8 ≤ p → p < 8 + 8 * (length s - 2) → makes_frame s p ≡ true → Mends s p
  of_search p after inside e =
      let f = is_accepted_lem (read_frame (flipped_at s p)) e in
      record { after = after; inside = omega arith; frame = f.0; makes = f.1 }

  to_search : (p : ℕ) → Mends s p → (p < 8 + 8 * (length s - 2)) × (makes_frame s p ≡ true)
  to_search p m = (omega (arith, m.after, m.inside), ap is_accepted m.makes)

  place_found : (p : ℕ) → T (are_bytes s) → Mends s p → place s ≡ accepted p
  unfolding place
  place_found p bytes m =
      found_from s 8 (8 * (length s - 2)) p m.after (to_search p m).0 (to_search p m).1
      (λ r after inside e. only s r p bytes (of_search r after inside e) m)

  no_place_found : ((p : ℕ) → Mends s p → ⊥) → place s ≡ refused 5
  unfolding place
  no_place_found none = none_from s 8 (8 * (length s - 2)) (λ r after inside e. none r (of_search r after inside e))

  pub place_mends : (p : ℕ) → place s ≡ accepted p → Mends s p
  unfolding place
  place_mends p e = let found = accepted-from s 8 (8 * (length s - 2)) p e in of_search p found.0 found.1 found.2

  none_mends : place s ≡ refused 5 → (p : ℕ) → Mends s p → ⊥
  unfolding place
  none_mends e p m = refused-from s 8 (8 * (length s - 2)) 5 e p m.after (to_search p m).0 (to_search p m).1

  -- the CRC of a string that one flip makes a frame is wrong
  mends_wrong : (p : ℕ) → T (are_bytes s) → Mends s p → read_frame s ≡ refused 5
  mends_wrong p bytes m =
      let fits : Fits s = fits_back s p m.after (accepted_fits (flipped_at s p) m.frame m.makes) in
      no_frame_else s fits bytes
      (λ e. let f = frame_of_remainder_0 s fits bytes e in right_has_none s f.0 p bytes f.1 m)

-- ---- by the remainder, as the code finds it

-- what is refused for its CRC has as many bytes as a frame
pub damaged_size : (s : List ℕ) → read_frame s ≡ refused 5 → (5 ≤ length s) × (length s ≤ 69)
damaged_size s e =
    let fits : Fits s = refused_fits s e in
    (omega (arith, fits.some, fits.whole), omega (arith, fits.within, fits.whole))

module _ (s : List ℕ) (bytes : T (are_bytes s)) (wrong : read_frame s ≡ refused 5) where
  pub found : (p : ℕ) → 8 ≤ p → p < 8 * (length s - 1) → crc (drop 1 s) ≡ turns (8 * (length s - 1) - p) 1 → accepted p ≡ place s
  found p after inside e =
      let f = is_accepted_lem (read_frame (flipped_at s p)) (makes s p bytes inside (refused_fits s wrong) after e) in
      sym (place_found s p bytes (record { after = after; inside = inside; frame = f.0; makes = f.1 }))

  pub none_found : ((p : ℕ) → 8 ≤ p → p < 8 * (length s - 1) → crc (drop 1 s) ≡ turns (8 * (length s - 1) - p) 1 → ⊥) → refused 5 ≡ place s
  none_found none =
      sym (no_place_found s (λ p m. none p m.after m.inside (remainder_of s p bytes m.inside m.frame m.makes)))

-- ---- the claim

pub wrong_of_mended : (s : List ℕ) (m : Mended) → mend s ≡ accepted m → read_frame s ≡ refused 5
wrong_of_mended s m e = (by_answer s (read_frame s) refl m e).0

pub named : (s : List ℕ) (m : Mended) → mend s ≡ accepted m → Mends s m.place × (m.frame ≡ flipped_at s m.place)
named s m e =
    let a = by_answer s (read_frame s) refl m e in
    let p = on_accepted_lem (flipping s) (place s) m a.1 in
    let at : m.place ≡ p.0 = ap (λ (x : Mended). x.place) (sym p.2) in
    (place_mends s m.place (p.1 ∙ ap accepted (sym at)), ap (λ (x : Mended). x.frame) (sym p.2) ∙ ap (flipped_at s) (sym at))

mended : (s : List ℕ) (p : ℕ) → T (are_bytes s) → Mends s p → mend s ≡ accepted (record { place = p; frame = flipped_at s p })
mended s p bytes m = wrong_crc s (mends_wrong s p bytes m) ∙ ap (on_accepted (flipping s)) (place_found s p bytes m)

five : (s : List ℕ) → mend s ≡ refused 5 → (read_frame s ≡ refused 5) × ((p : ℕ) → Mends s p → ⊥)
five s e = let b = by_five s (read_frame s) refl e in (b.0, none_mends s b.1)

no_place : (s : List ℕ) → read_frame s ≡ refused 5 → ((p : ℕ) → Mends s p → ⊥) → mend s ≡ refused 5
no_place s e none = wrong_crc s e ∙ ap (on_accepted (flipping s)) (no_place_found s none)

-- ---- a frame with one bit flipped, and with two

module _ (t : List ℕ) (f : Frame) (bytes : T (are_bytes t)) (right : read_frame t ≡ accepted f) where
  back : (p : ℕ) → p < 8 * (length t - 1) → flipped_at (flipped_at t p) p ≡ t
  back p inside = flip_twice t (8 + p) (omega arith)

  still_inside : (p q : ℕ) → q < 8 * (length t - 1) → q < 8 * (length (flipped_at t p) - 1)
  still_inside p q inside = omega (arith, flipped_length t p)

  -- the flipped place mends
  mends_back : (p : ℕ) → 8 ≤ p → p < 8 * (length t - 1) → Mends (flipped_at t p) p
  mends_back p after inside =
      record { after = after; inside = still_inside p p inside; frame = f; makes = ap read_frame (back p inside) ∙ right }

  comes_back : (p : ℕ) → 8 ≤ p → p < 8 * (length t - 1) → mend (flipped_at t p) ≡ accepted (record { place = p; frame = t })
  comes_back p after inside =
      mended (flipped_at t p) p (flipped_bytes t p bytes inside) (mends_back p after inside)
      ∙ ap (λ (s : List ℕ). accepted (record { place = p; frame = s })) (back p inside)

  module _ (p q : ℕ) (after-p : 8 ≤ p) (inside-p : p < 8 * (length t - 1)) (after-q : 8 ≤ q) (inside-q : q < 8 * (length t - 1)) where
    abbrev once : List ℕ
    once = flipped_at t p

    abbrev twice : List ℕ
    twice = flipped_at once q

    once_bytes : T (are_bytes once)
    once_bytes = flipped_bytes t p bytes inside-p

    twice_bytes : T (are_bytes twice)
    twice_bytes = flipped_bytes once q once_bytes (still_inside p q inside-q)

    -- another place would mend the string with one flip
    twice_wrong : (p ≡ q → ⊥) → read_frame twice ≡ refused 5
    twice_wrong other =
        let fits : Fits twice = fits_flipped once q after-q (fits_flipped t p after-p (accepted_fits t f right)) in
        no_frame_else twice fits twice_bytes
        (λ none_left.
        let g = frame_of_remainder_0 twice fits twice_bytes none_left in
        other (only once p q once_bytes (mends_back p after-p inside-p)
        (record { after = after-q; inside = still_inside p q inside-q; frame = g.0; makes = g.1 })))

    -- the remainders of two flips are not that of one
    twice_none : (r : ℕ) → Mends twice r → ⊥
    twice_none r m =
        three_turned (8 * (length once - 1) - p) (8 * (length once - 1) - q) (8 * (length twice - 1) - r)
        (ap (λ (n : ℕ). bit_xor n (turns (8 * (length once - 1) - q) 1))
        (sym (remainder_of once p once_bytes (still_inside p p inside-p) f (ap read_frame (back p inside-p) ∙ right)))
        ∙ sym (remainder once q once_bytes (still_inside p q inside-q))
        ∙ remainder_of twice r twice_bytes m.inside m.frame m.makes)

    two_flips : (p ≡ q → ⊥) → mend twice ≡ refused 5
    two_flips other = no_place twice (twice_wrong other) twice_none

pub mending : Mending
unfolding read_frame read_body crc feed flip place_from place mend_by xor
mending =
    record {
      one_place = one_place;
      only = only;
      right_has_none = right_has_none;
      named = named;
      mended = mended;
      five = five;
      no_place = no_place;
      comes_back = λ t f p bytes right after inside. comes_back t f bytes right p after inside;
      two_flips = λ t f p q bytes right after-p inside-p after-q inside-q other. two_flips t f bytes right p q after-p inside-p after-q inside-q other;
      example = refl;
    }
