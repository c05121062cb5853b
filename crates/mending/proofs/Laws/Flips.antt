-- Which flip makes a frame, by the remainder; that it is the only one, from condition 3. Assumes nothing.
use mathlib.Core.Path.{◌≡◌, refl, sym, ap, ◌∙◌}
use mathlib.Core.Bool.{Bool, true, false}
use mathlib.Core.List.{List, [], ◌∷◌}
use Prim.Native.Nat.{ℕ, ◌+◌, ◌-◌, ◌*◌, ◌<◌, ◌≤◌}
use native.Mathlib.Omega.{arith}
use lib.Bits.{bit_xor, xor_self}
use lib.Dec.{T, eqb}
use lib.ListN.{length, get_or, drop, length-drop}
use lib.Pow.{are_bytes}
use borrow.Author.Tests.{eqb-true, eqb-false}
use Rattle.answer.specs.Answer.{accepted, is_accepted}
use Rattle.crc.specs.Bits.{bit_string}
use Rattle.crc.specs.Crc.{crc}
use Rattle.crc.specs.Parts.{turns}
use Rattle.crc.specs.Places.{differences, places, first, flip, Apart}
use Rattle.crc.proofs.Laws.Bits.{bit_string-length, drop_bytes}
use Rattle.crc.proofs.Laws.Flip.{flip-behind, flip_empty, flip_elsewhere, flip-length, flip_bytes, flip_remainder, flip-place, no_place, triangle}
use Rattle.crc.proofs.Laws.Xor.{xor_zero}
use Rattle.link.specs.Distance.{differing}
use Rattle.link.specs.Frame.{Frame, read_frame}
use Rattle.link.proofs.Laws.Distance.{condition_3}
use Rattle.link.proofs.Laws.Remainder.{Fits, frame_of_remainder_0, remainder_0}
use Rattle.mending.specs.Mending.{flipped_at, makes_frame}
use Rattle.mending.specs.Claim.{Mends}

-- ---- what a flip leaves as it was

pub flipped_length : (s : List ℕ) (p : ℕ) → length (flipped_at s p) ≡ length s
flipped_length s p = flip-length s (8 + p)

-- all behind the start byte has the flip where it counts the place
behind : (s : List ℕ) (p : ℕ) → drop 1 (flipped_at s p) ≡ flip (drop 1 s) p
behind [] p = ap (drop 1) (flip_empty (8 + p)) ∙ sym (flip_empty p)
behind (a ∷ s) p = ap (drop 1) (flip-behind a s p)

same_fits : {s t : List ℕ} → get_or t 0 0 ≡ get_or s 0 0 → get_or t 1 0 ≡ get_or s 1 0 → length t ≡ length s → Fits s → Fits t
same_fits {s} {t} start size count fits =
    record {
      start = start ∙ fits.start;
      some = λ e. fits.some (sym size ∙ e);
      within = omega (arith, fits.within);
      whole = omega (arith, fits.whole);
    }

start_kept : (s : List ℕ) (p : ℕ) → get_or (flipped_at s p) 0 0 ≡ get_or s 0 0
start_kept s p = flip_elsewhere s (8 + p) 0 (λ e. omega arith)

module _ (s : List ℕ) (p : ℕ) (after : 8 ≤ p) where
  size-kept : get_or (flipped_at s p) 1 0 ≡ get_or s 1 0
  size-kept = flip_elsewhere s (8 + p) 1 (λ e. omega arith)

  pub fits_flipped : Fits s → Fits (flipped_at s p)
  fits_flipped = same_fits (start_kept s p) size-kept (flipped_length s p)

  pub fits_back : Fits (flipped_at s p) → Fits s
  fits_back = same_fits (sym (start_kept s p)) (sym size-kept) (sym (flipped_length s p))

-- ---- the remainder tells the place

module _ (s : List ℕ) (p : ℕ) (bytes : T (are_bytes s)) (inside : p < 8 * (length s - 1)) where
  count : length (drop 1 s) ≡ length s - 1
  count = length-drop 1 s

  pub flipped_bytes : T (are_bytes (flipped_at s p))
  flipped_bytes = flip_bytes s (8 + p) bytes (omega arith)

  pub remainder : crc (drop 1 (flipped_at s p)) ≡ bit_xor (crc (drop 1 s)) (turns (8 * (length s - 1) - p) 1)
  remainder =
      ap crc (behind s p)
      ∙ flip_remainder (drop 1 s) p (drop_bytes 1 s bytes) (omega (arith, count))
      ∙ ap (λ (n : ℕ). bit_xor (crc (drop 1 s)) (turns (8 * n - p) 1)) count

  pub makes : Fits s → 8 ≤ p → crc (drop 1 s) ≡ turns (8 * (length s - 1) - p) 1 → makes_frame s p ≡ true
  makes fits after e =
      let r = turns (8 * (length s - 1) - p) 1 in
      let none_left : crc (drop 1 (flipped_at s p)) ≡ 0 = remainder ∙ ap (λ (n : ℕ). bit_xor n r) e ∙ xor_self r in
      ap is_accepted (frame_of_remainder_0 (flipped_at s p) (fits_flipped s p after fits) flipped_bytes none_left).1

  pub remainder_of : (f : Frame) → read_frame (flipped_at s p) ≡ accepted f → crc (drop 1 s) ≡ turns (8 * (length s - 1) - p) 1
  remainder_of f e = xor_zero (crc (drop 1 s)) (turns (8 * (length s - 1) - p) 1) (sym remainder ∙ remainder_0 (flipped_at s p) f flipped_bytes e)

  -- the flip differs at the place alone
  at_place : differing s (flipped_at s p) ≡ p ∷ []
  at_place =
      ap (λ (t : List ℕ). places 0 (differences (bit_string (drop 1 s)) (bit_string t))) (behind s p)
      ∙ flip-place (drop 1 s) p (drop_bytes 1 s bytes) (omega (arith, count))

  pub one_place : (differing s (flipped_at s p) ≡ p ∷ []) × (get_or (flipped_at s p) 0 0 ≡ get_or s 0 0) × (length (flipped_at s p) ≡ length s)
  one_place = (at_place, start_kept s p, flipped_length s p)

-- ---- the only place

bits-behind : (s : List ℕ) → length (bit_string (drop 1 s)) ≡ 8 * (length s - 1)
bits-behind s = bit_string-length (drop 1 s) ∙ ap (λ (n : ℕ). 8 * n) (length-drop 1 s)

bits_flipped : (s : List ℕ) (p : ℕ) → length (bit_string (drop 1 (flipped_at s p))) ≡ length (bit_string (drop 1 s))
bits_flipped s p = bits-behind (flipped_at s p) ∙ ap (λ (n : ℕ). 8 * (n - 1)) (flipped_length s p) ∙ sym (bits-behind s)

-- two flips differ at no more than two places, and frames at four
pub only : (s : List ℕ) (p q : ℕ) → T (are_bytes s) → Mends s p → Mends s q → p ≡ q
only s p q bytes m n = by (eqb p q) refl
  where
    t : List ℕ
    t = flipped_at s p

    u : List ℕ
    u = flipped_at s q

    at_p : differing s t ≡ p ∷ []
    at_p = at_place s p bytes m.inside

    at_q : differing s u ≡ q ∷ []
    at_q = at_place s q bytes n.inside

    few : length (differing t u) ≤ 2
    few =
        let h = triangle 0 (bit_string (drop 1 t)) (bit_string (drop 1 s)) (bit_string (drop 1 u)) (bits_flipped s p) (bits_flipped s q) in
        omega (arith, h, ap length at_p, ap length at_q)

    by : (same : Bool) → eqb p q ≡ same → p ≡ q
    by true e = eqb-true p q e
    by false e =
        let different : t ≡ u → ⊥ = λ e₁. eqb-false p q e (ap first (sym at_p ∙ ap (differing s) e₁ ∙ at_q)) in
        let far : Apart (differing t u) =
        condition_3.apart t u m.frame n.frame (flipped_bytes s p bytes m.inside) (flipped_bytes s q bytes n.inside) m.makes n.makes
        (flipped_length s p ∙ sym (flipped_length s q)) different in
        let z : ⊥ = omega (arith, few, far.four) in absurd z

-- an already right frame and one of its flips differ at one place
pub right_has_none : (s : List ℕ) (f : Frame) (p : ℕ) → T (are_bytes s) → read_frame s ≡ accepted f → Mends s p → ⊥
right_has_none s f p bytes e m =
    let at_p : differing s (flipped_at s p) ≡ p ∷ [] = at_place s p bytes m.inside in
    let different : s ≡ flipped_at s p → ⊥ =
    λ (same : s ≡ flipped_at s p). omega (arith, ap length at_p, ap (λ (t : List ℕ). length (differing s t)) same, ap length (no_place 0 (bit_string (drop 1 s)))) in
    let far : Apart (differing s (flipped_at s p)) =
    condition_3.apart s (flipped_at s p) f m.frame bytes (flipped_bytes s p bytes m.inside) e m.makes (sym (flipped_length s p)) different in
    omega (arith, ap length at_p, far.four)
