-- Byte strings whose start and length byte fit: a frame where the CRC of all behind the start byte is 0, else 5. Assumes nothing.
use mathlib.Core.Path.{◌≡◌, sym, ap, ap₂, ◌∙◌}
use mathlib.Core.Bool.{not}
use mathlib.Core.List.{List, [], ◌∷◌, ◌++◌}
use Prim.Native.Nat.{ℕ, suc, ◌+◌, ◌-◌, ◌≤◌}
use native.Mathlib.Omega.{arith}
use lib.Dec.{T, eqb, ltb}
use lib.ListN.{length, get_or, take, drop, length-drop}
use lib.Pow.{are_bytes}
use lib.Seq.{get_or-drop}
use borrow.Author.Tests.{eqb-true, eqb-false, ltb-false, not-false, eq-eqb, ne_eqb}
use Rattle.answer.specs.Answer.{refused, accepted}
use Rattle.answer.proofs.Laws.Test.{passed_over}
use Rattle.crc.specs.Bits.{bit_string}
use Rattle.crc.specs.Crc.{crc, feed}
use Rattle.crc.proofs.Laws.Bits.{byte_at}
use Rattle.crc.proofs.Laws.Distance.{residue, residue_only}
use Rattle.link.specs.Frame.{Frame, covered, sent, read_body, read_frame}
use Rattle.link.proofs.Laws.Distance.{taken}
use Rattle.link.proofs.Laws.Ladder.{by_length, wrong_crc, whole_frame}
use Rattle.link.proofs.Laws.Whole.{Whole, whole, two_left}

-- the start byte is right, and the length byte is in its range and fits the number of bytes
pub record Fits (s : List ℕ) : Type 0 where
  pub start : get_or s 0 0 ≡ 0x5A
  pub some : get_or s 1 0 ≡ 0 → ⊥
  pub within : get_or s 1 0 ≤ 0x41
  pub whole : length s ≡ get_or s 1 0 + 4

-- so of a frame, and of what is refused for its CRC
pub accepted_fits : (s : List ℕ) (f : Frame) → read_frame s ≡ accepted f → Fits s
accepted_fits s f e =
    let w : Whole s f = whole s f e in
    record { start = w.start; some = w.some; within = w.within; whole = w.whole }

pub refused_fits : (s : List ℕ) → read_frame s ≡ refused 5 → Fits s
unfolding read_frame read_body
refused_fits s e =
    let l = get_or s 1 0 in
    let p₁ = passed_over (eqb (length s) 0) 1 5 _ (omega arith) e in
    let p₂ = passed_over (not (eqb (get_or s 0 0) 0x5A)) 2 5 _ (omega arith) p₁.1 in
    let p₃ = passed_over (eqb (length s) 1) 1 5 _ (omega arith) p₂.1 in
    let p₄ = passed_over (eqb l 0) 3 5 _ (omega arith) p₃.1 in
    let p₅ = passed_over (ltb 0x41 l) 3 5 _ (omega arith) p₄.1 in
    let p₆ = passed_over (ltb (length s) (l + 4)) 1 5 _ (omega arith) p₅.1 in
    let p₇ = passed_over (ltb (l + 4) (length s)) 4 5 _ (omega arith) p₆.1 in
    let enough : l + 4 ≤ length s = ltb-false (length s) (l + 4) p₆.0 in
    let no_more : length s ≤ l + 4 = ltb-false (l + 4) (length s) p₇.0 in
    record {
      start = eqb-true (get_or s 0 0) 0x5A (not-false (eqb (get_or s 0 0) 0x5A) p₂.0);
      some = eqb-false l 0 p₄.0;
      within = ltb-false 0x41 l p₅.0;
      whole = omega arith;
    }

module _ (s : List ℕ) (fits : Fits s) (bytes : T (are_bytes s)) where
  abbrev l : ℕ
  l = get_or s 1 0

  -- all behind the start byte: what the CRC covers, and the two bytes of the CRC
  behind_start : drop 1 s ≡ covered s l ++ (get_or s (l + 2) 0 ∷ get_or s (l + 3) 0 ∷ [])
  behind_start =
      let size : length (drop 1 s) ≡ (l + 1) + 2 = simp length-drop (omega (arith, fits.whole)) in
      let i : 1 + (l + 1) ≡ l + 2 = omega arith in
      let j : 1 + suc (l + 1) ≡ l + 3 = omega arith in
      two_left (l + 1) (drop 1 s) size
      ∙ ap₂ (λ (lo hi : ℕ). covered s l ++ (lo ∷ hi ∷ []))
      (get_or-drop 1 s (l + 1) 0 ∙ ap (λ (n : ℕ). get_or s n 0) i)
      (get_or-drop 1 s (suc (l + 1)) 0 ∙ ap (λ (n : ℕ). get_or s n 0) j)

  checks : read_frame s ≡ read_body s l
  checks = by_length s (omega (arith, fits.whole)) fits.start (omega (arith, fits.whole))

  pub frame_of_remainder_0 : crc (drop 1 s) ≡ 0 → (f : Frame) × (read_frame s ≡ accepted f)
  unfolding crc
  frame_of_remainder_0 e =
      let right : sent s l ≡ crc (covered s l) =
      residue_only (covered s l) _ _ (byte_at s bytes (l + 2)) (byte_at s bytes (l + 3))
      (ap (λ (t : List ℕ). feed 0 (bit_string t)) (sym behind_start) ∙ e) in (
        record { kind = get_or s 2 0; bytes = take (l - 1) (drop 3 s) },
        checks
            ∙ whole_frame s l fits.some fits.within (omega (arith, fits.whole)) (omega (arith, fits.whole)) (eq-eqb _ _ right),
      )

  pub no_frame_else : (crc (drop 1 s) ≡ 0 → ⊥) → read_frame s ≡ refused 5
  unfolding crc
  no_frame_else other =
      checks
      ∙ wrong_crc s l fits.some fits.within (omega (arith, fits.whole)) (omega (arith, fits.whole))
      (ne_eqb _ _
      (λ right. other
      (ap (λ (t : List ℕ). feed 0 (bit_string t)) behind_start
      ∙ residue (covered s l) _ _ (byte_at s bytes (l + 2)) (byte_at s bytes (l + 3)) right)))

-- the CRC of all behind the start byte of a frame is 0
pub remainder_0 : (s : List ℕ) (f : Frame) → T (are_bytes s) → read_frame s ≡ accepted f → crc (drop 1 s) ≡ 0
unfolding crc
remainder_0 s f bytes e = taken s f bytes e
