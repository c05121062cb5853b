-- Condition 3 holds. Assumes nothing.
use mathlib.Core.Path.{◌≡◌, refl, sym, ap, ◌∙◌}
use mathlib.Core.Bool.{xor}
use mathlib.Core.List.{List, ◌∷◌}
use Prim.Native.Nat.{ℕ, ◌+◌, ◌*◌, ◌≤◌}
use native.Mathlib.Omega.{arith}
use lib.Dec.{T}
use lib.ListN.{length, get_or, drop, length-drop}
use lib.Pow.{are_bytes}
use Rattle.answer.specs.Answer.{accepted}
use Rattle.crc.specs.Bits.{bit_string}
use Rattle.crc.specs.Crc.{crc, feed}
use Rattle.crc.specs.Places.{Apart}
use Rattle.crc.proofs.Laws.Bits.{bit_string-length, byte_at, drop_bytes}
use Rattle.crc.proofs.Laws.Distance.{apart, residue, same_bytes}
use Rattle.link.specs.Frame.{Frame, read_frame, read_body, body}
use Rattle.link.specs.Distance.{differing, Condition3}
use Rattle.link.proofs.Laws.Whole.{Whole, whole, shape, from_start, covers}

-- the CRC register takes an accepted frame to 0
module _ (s : List ℕ) (f : Frame) (bytes : T (are_bytes s)) (e : read_frame s ≡ accepted f) where
  pub taken : feed 0 (bit_string (drop 1 s)) ≡ 0
  taken =
      let w : Whole s f = whole s f e in
      ap (λ (t : List ℕ). feed 0 (bit_string t)) (shape s f w)
      ∙ residue (body f.kind f.bytes) _ _ (byte_at s bytes (get_or s 1 0 + 2)) (byte_at s bytes (get_or s 1 0 + 3))
      (w.checked ∙ ap crc (covers s f e))

  size : length (bit_string (drop 1 s)) ≡ 8 * length (drop 1 s)
  size = bit_string-length (drop 1 s)

  short : length (bit_string (drop 1 s)) ≤ 544
  short =
      let w : Whole s f = whole s f e in
      let n : length (drop 1 s) ≡ get_or s 1 0 + 3 = simp length-drop (omega (arith, w.whole)) in
      omega (arith, size, w.within)

frames_apart : (s t : List ℕ) (f g : Frame) → T (are_bytes s) → T (are_bytes t) → read_frame s ≡ accepted f → read_frame t ≡ accepted g
    → length s ≡ length t → (s ≡ t → ⊥) → Apart (differing s t)
frames_apart s t f g bs bt es et equal other =
    let tails : length (drop 1 s) ≡ length (drop 1 t) = simp length-drop (omega arith) in
    let bits : length (bit_string (drop 1 s)) ≡ length (bit_string (drop 1 t)) =
    bit_string-length (drop 1 s) ∙ ap (λ (n : ℕ). 8 * n) tails ∙ sym (bit_string-length (drop 1 t)) in
    apart (bit_string (drop 1 s)) (bit_string (drop 1 t)) bits (short s f bs es) (taken s f bs es) (taken t g bt et)
    (λ same. other
    (from_start s (whole s f es).start
    ∙ ap {B = List ℕ} (λ r. 0x5A ∷ r) (same_bytes (drop 1 s) (drop 1 t) (drop_bytes 1 s bs) (drop_bytes 1 t bt) tails same)
    ∙ sym (from_start t (whole t g et).start)))

pub condition_3 : Condition3
unfolding read_frame read_body crc feed xor
condition_3 = record { apart = frames_apart; first_accepted = refl; second_accepted = refl; sharp = refl }
