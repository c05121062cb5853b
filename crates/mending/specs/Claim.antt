-- Document 02, K8: what holds of mending, for all byte strings.
use Rattle.std.specs.Prelude.{ℕ, ◌-◌, ◌*◌, ◌<◌, ◌≤◌, ◌≡◌, List, [], ◌∷◌, T, length, get_or}
use Rattle.std.proofs.Math.Pow.{are_bytes}
use Rattle.answer.specs.Answer.{refused, accepted}
use Rattle.link.specs.Distance.{differing}
use Rattle.link.specs.Frame.{Frame, read_frame}
use Rattle.mending.specs.Mending.{flipped_at, Mended, mend}

-- a place after the length byte whose flip makes a frame
pub record Mends (s : List ℕ) (p : ℕ) : Type 0 where
  pub after : 8 ≤ p
  pub inside : p < 8 * (length s - 1)
  pub frame : Frame
  pub makes : read_frame (flipped_at s p) ≡ accepted frame

pub record Mending : Type 0 where
  -- the flip changes that place, counted as in condition 3, and no other: the start byte, before place 0, and the number of bytes stay
  pub one_place : (s : List ℕ) (p : ℕ) → T (are_bytes s) → p < 8 * (length s - 1)
      → (differing s (flipped_at s p) ≡ p ∷ []) × (get_or (flipped_at s p) 0 0 ≡ get_or s 0 0) × (length (flipped_at s p) ≡ length s)
  -- condition 3 makes the place the only one, and an already right frame has none
  pub only : (s : List ℕ) (p q : ℕ) → T (are_bytes s) → Mends s p → Mends s q → p ≡ q
  pub right_has_none : (s : List ℕ) (f : Frame) (p : ℕ) → T (are_bytes s) → read_frame s ≡ accepted f → Mends s p → ⊥
  -- what is named is that place, and what is written is the frame with that bit flipped
  pub named : (s : List ℕ) (m : Mended) → mend s ≡ accepted m → Mends s m.place × (m.frame ≡ flipped_at s m.place)
  pub mended : (s : List ℕ) (p : ℕ) → T (are_bytes s) → Mends s p → mend s ≡ accepted (record { place = p; frame = flipped_at s p })
  -- 5 exactly where the CRC is wrong and no place mends
  pub five : (s : List ℕ) → mend s ≡ refused 5 → (read_frame s ≡ refused 5) × ((p : ℕ) → Mends s p → ⊥)
  pub no_place : (s : List ℕ) → read_frame s ≡ refused 5 → ((p : ℕ) → Mends s p → ⊥) → mend s ≡ refused 5
  -- a frame with one such bit flipped comes back; with two none does
  pub comes_back : (t : List ℕ) (f : Frame) (p : ℕ) → T (are_bytes t) → read_frame t ≡ accepted f → 8 ≤ p → p < 8 * (length t - 1)
      → mend (flipped_at t p) ≡ accepted (record { place = p; frame = t })
  pub two_flips : (t : List ℕ) (f : Frame) (p q : ℕ) → T (are_bytes t) → read_frame t ≡ accepted f → 8 ≤ p → p < 8 * (length t - 1)
      → 8 ≤ q → q < 8 * (length t - 1) → (p ≡ q → ⊥) → mend (flipped_at (flipped_at t p) q) ≡ refused 5
  -- K8's example
  pub example : mend (0x5A ∷ 0x01 ∷ 0x05 ∷ 0xC1 ∷ 0x92 ∷ []) ≡ accepted (record { place = 24; frame = 0x5A ∷ 0x01 ∷ 0x05 ∷ 0xC1 ∷ 0x93 ∷ [] })
