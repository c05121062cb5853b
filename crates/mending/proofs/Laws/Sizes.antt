-- How large a place and a frame can be, and a room that is always enough. Assumes nothing.
use mathlib.Core.Path.{◌≡◌, refl, sym, ap, ◌∙◌}
use mathlib.Core.List.{List}
use Prim.Native.Nat.{ℕ, ◌<◌, ◌≤◌}
use native.Mathlib.Omega.{arith}
use lib.ListN.{length}
use Rattle.answer.specs.Answer.{Outcome, refused, accepted}
use Rattle.mending.specs.Claim.{Mends}
use Rattle.mending.specs.Mending.{Mended, mend, mend_in_room}
use Rattle.mending.proofs.Laws.Flips.{flipped_length}
use Rattle.mending.proofs.Laws.Mending.{named, wrong_of_mended, damaged_size}
use Rattle.mending.proofs.Laws.Written.{refused_in_any_room, has_room}

module _ (s : List ℕ) (m : Mended) (e : mend s ≡ accepted m) where
  same_size : length m.frame ≡ length s
  same_size = ap length (named s m e).1 ∙ flipped_length s m.place

  pub frame-size : (5 ≤ length m.frame) × (length m.frame ≤ 69)
  frame-size =
      let size = damaged_size s (wrong_of_mended s m e) in
      (omega (arith, same_size, size.0), omega (arith, same_size, size.1))

  pub small_place : m.place < 544
  small_place =
      let size = damaged_size s (wrong_of_mended s m e) in
      let there : Mends s m.place = (named s m e).0 in
      omega (arith, size.1, there.inside)

-- 69 bytes are room enough
pub enough : (s : List ℕ) (room : ℕ) → 69 ≤ room → mend_in_room room s ≡ mend s
enough s room h = by (mend s) refl
  where
    by : (o : Outcome Mended) → mend s ≡ o → mend_in_room room s ≡ mend s
    by (refused n) e = refused_in_any_room s room n e ∙ sym e
    by (accepted m) e =
        let size = frame-size s m e in
        has_room s room m e (omega (arith, size.1)) ∙ sym e
