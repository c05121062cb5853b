-- What is written reads back as the same frame, and what is read writes back to the same bytes. Assumes nothing.
use mathlib.Core.Path.{◌≡◌, refl, sym, ap, ap₂, ◌∙◌}
use mathlib.Core.List.{List, [], ◌∷◌, ◌++◌}
use Prim.Native.Nat.{ℕ, suc, ◌+◌, ◌-◌, ◌*◌, ◌/◌, ◌%◌, ◌<◌, ◌≤◌}
use native.Mathlib.Omega.{arith}
use lib.Dec.{T, ltb}
use lib.ListN.{length, get_or, take, drop}
use lib.Pow.{are_bytes}
use lib.Seq.{take_at, get_or_at, get_or-append-add}
use borrow.Author.Tests.{eq-eqb, ltb-false, le-ltb}
use Rattle.answer.specs.Answer.{accepted, on_accepted}
use Rattle.answer.proofs.Laws.Test.{passed}
use Rattle.crc.specs.Crc.{crc}
use Rattle.crc.proofs.Laws.Bits.{byte_at}
use Rattle.link.specs.Frame.{Frame, covered, sent, read_frame, body, frame_bytes, write_frame}
use Rattle.link.proofs.Laws.Ladder.{by_length, whole_frame, frame-length}
use Rattle.link.proofs.Laws.Whole.{Whole, whole, shape, from_start, few, covers}

module _ (kind : ℕ) (d : List ℕ) where
  carried : sent (frame_bytes kind d) (length d + 1) ≡ crc (body kind d)
  unfolding frame_bytes
  carried =
      let i : length d + 1 + 2 ≡ suc (suc (suc (length d))) = omega arith in
      let j : length d + 1 + 3 ≡ suc (suc (suc (length d + 1))) = omega arith in
      let c = crc (body kind d) in
      let tail = c % 256 ∷ c / 256 ∷ [] in
      ap₂ (λ (x y : ℕ). x + 256 * y)
      (ap (λ (k : ℕ). get_or (frame_bytes kind d) k 0) i ∙ get_or_at d (c % 256) (c / 256 ∷ []) 0 (length d) refl)
      (ap (λ (k : ℕ). get_or (frame_bytes kind d) k 0) j ∙ get_or-append-add d tail 1 0)
      ∙ omega arith

  covered-body : covered (frame_bytes kind d) (length d + 1) ≡ body kind d
  unfolding frame_bytes
  covered-body =
      let n : length (body kind d) ≡ length d + 1 + 1 = omega arith in
      take_at (body kind d) _ (length d + 1 + 1) n

  data_back : take (length d + 1 - 1) (drop 3 (frame_bytes kind d)) ≡ d
  unfolding frame_bytes
  data_back =
      let n : length d ≡ length d + 1 - 1 = omega arith in
      take_at d _ (length d + 1 - 1) n

  reads_back : length d ≤ 64 → read_frame (frame_bytes kind d) ≡ accepted (record { kind = kind; bytes = d })
  unfolding frame_bytes
  reads_back small =
      let s = frame_bytes kind d in
      let n : length s ≡ length d + 5 = frame-length kind d in
      let same : sent s (length d + 1) ≡ crc (covered s (length d + 1)) = carried ∙ ap crc (sym covered-body) in
      by_length s (omega arith) refl (omega arith)
      ∙ whole_frame s (length d + 1) (omega arith) (omega arith) (omega arith) (omega arith) (eq-eqb _ _ same)
      ∙ ap (λ (b : List ℕ). accepted (record { kind = kind; bytes = b })) data_back

-- what is written reads back as the same frame
pub read_after_write : (kind : ℕ) (d s : List ℕ) → write_frame kind d ≡ accepted s
    → read_frame s ≡ accepted (record { kind = kind; bytes = d })
unfolding write_frame
read_after_write kind d s e =
    let p = passed (ltb 64 (length d)) 3 _ s e in
    let written : frame_bytes kind d ≡ s = cc p.1 in
    ap read_frame (sym written) ∙ reads_back kind d (ltb-false 64 (length d) p.0)

-- the CRC bytes that a writer puts are those that were read
crc_bytes : (s : List ℕ) (f : Frame) → T (are_bytes s) → read_frame s ≡ accepted f → frame_bytes f.kind f.bytes ≡ s
unfolding frame_bytes
crc_bytes s f t e =
    let w : Whole s f = whole s f e in
    let lo = get_or s (get_or s 1 0 + 2) 0 in
    let hi = get_or s (get_or s 1 0 + 3) 0 in
    let low : lo < 256 = byte_at s t (get_or s 1 0 + 2) in
    let c : crc (body f.kind f.bytes) ≡ lo + 256 * hi = ap crc (sym (covers s f e)) ∙ sym w.checked in
    let first : crc (body f.kind f.bytes) % 256 ≡ lo = omega arith in
    let second : crc (body f.kind f.bytes) / 256 ≡ hi = omega arith in
    ap₂ (λ (x y : ℕ). 0x5A ∷ (body f.kind f.bytes ++ (x ∷ y ∷ []))) first second
    ∙ ap {B = List ℕ} (λ r. 0x5A ∷ r) (sym (shape s f w))
    ∙ sym (from_start s w.start)

-- what is read writes back to the same bytes
pub write_after_read : (s : List ℕ) (f : Frame) → T (are_bytes s) → read_frame s ≡ accepted f
    → write_frame f.kind f.bytes ≡ accepted s
unfolding write_frame
write_after_read s f t e =
    simp (le-ltb 64 (length f.bytes) (few s f e)) (ap accepted (crc_bytes s f t e))

-- up to 64 data bytes are written, and 5 bytes besides
pub size_written : (kind : ℕ) (d : List ℕ) → length d ≤ 64 → on_accepted length (write_frame kind d) ≡ accepted (length d + 5)
unfolding write_frame
size_written kind d small = simp (le-ltb 64 (length d) small) (ap accepted (frame-length kind d))
