-- What the reader's acceptance says about the bytes. Assumes nothing.
use mathlib.Core.Path.{◌≡◌, refl, sym, ap, ap₂, subst⁻¹, ◌∙◌}
use mathlib.Core.Bool.{Bool, not, cond}
use mathlib.Core.List.{List, [], ◌∷◌, ◌++◌}
use Prim.Native.Nat.{ℕ, zero, suc, ◌+◌, ◌-◌, ◌≤◌}
use native.Mathlib.Omega.{arith}
use lib.Dec.{T, eqb, ltb}
use lib.ListN.{length, get_or, take, drop, length-take, length-drop}
use lib.Pow.{are_bytes}
use lib.Seq.{take_at}
use borrow.Author.Tests.{eqb-true, eqb-false, ltb-false, not-false, le-leb}
use Rattle.answer.specs.Answer.{accepted}
use Rattle.answer.proofs.Laws.Test.{passed}
use Rattle.crc.specs.Crc.{crc}
use Rattle.crc.proofs.Laws.Bits.{take_bytes, drop_bytes}
use Rattle.link.specs.Frame.{Frame, covered, sent, read_body, read_frame, body, data_part}

-- the facts behind an accepted frame
pub record Whole (s : List ℕ) (f : Frame) : Type 0 where
  pub start : get_or s 0 0 ≡ 0x5A
  pub some : get_or s 1 0 ≡ 0 → ⊥
  pub within : get_or s 1 0 ≤ 0x41
  pub whole : length s ≡ get_or s 1 0 + 4
  pub checked : sent s (get_or s 1 0) ≡ crc (covered s (get_or s 1 0))
  pub is : f ≡ record { kind = get_or s 2 0; bytes = take (get_or s 1 0 - 1) (drop 3 s) }

pub whole : (s : List ℕ) (f : Frame) → read_frame s ≡ accepted f → Whole s f
unfolding read_frame read_body
whole s f e =
    let l = get_or s 1 0 in
    let p₁ = passed (eqb (length s) 0) 1 _ f e in
    let p₂ = passed (not (eqb (get_or s 0 0) 0x5A)) 2 _ f p₁.1 in
    let p₃ = passed (eqb (length s) 1) 1 _ f p₂.1 in
    let p₄ = passed (eqb l 0) 3 _ f p₃.1 in
    let p₅ = passed (ltb 0x41 l) 3 _ f p₄.1 in
    let p₆ = passed (ltb (length s) (l + 4)) 1 _ f p₅.1 in
    let p₇ = passed (ltb (l + 4) (length s)) 4 _ f p₆.1 in
    let p₈ = passed (not (eqb (sent s l) (crc (covered s l)))) 5 _ f p₇.1 in
    let enough : l + 4 ≤ length s = ltb-false (length s) (l + 4) p₆.0 in
    let no_more : length s ≤ l + 4 = ltb-false (l + 4) (length s) p₇.0 in
    record {
      start = eqb-true (get_or s 0 0) 0x5A (not-false (eqb (get_or s 0 0) 0x5A) p₂.0);
      some = eqb-false l 0 p₄.0;
      within = ltb-false 0x41 l p₅.0;
      whole = omega arith;
      checked = eqb-true (sent s l) (crc (covered s l)) (not-false (eqb (sent s l) (crc (covered s l))) p₈.0);
      is = cc p₈.1;
    }

-- a list of two more than n elements ends in those two
pub two_left : (n : ℕ) (r : List ℕ) → length r ≡ n + 2 → r ≡ take n r ++ (get_or r n 0 ∷ get_or r (suc n) 0 ∷ [])
two_left n [] e = let z : ⊥ = omega arith in absurd z
two_left zero (x ∷ []) e = let z : ⊥ = omega arith in absurd z
two_left zero (x ∷ y ∷ []) e = refl
two_left zero (x ∷ y ∷ z ∷ r) e = let z : ⊥ = omega arith in absurd z
two_left (suc n) (x ∷ r) e = ap {B = List ℕ} (λ t. x ∷ t) (two_left n r (omega arith))

-- an accepted frame, part by part
parts : (a l t : ℕ) (r : List ℕ) → (l ≡ 0 → ⊥) → length r + 3 ≡ l + 4
    → l ∷ t ∷ r ≡ body t (take (l - 1) r) ++ (get_or (a ∷ l ∷ t ∷ r) (l + 2) 0 ∷ get_or (a ∷ l ∷ t ∷ r) (l + 3) 0 ∷ [])
parts a l t r some e =
    let size : length r ≡ (l - 1) + 2 = omega arith in
    let count : l ≡ length (take (l - 1) r) + 1 = simp length-take (omega arith) in
    let i : suc (suc (suc (l - 1))) ≡ l + 2 = omega arith in
    let j : suc (suc (suc (suc (l - 1)))) ≡ l + 3 = omega arith in
    ap₂ {C = List ℕ} (λ x y. x ∷ t ∷ y) count (two_left (l - 1) r size)
    ∙ ap₂ (λ (x y : ℕ). body t (take (l - 1) r) ++ (get_or (a ∷ l ∷ t ∷ r) x 0 ∷ get_or (a ∷ l ∷ t ∷ r) y 0 ∷ [])) i j

pub shape : (s : List ℕ) (f : Frame) → Whole s f
    → drop 1 s ≡ body f.kind f.bytes ++ (get_or s (get_or s 1 0 + 2) 0 ∷ get_or s (get_or s 1 0 + 3) 0 ∷ [])
shape [] f w = let z : ⊥ = omega (arith, w.whole) in absurd z
shape (a ∷ []) f w = let z : ⊥ = omega (arith, w.whole) in absurd z
shape (a ∷ l ∷ []) f w = let z : ⊥ = omega (arith, w.whole) in absurd z
shape (a ∷ l ∷ t ∷ r) f w =
    parts a l t r w.some (omega (arith, w.whole))
    ∙ ap (λ (g : Frame). body g.kind g.bytes ++ (get_or (a ∷ l ∷ t ∷ r) (l + 2) 0 ∷ get_or (a ∷ l ∷ t ∷ r) (l + 3) 0 ∷ [])) (sym w.is)

pub from_start : (s : List ℕ) → get_or s 0 0 ≡ 0x5A → s ≡ 0x5A ∷ drop 1 s
from_start [] e = let z : ⊥ = omega arith in absurd z
from_start (a ∷ s) e = ap {B = List ℕ} (λ x. x ∷ s) e

-- its data bytes: how many, and where they stand
module _ (s : List ℕ) (f : Frame) (e : read_frame s ≡ accepted f) where
  pub counted : length f.bytes + 5 ≡ length s
  counted =
      let w : Whole s f = whole s f e in
      ap (λ (g : Frame). length g.bytes + 5) w.is ∙ simp (length-take, length-drop) (omega (arith, w.some, w.whole))

  pub few : length f.bytes ≤ 64
  few = omega (arith, counted, (whole s f e).whole, (whole s f e).within)

  pub data_part_lem : data_part s (length f.bytes) ≡ f.bytes
  data_part_lem =
      let w : Whole s f = whole s f e in
      let n : length f.bytes + 5 ≡ length s = counted in
      let l : length f.bytes ≡ get_or s 1 0 - 1 = omega (arith, w.whole) in
      ap (λ (t : Bool). cond t (take (length f.bytes) (drop 3 s)) []) (le-leb (3 + length f.bytes) (length s) (omega arith))
      ∙ ap (λ (k : ℕ). take k (drop 3 s)) l
      ∙ sym (ap (λ (g : Frame). g.bytes) w.is)

  pub data_bytes_lem : T (are_bytes s) → T (are_bytes f.bytes)
  data_bytes_lem t =
      subst⁻¹ (λ (g : Frame). T (are_bytes g.bytes)) (whole s f e).is (take_bytes (get_or s 1 0 - 1) (drop 3 s) (drop_bytes 3 s t))

  -- what the CRC covers is what a writer has it cover
  pub covers : covered s (get_or s 1 0) ≡ body f.kind f.bytes
  covers =
      let w : Whole s f = whole s f e in
      let n : length f.bytes + 5 ≡ length s = counted in
      let l : length (body f.kind f.bytes) ≡ get_or s 1 0 + 1 = omega (arith, w.whole) in
      ap (take (get_or s 1 0 + 1)) (shape s f w) ∙ take_at (body f.kind f.bytes) _ (get_or s 1 0 + 1) l
