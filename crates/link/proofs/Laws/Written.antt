-- What the writer's stores leave in the output. Assumes nothing.
use mathlib.Core.Path.{◌≡◌, refl, sym, ap, ap₂, ◌∙◌}
use mathlib.Core.List.{List, [], ◌∷◌, ◌++◌, append_assoc, append-nil}
use Prim.Native.Nat.{ℕ, suc, ◌+◌, ◌-◌, ◌/◌, ◌%◌, ◌≤◌}
use native.Mathlib.Nat.{add_comm}
use native.Mathlib.Numerals.{add-three}
use native.Mathlib.Omega.{arith}
use lib.ListN.{length, take, drop, set, length-append, length-take, drop_of_length-le}
use lib.Seq.{take-length, take_at, drop-drop}
use Rattle.answer.specs.Answer.{accepted, out_after}
use Rattle.answer.proofs.Laws.Output.{begun, put_next}
use Rattle.crc.specs.Crc.{crc}
use Rattle.link.specs.Frame.{covered, body, frame_bytes}

pub head_written : (s : List ℕ) (a b c : ℕ) → 3 ≤ length s → set (set (set s 0 a) 1 b) 2 c ≡ a ∷ b ∷ c ∷ drop 3 s
head_written [] a b c h = let z : ⊥ = omega arith in absurd z
head_written (x ∷ []) a b c h = let z : ⊥ = omega arith in absurd z
head_written (x ∷ y ∷ []) a b c h = let z : ⊥ = omega arith in absurd z
head_written (x ∷ y ∷ z ∷ s) a b c h = refl

-- a part from 3 on, overwritten by as many bytes
pub data_written : (s d : List ℕ)
    → take 3 s ++ ((take (length d) d ++ drop (length d) (take ((length d + 3) - 3) (drop 3 s))) ++ drop ((length d + 3) - 3) (drop 3 s))
    ≡ (take 3 s ++ d) ++ drop (length d + 3) s
data_written s d =
    let n : (length d + 3) - 3 ≡ length d = omega arith in
    let none : drop (length d) (take (length d) (drop 3 s)) ≡ [] =
    drop_of_length-le (take (length d) (drop 3 s)) {i = length d} (simp length-take (omega arith)) in
    ap (λ (k : ℕ). take 3 s ++ ((take (length d) d ++ drop (length d) (take k (drop 3 s))) ++ drop k (drop 3 s))) n
    ∙ ap₂ (λ (x y : List ℕ). take 3 s ++ ((x ++ y) ++ drop (length d) (drop 3 s))) (take-length d) none
    ∙ ap₂ (λ (x y : List ℕ). take 3 s ++ (x ++ y)) (append-nil d) (drop-drop (length d) 3 s ∙ ap (λ (k : ℕ). drop k s) (add_comm 3 (length d)))
    ∙ sym (append_assoc (take 3 s) d (drop (length d + 3) s))

-- the frame, from its three parts
module _ (kind : ℕ) (d old : List ℕ) where
  abbrev headed : List ℕ
  headed = 0x5A ∷ ((length d + 1) ∷ (kind ∷ drop 3 old))

  abbrev filled : List ℕ
  filled = (take 3 headed ++ d) ++ drop (length d + 3) headed

  abbrev value : ℕ
  value = crc (body kind d)

  filled-begun : filled ≡ begun (0x5A ∷ body kind d) old
  filled-begun =
      let n : 3 + length d ≡ suc (suc (suc (length d))) = omega arith in
      ap (λ (n : ℕ). (take 3 headed ++ d) ++ drop n headed) (add-three (length d))
      ∙ ap (λ (t : List ℕ). (0x5A ∷ body kind d) ++ t) (drop-drop (length d) 3 old ∙ ap (λ (k : ℕ). drop k old) n)

  covered-begun : crc (covered (begun (0x5A ∷ body kind d) old) (length d + 1)) ≡ value
  covered-begun =
      let n : length (body kind d) ≡ length d + 1 + 1 = omega arith in
      ap crc (take_at (body kind d) (drop (suc (length (body kind d))) old) (length d + 1 + 1) n)

  -- the two bytes of the CRC, put behind
  module _ (lo hi : ℕ) where
    pub crc_written : length d + 5 ≤ length old
        → set (set (begun (0x5A ∷ body kind d) old) (length d + 1 + 2) lo) (length d + 1 + 3) hi
        ≡ begun ((0x5A ∷ body kind d) ++ (lo ∷ hi ∷ [])) old
    crc_written room =
        let i : length d + 1 + 2 ≡ length (0x5A ∷ body kind d) = omega arith in
        let j : length d + 1 + 3 ≡ length ((0x5A ∷ body kind d) ++ (lo ∷ [])) = simp length-append (omega arith) in
        ap₂ (λ (x y : ℕ). set (set (begun (0x5A ∷ body kind d) old) x lo) y hi) i j
        ∙ ap (λ (o : List ℕ). set o (length ((0x5A ∷ body kind d) ++ (lo ∷ []))) hi)
        (put_next (0x5A ∷ body kind d) old lo (omega arith))
        ∙ put_next ((0x5A ∷ body kind d) ++ (lo ∷ [])) old hi (omega arith)
        ∙ ap (λ (x : List ℕ). begun x old) (append_assoc (0x5A ∷ body kind d) (lo ∷ []) (hi ∷ []))

  pub frame_written : length d + 5 ≤ length old
      → set (set filled (length d + 1 + 2) (crc (covered filled (length d + 1)) % 256)) (length d + 1 + 3) (crc (covered filled (length d + 1)) / 256)
      ≡ out_after (accepted (frame_bytes kind d)) old
  unfolding frame_bytes
  frame_written room =
      ap (λ (o : List ℕ). set (set o (length d + 1 + 2) (crc (covered o (length d + 1)) % 256)) (length d + 1 + 3) (crc (covered o (length d + 1)) / 256))
      filled-begun
      ∙ ap (λ (c : ℕ). set (set (begun (0x5A ∷ body kind d) old) (length d + 1 + 2) (c % 256)) (length d + 1 + 3) (c / 256)) covered-begun
      ∙ crc_written (value % 256) (value / 256) room
