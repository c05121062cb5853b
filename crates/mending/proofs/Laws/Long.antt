-- Of more than 69 bytes the frame reader looks at the first two alone. Assumes nothing.
use mathlib.Core.Path.{◌≡◌, refl, sym, ap, ap₂, ◌∙◌}
use mathlib.Core.Bool.{Bool, true, false, cond}
use mathlib.Core.List.{List}
use Prim.Native.Nat.{ℕ, ◌<◌, ◌≤◌}
use native.Mathlib.Decide.{dec_lt}
use native.Mathlib.Omega.{arith}
use lib.Dec.{eqb, ltb}
use lib.ListN.{length, get_or, take, length-take}
use lib.Seq.{get_or-take, take_all}
use borrow.Author.Tests.{eqb-true, eqb-false, ltb-true, ltb-false}
use Rattle.answer.specs.Answer.{refused}
use Rattle.link.specs.Frame.{read_frame}
use Rattle.link.proofs.Laws.Ladder.{wrong_start, by_length, length_zero, length_above, too_long}
use Rattle.mending.specs.Mending.{mend}
use Rattle.mending.proofs.Laws.Mending.{other_refusal}

-- the refusal by the first byte and the length byte
abbrev refusal : ℕ → ℕ → ℕ
refusal a l = cond (eqb a 0x5A) (cond (eqb l 0) 3 (cond (ltb 0x41 l) 3 4)) 2

module _ (s : List ℕ) (long : 70 ≤ length s) where
  by_two : read_frame s ≡ refused (refusal (get_or s 0 0) (get_or s 1 0))
  by_two = go (eqb (get_or s 0 0) 0x5A) (eqb (get_or s 1 0) 0) (ltb 0x41 (get_or s 1 0)) refl refl refl
    where
      go : (a b c : Bool) → eqb (get_or s 0 0) 0x5A ≡ a → eqb (get_or s 1 0) 0 ≡ b → ltb 0x41 (get_or s 1 0) ≡ c
          → read_frame s ≡ refused (cond a (cond b 3 (cond c 3 4)) 2)
      go false b c ea eb ec = wrong_start s (omega arith) (eqb-false (get_or s 0 0) 0x5A ea)
      go true true c ea eb ec =
          by_length s (omega arith) (eqb-true (get_or s 0 0) 0x5A ea) (omega arith) ∙ length_zero s (get_or s 1 0) (eqb-true (get_or s 1 0) 0 eb)
      go true false true ea eb ec =
          by_length s (omega arith) (eqb-true (get_or s 0 0) 0x5A ea) (omega arith)
          ∙ length_above s (get_or s 1 0) (eqb-false (get_or s 1 0) 0 eb) (ltb-true 0x41 (get_or s 1 0) ec)
      go true false false ea eb ec =
          let within : get_or s 1 0 ≤ 0x41 = ltb-false 0x41 (get_or s 1 0) ec in
          by_length s (omega arith) (eqb-true (get_or s 0 0) 0x5A ea) (omega arith)
          ∙ too_long s (get_or s 1 0) (eqb-false (get_or s 1 0) 0 eb) within (omega arith) (omega arith)

  not_5 : refusal (get_or s 0 0) (get_or s 1 0) ≡ 5 → ⊥
  not_5 = go (eqb (get_or s 0 0) 0x5A) (eqb (get_or s 1 0) 0) (ltb 0x41 (get_or s 1 0))
    where
      go : (a b c : Bool) → ◌≡◌ {A = ℕ} (cond a (cond b 3 (cond c 3 4)) 2) 5 → ⊥
      go false b c e = omega arith
      go true true c e = omega arith
      go true false true e = omega arith
      go true false false e = omega arith

  long_refused : mend s ≡ refused (refusal (get_or s 0 0) (get_or s 1 0))
  long_refused = other_refusal s (refusal (get_or s 0 0) (get_or s 1 0)) not_5 by_two

-- the first 70 bytes get the answer of them all
pub first_70 : (s : List ℕ) → mend (take 70 s) ≡ mend s
first_70 s = by (dec_lt 70 (length s))
  where
    by : Dec (70 < length s) → mend (take 70 s) ≡ mend s
    by (yes more) =
        let size : 70 ≤ length (take 70 s) = simp length-take (omega arith) in
        long_refused (take 70 s) size
        ∙ ap₂ (λ (a l : ℕ). refused (refusal a l)) (get_or-take 70 s 0 0 (omega arith)) (get_or-take 70 s 1 0 (omega arith))
        ∙ sym (long_refused s (omega arith))
    by (no more) = ap mend (take_all 70 s (omega arith))
