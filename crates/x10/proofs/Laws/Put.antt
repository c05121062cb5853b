-- What is put into the output: pair after pair, part after part, and the whole as a writer leaves it. Assumes nothing.
use mathlib.Core.Path.{◌≡◌, refl, sym, ap, ◌∙◌}
use mathlib.Core.List.{List, [], ◌∷◌, ◌++◌}
use Prim.Native.Nat.{ℕ, suc, ◌+◌, ◌-◌, ◌/◌, ◌%◌, ◌^◌, ◌≤◌, ◌<◌}
use native.Mathlib.Nat.{zero-add, suc-add, add-suc, add-zero}
use native.Mathlib.Numerals.{add-one, add-two}
use native.Mathlib.Omega.{arith}
use lib.ListN.{length, drop, set}
use lib.Seq.{sets, sets-eq}
use Rattle.answer.specs.Answer.{Outcome, refused, accepted, on_accepted, in_room, out_after}
use Rattle.answer.proofs.Laws.Output.{no_room, with_room}
use Rattle.x10.specs.Codes.{extended1}
use Rattle.x10.specs.Places.{start_code, paired, bits}
use Rattle.x10.specs.Pattern.{standard, extension}

-- one pair more
pub put_pair : (l : List ℕ) (i k n : ℕ)
    → sets l i (paired (bits (suc k) n))
    ≡ sets (set (set l i (n / 2 ^ k % 2)) (i + 1) (1 - n / 2 ^ k % 2)) (i + 2) (paired (bits k n))
put_pair l i k n = rw (add-one, add-two)

-- one part after another
pub sets_append : (l : List ℕ) (i : ℕ) (xs ys : List ℕ) → sets l i (xs ++ ys) ≡ sets (sets l i xs) (i + length xs) ys
sets_append l i [] ys = ap (λ (k : ℕ). sets l k ys) (sym (add-zero i))
sets_append l i (x ∷ xs) ys =
    sets_append (set l i x) (suc i) xs ys
    ∙ ap (λ (k : ℕ). sets (sets (set l i x) (suc i) xs) k ys) (suc-add i (length xs) ∙ sym (add-suc i (length xs)))

-- the whole, from the start on
pub sets_whole : (l xs : List ℕ) → length xs ≤ length l → sets l 0 xs ≡ out_after (accepted xs) l
sets_whole l xs h =
    let e : 0 + length xs ≡ length xs = zero-add (length xs) in
    let h' : 0 + length xs ≤ length l = omega arith in
    sets-eq xs l 0 h' ∙ ap (λ (k : ℕ). xs ++ drop k l) e

-- the parts of a standard pattern, one after another
pub put-standard : (l : List ℕ) (h k d : ℕ)
    → sets (sets (sets (sets l 0 start_code) 4 (paired (bits 4 h))) 12 (paired (bits 4 k))) 20 (paired (bits 1 d))
    ≡ sets l 0 (standard h k d)
unfolding standard
put-standard l h k d =
    let xs : List ℕ = paired (bits 4 h) in
    let ys : List ℕ = paired (bits 4 k) in
    let zs : List ℕ = paired (bits 1 d) in
    sym
    (sets_append l 0 start_code (xs ++ (ys ++ zs))
    ∙ sets_append (sets l 0 start_code) 4 xs (ys ++ zs)
    ∙ sets_append (sets (sets l 0 start_code) 4 xs) 12 ys zs)

-- and of an Extended 1
pub put-extended : (l : List ℕ) (h k d c : ℕ)
    → sets (sets (sets (sets l 0 (standard h extended1 1)) 22 (paired (bits 4 k))) 30 (paired (bits 8 d))) 46 (paired (bits 8 c))
    ≡ sets l 0 (standard h extended1 1 ++ extension k d c)
unfolding standard extension
put-extended l h k d c =
    let s : List ℕ = standard h extended1 1 in
    let xs : List ℕ = paired (bits 4 k) in
    let ys : List ℕ = paired (bits 8 d) in
    let zs : List ℕ = paired (bits 8 c) in
    sym
    (sets_append l 0 s (xs ++ (ys ++ zs))
    ∙ sets_append (sets l 0 s) 22 xs (ys ++ zs)
    ∙ sets_append (sets (sets l 0 s) 22 xs) 30 ys zs)

pub length-standard : (h k d : ℕ) → length (standard h k d) ≡ 22
unfolding standard
length-standard h k d = refl

pub length-extended : (h k d c : ℕ) → length (standard h extended1 1 ++ extension k d c) ≡ 62
unfolding standard extension
length-extended h k d c = refl

module _ (l xs : List ℕ) (n : ℕ) (e : length xs ≡ n) where
  -- a writer without room
  pub leaves : length l < n
      → (refused 9 ≡ on_accepted length (in_room (length l) (accepted xs))) × (l ≡ out_after (in_room (length l) (accepted xs)) l)
  leaves h =
      let r : in_room (length l) (accepted xs) ≡ refused 9 = no_room (length l) xs (omega arith) in
      (ap (on_accepted length) (sym r), ap (λ (o : Outcome (List ℕ)). out_after o l) (sym r))

  -- a writer with room
  pub writes : n ≤ length l → (out : List ℕ) → out ≡ sets l 0 xs
      → (accepted n ≡ on_accepted length (in_room (length l) (accepted xs))) × (out ≡ out_after (in_room (length l) (accepted xs)) l)
  writes h out p =
      let r : in_room (length l) (accepted xs) ≡ accepted xs = with_room (length l) xs (omega arith) in (
        ap accepted (sym e) ∙ ap (on_accepted length) (sym r),
        p ∙ sets_whole l xs (omega arith) ∙ ap (λ (o : Outcome (List ℕ)). out_after o l) (sym r),
      )
