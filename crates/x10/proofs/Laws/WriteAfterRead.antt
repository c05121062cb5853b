-- What is read is written as it was sent. Assumes nothing.
use mathlib.Core.Path.{◌≡◌, refl, sym, ap, ap₂, ◌∙◌}
use mathlib.Core.Bool.{Bool, true, false, not, cond}
use mathlib.Core.List.{List, [], ◌∷◌, ◌++◌}
use Prim.Native.Nat.{ℕ, ◌+◌, ◌-◌, ◌≤◌, ◌<◌}
use native.Mathlib.Omega.{arith}
use lib.Dec.{eqb, ltb}
use lib.ListN.{length, take, drop, take-append-drop}
use lib.Seq.{slice, length-take-le, take-take, take_all, drop-append-le}
use borrow.Author.Tests.{ltb-false, eqb-true, eqb-false, not-false}
use Rattle.answer.specs.Answer.{Outcome, accepted, refuse_if, and_then}
use Rattle.x10.specs.declared.Function.{Function}
use Rattle.x10.specs.declared.Function.TheVariants.{On}
use Rattle.x10.specs.Codes.{code_at, index_of, house_code, unit_code, function_of, extended1}
use Rattle.x10.specs.Places.{are_places, start_code, starts_with, spelled}
use Rattle.x10.specs.Pattern.{Message, unit, function, extended, ending, read_rest, read_function, read_key, read, standard, extension, write}
use Rattle.x10.proofs.Laws.Bits.{and_left, and_right, part_back}
use Rattle.x10.proofs.Laws.Codes.{code_at_index, index_small, found_code}
use Rattle.answer.proofs.Laws.Test.{passed, same, then_accepted}
use Rattle.x10.proofs.Laws.Write.{house_listed, unit_some, unit_written, function_written, extended_written}

-- a part of a list in two
split : (a b t : ℕ) (l : List ℕ) → a ≤ b → b ≤ t → t ≤ length l → slice a t l ≡ slice a b l ++ slice b t l
split a b t l hab hbt ht =
    let e : take t l ≡ take b l ++ slice b t l =
    sym (take-append-drop b (take t l)) ∙ ap (λ (x : List ℕ). x ++ slice b t l) (take-take b t l hbt) in
    let h : a ≤ length (take b l) = omega (arith, length-take-le b l (omega arith)) in
    ap (drop a) e ∙ drop-append-le a (take b l) (slice b t l) h

-- the places of a code that they begin with
start_back : (cs l : List ℕ) → starts_with cs l ≡ true → take (length cs) l ≡ cs
start_back [] l e = refl
start_back (c ∷ cs) [] e = let z : ◌≡◌ {A = ℕ} 0 1 = cc in absurd (omega arith)
start_back (c ∷ cs) (p ∷ ps) e =
    ap₂ (λ (x : ℕ) (xs : List ℕ). x ∷ xs) (eqb-true p c (and_left (eqb p c) (starts_with cs ps) e))
    (start_back cs ps (and_right (eqb p c) (starts_with cs ps) e))

-- the house and the key of what was read
read_back : (ps : List ℕ) (m : Message) → read ps ≡ accepted m
    → (22 ≤ length ps) × (take 4 ps ≡ start_code) × (read_key ps ≡ accepted m)
unfolding read
read_back ps m e =
    let o : Outcome Message = refuse_if (not (starts_with start_code ps)) 2 (read_key ps) in
    let a = passed (ltb (length ps) 22) 1 (refuse_if (not (are_places (slice 0 22 ps))) 8 o) m e in
    let b = passed (not (are_places (slice 0 22 ps))) 8 o m a.1 in
    let c = passed (not (starts_with start_code ps)) 2 (read_key ps) m b.1 in
    (ltb-false (length ps) 22 a.0, start_back start_code ps (not-false (starts_with start_code ps) c.0), c.1)

ending_back : (n : ℕ) (ps : List ℕ) (m m' : Message) → ending n ps m ≡ accepted m' → (length ps ≤ n) × (m ≡ m')
ending_back n ps m m' e =
    let r = passed (ltb n (length ps)) 4 (accepted m) m' e in
    (ltb-false n (length ps) r.0, same r.1)

unit_again : (k : ℕ) → k < 16 → unit_code (index_of k + 1) ≡ accepted k
unit_again k h =
    let i : index_of k < 16 = index_small k h in
    let e : index_of k + 1 - 1 ≡ index_of k = omega arith in
    unit_some (index_of k + 1) (omega arith) ∙ house_listed (index_of k + 1 - 1) (omega arith) ∙ ap accepted (ap code_at e ∙ code_at_index k h)

-- 22 places by their parts
module _ (ps : List ℕ) (long : 22 ≤ length ps) (start : take 4 ps ≡ start_code) (h k d : ℕ)
    (eh : spelled (slice 4 12 ps) ≡ accepted h) (ek : spelled (slice 12 20 ps) ≡ accepted k) (ed : spelled (slice 20 22 ps) ≡ accepted d) where
  house_small : h < 16
  house_small = (part_back 4 12 4 ps h (omega arith) refl eh).0

  key_small : k < 16
  key_small = (part_back 12 20 4 ps k (omega arith) refl ek).0

  d16_small : d < 2
  d16_small = (part_back 20 22 1 ps d (omega arith) refl ed).0

  first_22 : take 22 ps ≡ standard h k d
  unfolding standard
  first_22 =
      split 0 4 22 ps (omega arith) (omega arith) (omega arith)
      ∙ ap₂ ◌++◌ start
      (split 4 12 22 ps (omega arith) (omega arith) (omega arith)
      ∙ ap₂ ◌++◌ (part_back 4 12 4 ps h (omega arith) refl eh).1
      (split 12 20 22 ps (omega arith) (omega arith) (omega arith)
      ∙ ap₂ ◌++◌ (part_back 12 20 4 ps k (omega arith) refl ek).1 (part_back 20 22 1 ps d (omega arith) refl ed).1))

  -- the house and the unit, written again
  house_again : house_code (index_of h) ≡ accepted h
  house_again =
      house_listed (index_of h) (omega (arith, index_small h house_small)) ∙ ap accepted (code_at_index h house_small)

  unit_back : length ps ≤ 22 → d ≡ 0 → write (unit (index_of h) (index_of k + 1)) ≡ accepted ps
  unit_back short e =
      unit_written (index_of h) (index_of k + 1) 0 0 On h house_again k (unit_again k key_small)
      ∙ ap (λ (x : ℕ). accepted (standard h k x)) (sym e)
      ∙ ap accepted (sym first_22 ∙ take_all 22 ps short)

  function_back : (f : Function) → length ps ≤ 22 → d ≡ 1 → function_of k ≡ accepted f → write (function (index_of h) f) ≡ accepted ps
  function_back f short e ef =
      function_written (index_of h) 0 0 0 f h house_again
      ∙ ap₂ (λ (x y : ℕ). accepted (standard h x y)) (found_code k f ef) (sym e)
      ∙ ap accepted (sym first_22 ∙ take_all 22 ps short)

  module _ (u x c : ℕ) (all : 62 ≤ length ps)
      (eu : spelled (slice 22 30 ps) ≡ accepted u) (ex : spelled (slice 30 46 ps) ≡ accepted x) (ec : spelled (slice 46 62 ps) ≡ accepted c) where
    next_40 : slice 22 62 ps ≡ extension u x c
    unfolding extension
    next_40 =
        split 22 30 62 ps (omega arith) (omega arith) all
        ∙ ap₂ ◌++◌ (part_back 22 30 4 ps u (omega arith) refl eu).1
        (split 30 46 62 ps (omega arith) (omega arith) all
        ∙ ap₂ ◌++◌ (part_back 30 46 8 ps x (omega arith) refl ex).1 (part_back 46 62 8 ps c all refl ec).1)

    extended_back : length ps ≤ 62 → k ≡ extended1 → d ≡ 1
        → write (extended (index_of h) (index_of u + 1) x c) ≡ accepted ps
    extended_back short ee ed1 =
        extended_written (index_of h) (index_of u + 1) x c On h house_again u (unit_again u (part_back 22 30 4 ps u (omega arith) refl eu).0)
        ∙ ap₂ (λ (y z : ℕ). accepted (standard h y z ++ extension u x c)) (sym ee) (sym ed1)
        ∙ ap₂ (λ (a b : List ℕ). accepted (a ++ b)) (sym first_22) (sym next_40)
        ∙ ap accepted (sym (split 0 22 62 ps (omega arith) (omega arith) all) ∙ take_all 62 ps short)

-- the rest of an Extended 1, read and written again
module _ (ps : List ℕ) (m : Message) (long : 22 ≤ length ps) (start : take 4 ps ≡ start_code) where
  rest_back : (h k d : ℕ) → spelled (slice 4 12 ps) ≡ accepted h → spelled (slice 12 20 ps) ≡ accepted k
      → spelled (slice 20 22 ps) ≡ accepted d → k ≡ extended1 → d ≡ 1 → read_rest ps h ≡ accepted m → write m ≡ accepted ps
  unfolding read_rest
  rest_back h k d eh ek ed ee ed1 e =
      let p = passed (ltb (length ps) 62) 1 _ m e in
      let q = passed (not (are_places (slice 22 62 ps))) 8 _ m p.1 in
      let u = then_accepted (spelled (slice 22 30 ps)) _ m q.1 in
      let x = then_accepted (spelled (slice 30 46 ps)) _ m u.2 in
      let y = then_accepted (spelled (slice 46 62 ps)) _ m x.2 in
      let r = ending_back 62 ps (extended (index_of h) (index_of u.0 + 1) x.0 y.0) m y.2 in
      ap write (sym r.1)
      ∙ extended_back ps long start h k d eh ek ed u.0 x.0 y.0 (ltb-false (length ps) 62 p.0) u.1 x.1 y.1 r.0 ee ed1

  function-read : (h k d : ℕ) → spelled (slice 4 12 ps) ≡ accepted h → spelled (slice 12 20 ps) ≡ accepted k
      → spelled (slice 20 22 ps) ≡ accepted d → d ≡ 1 → read_function ps h k ≡ accepted m → write m ≡ accepted ps
  unfolding read_function
  function-read h k d eh ek ed ed1 e = go (eqb k extended1) refl e
    where
      go : (t : Bool) → eqb k extended1 ≡ t
          → cond t (read_rest ps h) (and_then (function_of k) λ f. ending 22 ps (function (index_of h) f)) ≡ accepted m → write m ≡ accepted ps
      go true et e = rest_back h k d eh ek ed (eqb-true k extended1 et) ed1 e
      go false et e =
          let f = then_accepted (function_of k) (λ f. ending 22 ps (function (index_of h) f)) m e in
          let r = ending_back 22 ps (function (index_of h) f.0) m f.2 in
          ap write (sym r.1) ∙ function_back ps long start h k d eh ek ed f.0 r.0 ed1 f.1

  key_read : read_key ps ≡ accepted m → write m ≡ accepted ps
  unfolding read_key
  key_read e =
      let h = then_accepted (spelled (slice 4 12 ps)) _ m e in
      let k = then_accepted (spelled (slice 12 20 ps)) _ m h.2 in
      let d = then_accepted (spelled (slice 20 22 ps)) _ m k.2 in
      by_d16 h.0 k.0 d.0 h.1 k.1 d.1 (eqb d.0 0) refl d.2
    where
      by_d16 : (h k d : ℕ) → spelled (slice 4 12 ps) ≡ accepted h → spelled (slice 12 20 ps) ≡ accepted k
          → spelled (slice 20 22 ps) ≡ accepted d → (t : Bool) → eqb d 0 ≡ t
          → cond t (ending 22 ps (unit (index_of h) (index_of k + 1))) (read_function ps h k) ≡ accepted m → write m ≡ accepted ps
      by_d16 h k d eh ek ed true et e =
          let r = ending_back 22 ps (unit (index_of h) (index_of k + 1)) m e in
          ap write (sym r.1) ∙ unit_back ps long start h k d eh ek ed r.0 (eqb-true d 0 et)
      by_d16 h k d eh ek ed false et e =
          let n : d ≡ 0 → ⊥ = eqb-false d 0 et in
          let s : d < 2 = d16_small ps long start h k d eh ek ed in
          function-read h k d eh ek ed (omega arith) e

pub write_after_read : (ps : List ℕ) (m : Message) → read ps ≡ accepted m → write m ≡ accepted ps
write_after_read ps m e =
    let r = read_back ps m e in
    key_read ps m r.0 r.1 r.2
