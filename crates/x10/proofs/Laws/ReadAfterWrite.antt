-- What is written is read as it was given. Assumes nothing.
use mathlib.Core.Path.{◌≡◌, refl, sym, ap, ap₂, subst, ◌∙◌}
use mathlib.Core.Bool.{Bool, true, false, ◌&&◌}
use mathlib.Core.List.{List, [], ◌∷◌, ◌++◌}
use Prim.Native.Nat.{ℕ, ◌+◌, ◌-◌, ◌≤◌, ◌<◌}
use native.Mathlib.Omega.{arith}
use lib.Dec.{eqb, ltb}
use lib.ListN.{length}
use lib.Seq.{slice}
use borrow.Author.Tests.{ltb-false, eqb-false}
use Rattle.answer.specs.Answer.{accepted, and_then}
use Rattle.x10.specs.declared.Function.{Function}
use Rattle.x10.specs.Codes.{code_at, index_of, house_code, unit_code, function_code, function_of, extended1}
use Rattle.x10.specs.Places.{are_places, start_code, paired, bits, spelled}
use Rattle.x10.specs.Pattern.{Message, Bytes, unit, function, extended, read_function, read_key, read, standard, extension, write, write_function_code}
use Rattle.x10.proofs.Laws.Bits.{bits-places, paired-places, spelled-bits}
use Rattle.x10.proofs.Laws.Codes.{index_of_code, code_small, function_found, code_below, code_plain}
use Rattle.answer.proofs.Laws.Test.{passed, same, then_accepted}
use Rattle.x10.proofs.Laws.Pattern.{read_on, key_read, unit-accepted, codes_function, function-accepted, function-extended, rest-accepted}

places-append : (xs ys : List ℕ) → are_places xs ≡ true → are_places ys ≡ true → are_places (xs ++ ys) ≡ true
places-append [] ys ex ey = ey
places-append (x ∷ xs) ys ex ey = go (ltb x 2) (places-append xs ys) ex
  where
    go : (t : Bool) → (are_places xs ≡ true → are_places ys ≡ true → are_places (xs ++ ys) ≡ true)
        → t && are_places xs ≡ true → t && are_places (xs ++ ys) ≡ true
    go true rec e = rec e ey
    go false rec e = e

part-places : (w n : ℕ) → are_places (paired (bits w n)) ≡ true
part-places w n = paired-places (bits w n) (bits-places w n)

standard-places : (h k d : ℕ) → are_places (standard h k d) ≡ true
unfolding standard
standard-places h k d =
    places-append start_code (paired (bits 4 h) ++ (paired (bits 4 k) ++ paired (bits 1 d))) refl
    (places-append (paired (bits 4 h)) (paired (bits 4 k) ++ paired (bits 1 d)) (part-places 4 h)
    (places-append (paired (bits 4 k)) (paired (bits 1 d)) (part-places 4 k) (part-places 1 d)))

extension-places : (k d c : ℕ) → are_places (extension k d c) ≡ true
unfolding extension
extension-places k d c =
    places-append (paired (bits 4 k)) (paired (bits 8 d) ++ paired (bits 8 c)) (part-places 4 k)
    (places-append (paired (bits 8 d)) (paired (bits 8 c)) (part-places 8 d) (part-places 8 c))

-- house and key of places that begin with a standard pattern
module _ (h k d : ℕ) (rest : List ℕ) (hh : h < 16) (hk : k < 16) (hd : d < 2) where
  begins : 22 ≤ length (standard h k d ++ rest)
  unfolding standard
  begins = omega arith

  read-begun : read (standard h k d ++ rest) ≡ read_key (standard h k d ++ rest)
  unfolding standard
  read-begun = read_on (standard h k d ++ rest) begins (standard-places h k d) refl

  begun_house : spelled (slice 4 12 (standard h k d ++ rest)) ≡ accepted h
  unfolding standard
  begun_house = spelled-bits 4 h hh

  begun_key : spelled (slice 12 20 (standard h k d ++ rest)) ≡ accepted k
  unfolding standard
  begun_key = spelled-bits 4 k hk

  begun_d16 : spelled (slice 20 22 (standard h k d ++ rest)) ≡ accepted d
  unfolding standard
  begun_d16 = spelled-bits 1 d hd

  begun-unit : d ≡ 0 → length (standard h k d ++ rest) ≤ 22 → read (standard h k d ++ rest) ≡ accepted (unit (index_of h) (index_of k + 1))
  begun-unit e l = read-begun ∙ key_read (standard h k d ++ rest) h begun_house k begun_key d begun_d16 ∙ unit-accepted (standard h k d ++ rest) h k d e l

  begun-function : (d ≡ 0 → ⊥) → read (standard h k d ++ rest) ≡ read_function (standard h k d ++ rest) h k
  begun-function n = read-begun ∙ key_read (standard h k d ++ rest) h begun_house k begun_key d begun_d16 ∙ codes_function (standard h k d ++ rest) h k d n

read-unit : (h k : ℕ) → h < 16 → k < 16 → read (standard h k 0) ≡ accepted (unit (index_of h) (index_of k + 1))
unfolding standard
read-unit h k hh hk = begun-unit h k 0 [] hh hk (omega arith) refl (omega arith)

read-function : (h : ℕ) (f : Function) → h < 16 → read (standard h (function_code f) 1) ≡ accepted (function (index_of h) f)
unfolding standard
read-function h f hh =
    begun-function h (function_code f) 1 [] hh (code_below f) (omega arith) (omega arith)
    ∙ function-accepted (standard h (function_code f) 1) h (function_code f) f (code_plain f) (function_found f) (omega arith)

read-extended : (h k d c : ℕ) → h < 16 → k < 16 → d < 256 → c < 256
    → read (standard h extended1 1 ++ extension k d c) ≡ accepted (extended (index_of h) (index_of k + 1) d c)
unfolding standard extension
read-extended h k d c hh hk hd hc =
    let ps : List ℕ = standard h extended1 1 ++ extension k d c in
    begun-function h extended1 1 (extension k d c) hh (omega arith) (omega arith) (omega arith)
    ∙ function-extended ps h extended1 refl
    ∙ rest-accepted ps h (omega arith) k (spelled-bits 4 k hk) d (spelled-bits 8 d hd) (extension-places k d c) c (spelled-bits 8 c hc) (omega arith)

-- the house and the unit of what was written
house_back : (h k : ℕ) → house_code h ≡ accepted k → (h < 16) × (index_of k ≡ h) × (k < 16)
unfolding house_code
house_back h k e =
    let r = passed (ltb 15 h) 8 (accepted (code_at h)) k e in
    let hh : h < 16 = omega (arith, ltb-false 15 h r.0) in
    (hh, ap index_of (sym (same r.1)) ∙ index_of_code h hh, subst (λ (x : ℕ). x < 16) (same r.1) (code_small h hh))

unit_back : (u k : ℕ) → unit_code u ≡ accepted k → (index_of k + 1 ≡ u) × (k < 16)
unfolding unit_code
unit_back u k e =
    let r = passed (eqb u 0) 8 (house_code (u - 1)) k e in
    let n : u ≡ 0 → ⊥ = eqb-false u 0 r.0 in
    let h = house_back (u - 1) k r.1 in
    let i : index_of k ≡ u - 1 = h.1 in
    (omega arith, h.2)

pub read_after_write : (m : Message) (ps : List ℕ) → Bytes m → write m ≡ accepted ps → read ps ≡ accepted m
unfolding write
read_after_write (unit h u) ps b e =
    let x = then_accepted (house_code h) (λ k. and_then (unit_code u) (λ m. accepted (standard k m 0))) ps e in
    let y = then_accepted (unit_code u) (λ m. accepted (standard x.0 m 0)) ps x.2 in
    let r = house_back h x.0 x.1 in
    let s = unit_back u y.0 y.1 in
    ap read (sym (same y.2))
    ∙ read-unit x.0 y.0 r.2 s.1
    ∙ ap₂ (λ (i j : ℕ). accepted (unit i j)) r.1 s.0
read_after_write (function h f) ps b e =
    let x = then_accepted (house_code h) (λ k. accepted (standard k (function_code f) 1)) ps e in
    let r = house_back h x.0 x.1 in
    ap read (sym (same x.2)) ∙ read-function x.0 f r.2 ∙ ap (λ (i : ℕ). accepted (function i f)) r.1
read_after_write (extended h u d c) ps b e =
    let x = then_accepted (house_code h) (λ k. and_then (unit_code u) (λ m. accepted (standard k extended1 1 ++ extension m d c))) ps e in
    let y = then_accepted (unit_code u) (λ m. accepted (standard x.0 extended1 1 ++ extension m d c)) ps x.2 in
    let r = house_back h x.0 x.1 in
    let s = unit_back u y.0 y.1 in
    ap read (sym (same y.2))
    ∙ read-extended x.0 y.0 d c r.2 s.1 b.0 b.1
    ∙ ap₂ (λ (i j : ℕ). accepted (extended i j d c)) r.1 s.0

-- a function by its code
pub read_after_write_code : (house code : ℕ) (ps : List ℕ) → write_function_code house code ≡ accepted ps
    → (f : Function) × (function_of code ≡ accepted f) × (read ps ≡ accepted (function house f))
unfolding write_function_code
read_after_write_code house code ps e =
    let x = then_accepted (function_of code) (λ f. write (function house f)) ps e in
    (x.0, x.1, read_after_write (function house x.0) ps tt x.2)
