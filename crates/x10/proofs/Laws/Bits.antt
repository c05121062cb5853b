-- Numbers and their bits, bits and their pairs: each the other's inverse. Assumes nothing.
use mathlib.Core.Path.{◌≡◌, refl, sym, ap, ap₂, subst, ◌∙◌}
use mathlib.Core.Bool.{Bool, true, false, not, ◌&&◌}
use mathlib.Core.List.{List, [], ◌∷◌}
use Prim.Native.Nat.{ℕ, zero, suc, ◌+◌, ◌-◌, ◌*◌, ◌/◌, ◌%◌, ◌^◌, ◌≤◌, ◌<◌}
use native.Mathlib.Nat.{add-mul, mul_assoc, mul_comm, zero-mul, one-mul, pow-suc, mod-eq_of_lt}
use native.Mathlib.Numerals.{one-add}
use native.Mathlib.Omega.{arith}
use lib.Dec.{eqb, ltb}
use lib.ListN.{length}
use lib.Pow.{high, mod-pow-add}
use lib.Seq.{slice, length-slice}
use borrow.Author.Tests.{lt-ltb, ltb-true, eqb-true, eq-eqb}
use Rattle.answer.specs.Answer.{Outcome, refused, accepted, refuse_if, on_accepted}
use Rattle.x10.specs.Places.{are_places, paired, unpaired, bits, number, number_from, spelled}

pub and_left : (a b : Bool) → a && b ≡ true → a ≡ true
and_left true b e = refl
and_left false b e = e

pub and_right : (a b : Bool) → a && b ≡ true → b ≡ true
and_right true b e = e
and_right false b e = let z : ◌≡◌ {A = ℕ} 0 1 = cc in absurd (omega arith)

pub both : (a b : Bool) → a ≡ true → b ≡ true → a && b ≡ true
both a b ea eb = ap₂ ◌&&◌ ea eb

-- a bit takes at most its weight
weighed : (b p : ℕ) → b < 2 → b * p ≤ p
weighed zero p h = omega (arith, zero-mul p)
weighed (suc zero) p h = omega (arith, one-mul p)
weighed (suc (suc b)) p h = absurd (omega arith)

shifted : (m b p n : ℕ) → (m * 2 + b) * p + n ≡ m * (p * 2) + ((0 * 2 + b) * p + n)
shifted m b p n =
    let e : 0 * 2 + b ≡ b = omega arith in
    let left : m * 2 * p ≡ m * (p * 2) = mul_assoc m 2 p ∙ ap (λ (x : ℕ). m * x) (mul_comm 2 p) in
    omega (arith, add-mul (m * 2) b p, left, ap (λ (x : ℕ). x * p) e)

-- what bits spell after m
pub number-from : (m : ℕ) (bs : List ℕ) → number_from m bs ≡ m * 2 ^ length bs + number bs
number-from m [] = omega arith
number-from m (b ∷ bs) =
    number-from (m * 2 + b) bs
    ∙ shifted m b (2 ^ length bs) (number bs)
    ∙ ap₂ ◌+◌ (ap (λ (p : ℕ). m * p) (sym (pow-suc 2 (length bs)))) (sym (number-from (0 * 2 + b) bs))

pub number_below : (bs : List ℕ) → are_places bs ≡ true → number bs < 2 ^ length bs
number_below [] v = omega arith
number_below (b ∷ bs) v =
    let p : ℕ = 2 ^ length bs in
    let e : 0 * 2 + b ≡ b = omega arith in
    let h : b < 2 = ltb-true b 2 (and_left (ltb b 2) (are_places bs) v) in
    let later : number bs < p = number_below bs (and_right (ltb b 2) (are_places bs) v) in
    omega (arith, number-from (0 * 2 + b) bs, ap (λ (x : ℕ). x * p) e, weighed b p h, pow-suc 2 (length bs))

-- the bits of what bits spell
pub bits-number : (m : ℕ) (bs : List ℕ) → are_places bs ≡ true → bits (length bs) (number_from m bs) ≡ bs
bits-number m [] v = refl
bits-number m (b ∷ bs) v =
    let k : ℕ = length bs in
    let v' : are_places bs ≡ true = and_right (ltb b 2) (are_places bs) v in
    let h : b < 2 = ltb-true b 2 (and_left (ltb b 2) (are_places bs) v) in
    let top : number_from (m * 2 + b) bs / 2 ^ k ≡ m * 2 + b =
    ap (λ (x : ℕ). x / 2 ^ k) (number-from (m * 2 + b) bs) ∙ high (m * 2 + b) k (number_below bs v') in
    let odd : (m * 2 + b) % 2 ≡ b = omega arith in
    ap₂ (λ (x : ℕ) (xs : List ℕ). x ∷ xs) (ap (λ (x : ℕ). x % 2) top ∙ odd) (bits-number (m * 2 + b) bs v')

-- what the bits of a number spell
pub number-bits : (m w n : ℕ) → number_from m (bits w n) ≡ m * 2 ^ w + n % 2 ^ w
number-bits m zero n = omega arith
number-bits m (suc w) n =
    let d : ℕ = n / 2 ^ w % 2 in
    let split : n % 2 ^ suc w ≡ d * 2 ^ w + n % 2 ^ w =
    ap (λ (k : ℕ). n % 2 ^ k) (sym (one-add w)) ∙ mod-pow-add n 1 w in
    let e : 0 * 2 + d ≡ d = omega arith in
    number-bits (m * 2 + d) w n
    ∙ shifted m d (2 ^ w) (n % 2 ^ w)
    ∙ ap₂ ◌+◌ (ap (λ (p : ℕ). m * p) (sym (pow-suc 2 w))) (ap (λ (x : ℕ). x * 2 ^ w + n % 2 ^ w) e ∙ sym split)

pub bits-places : (w n : ℕ) → are_places (bits w n) ≡ true
bits-places zero n = refl
bits-places (suc w) n =
    both (ltb (n / 2 ^ w % 2) 2) (are_places (bits w n)) (lt-ltb (n / 2 ^ w % 2) 2 (omega arith)) (bits-places w n)

pub length-bits : (w n : ℕ) → length (bits w n) ≡ w
length-bits zero n = refl
length-bits (suc w) n = ap suc (length-bits w n)

pub length-paired : (bs : List ℕ) → length (paired bs) ≡ length bs + length bs
length-paired [] = omega arith
length-paired (b ∷ bs) = omega (arith, length-paired bs)

pub paired-places : (bs : List ℕ) → are_places bs ≡ true → are_places (paired bs) ≡ true
paired-places [] v = refl
paired-places (b ∷ bs) v =
    both (ltb b 2) (ltb (1 - b) 2 && are_places (paired bs)) (and_left (ltb b 2) (are_places bs) v)
    (both (ltb (1 - b) 2) (are_places (paired bs)) (lt-ltb (1 - b) 2 (omega arith))
    (paired-places bs (and_right (ltb b 2) (are_places bs) v)))

-- the bits of pairs that were made of bits
pub unpaired-paired : (bs : List ℕ) → are_places bs ≡ true → unpaired (paired bs) ≡ accepted bs
unpaired-paired [] v = refl
unpaired-paired (b ∷ bs) v =
    let h : b < 2 = ltb-true b 2 (and_left (ltb b 2) (are_places bs) v) in
    let e : b + (1 - b) ≡ 1 = omega arith in
    ap₂ (λ (t : Bool) (o : Outcome (List ℕ)). refuse_if (not t) 5 (on_accepted (λ bs. b ∷ bs) o)) (eq-eqb (b + (1 - b)) 1 e)
    (unpaired-paired bs (and_right (ltb b 2) (are_places bs) v))

-- places whose bits are read are those bits, each followed by its complement
pub unpaired_back : (ps bs : List ℕ) → unpaired ps ≡ accepted bs → (ps ≡ paired bs) × (are_places bs ≡ true)
unpaired_back [] bs e =
    let q : [] ≡ bs = cc in
    (ap paired q, ap are_places (sym q))
unpaired_back (b ∷ []) bs e = let z : ◌≡◌ {A = ℕ} 0 1 = cc in absurd (omega arith)
unpaired_back (b ∷ c ∷ ps) bs e = go (unpaired_back ps) (eqb (b + c) 1) refl (unpaired ps) refl e
  where
    go : ((xs : List ℕ) → unpaired ps ≡ accepted xs → (ps ≡ paired xs) × (are_places xs ≡ true))
        → (t : Bool) → eqb (b + c) 1 ≡ t → (o : Outcome (List ℕ)) → unpaired ps ≡ o
        → refuse_if (not t) 5 (on_accepted (λ bs. b ∷ bs) o) ≡ accepted bs
        → (b ∷ c ∷ ps ≡ paired bs) × (are_places bs ≡ true)
    go rec false et o eo e = let z : ◌≡◌ {A = ℕ} 0 1 = cc in absurd (omega arith)
    go rec true et (refused n) eo e = let z : ◌≡◌ {A = ℕ} 0 1 = cc in absurd (omega arith)
    go rec true et (accepted xs) eo e =
        let sum : b + c ≡ 1 = eqb-true (b + c) 1 et in
        let q : b ∷ xs ≡ bs = cc in
        let ec : c ≡ 1 - b = omega arith in
        let r = rec xs eo in
        subst (λ (ys : List ℕ). (b ∷ c ∷ ps ≡ paired ys) × (are_places ys ≡ true)) q
        (ap₂ (λ (x : ℕ) (xs : List ℕ). b ∷ x ∷ xs) ec r.0, both (ltb b 2) (are_places xs) (lt-ltb b 2 (omega arith)) r.1)

-- what the pairs of a number's bits spell
pub spelled-bits : (w n : ℕ) → n < 2 ^ w → spelled (paired (bits w n)) ≡ accepted n
unfolding spelled
spelled-bits w n h =
    ap (on_accepted number) (unpaired-paired (bits w n) (bits-places w n))
    ∙ ap accepted (number-bits 0 w n ∙ ap (λ (x : ℕ). x + n % 2 ^ w) (zero-mul (2 ^ w)) ∙ last)
  where
    last : 0 + n % 2 ^ w ≡ n
    last = omega (arith, mod-eq_of_lt h)

-- pairs that spell a number are those of its bits
spelled_back : (w : ℕ) (ps : List ℕ) (n : ℕ) → length ps ≡ w + w → spelled ps ≡ accepted n → (n < 2 ^ w) × (ps ≡ paired (bits w n))
unfolding spelled
spelled_back w ps n hl e = go (unpaired ps) refl e
  where
    go : (o : Outcome (List ℕ)) → unpaired ps ≡ o → on_accepted number o ≡ accepted n → (n < 2 ^ w) × (ps ≡ paired (bits w n))
    go (refused k) eo e = let z : ◌≡◌ {A = ℕ} 0 1 = cc in absurd (omega arith)
    go (accepted bs) eo e =
        let q : number bs ≡ n = cc in
        let r = unpaired_back ps bs eo in
        let hw : length bs ≡ w = omega (arith, length-paired bs, ap length r.0) in (
          subst (λ (k : ℕ). n < 2 ^ k) hw (subst (λ (x : ℕ). x < 2 ^ length bs) q (number_below bs r.1)),
          r.0 ∙ ap paired (sym (bits-number 0 bs r.1)) ∙ ap₂ (λ (k x : ℕ). paired (bits k x)) hw q,
        )

-- what a part of the places spells, given back
pub part_back : (f t w : ℕ) (ps : List ℕ) (n : ℕ) → t ≤ length ps → t - f ≡ w + w → spelled (slice f t ps) ≡ accepted n
    → (n < 2 ^ w) × (slice f t ps ≡ paired (bits w n))
part_back f t w ps n h e s = spelled_back w (slice f t ps) n (length-slice f t ps h ∙ e) s
