-- A duration and its P1 are inverse on exactly the lists of document 01. Assumes nothing.
use mathlib.Core.Path.{◌≡◌, refl, sym, ap, ◌∙◌}
use mathlib.Core.Bool.{Bool, true, false, cond, not, ◌&&◌}
use Prim.Native.Nat.{ℕ, ◌+◌, ◌-◌, ◌<◌, ◌≤◌}
use native.Mathlib.Decide.{dec_lt, ℕ_discrete}
use native.Mathlib.Omega.{arith}
use lib.Dec.{eqb, leb}
use borrow.Author.Tests.{eq-eqb, ne_eqb, lt-ltb, le-ltb, le-leb, eqb-false, ltb-true, leb-true, not-true}
use Rattle.message.specs.Command.{duration_listed, duration_of}
use Rattle.message.specs.Typed.{count_p1, duration_p1}
use Rattle.message.specs.declared.command.Duration.{Duration}
use Rattle.message.specs.declared.command.Duration.TheVariants.{None, Seconds, Minutes, Hours}
use Rattle.message.proofs.Laws.Checked.{never, both}

-- a count whose P1 is in the list is from 1 to the largest
counted : (base most n : ℕ) → duration_listed (count_p1 base most n) ≡ true → (1 ≤ n) × (n ≤ most) × (count_p1 base most n ≡ base + n)
counted base most n e = by (leb 1 n && leb n most) refl e
  where
    by : (t : Bool) → (leb 1 n && leb n most) ≡ t → duration_listed (cond t (base + n) 100) ≡ true → (1 ≤ n) × (n ≤ most) × (count_p1 base most n ≡ base + n)
    by true q h = let b = both q in (leb-true 1 n b.0, leb-true n most b.1, ap (λ (t : Bool). cond t (base + n) 100) q)
    by false q h = never h

pub duration_after_p1 : (d : Duration) → duration_listed (duration_p1 d) ≡ true → duration_of (duration_p1 d) ≡ d
duration_after_p1 None e = refl
duration_after_p1 (Seconds n) e =
    let c = counted 0 99 n e in
    let same : 0 + n ≡ n = omega arith in
    ap duration_of (c.2 ∙ same) ∙ simp (ne_eqb n 0 (omega arith), lt-ltb n 100 (omega arith))
duration_after_p1 (Minutes n) e =
    let c = counted 100 99 n e in
    let back : (100 + n) - 100 ≡ n = omega arith in
    ap duration_of c.2 ∙ simp (ne_eqb (100 + n) 0 (omega arith), le-ltb (100 + n) 100 (omega arith), lt-ltb (100 + n) 200 (omega arith)) (ap Minutes back)
duration_after_p1 (Hours n) e =
    let c = counted 200 18 n e in
    let back : (200 + n) - 200 ≡ n = omega arith in
    ap duration_of c.2 ∙ simp (ne_eqb (200 + n) 0 (omega arith), le-ltb (200 + n) 100 (omega arith), le-ltb (200 + n) 200 (omega arith)) (ap Hours back)

-- the P1 of a count from 1 to the largest
count_p1_lem : (base most n p : ℕ) → 1 ≤ n → n ≤ most → base + n ≡ p → count_p1 base most n ≡ p
count_p1_lem base most n p low high e = simp (le-leb 1 n low, le-leb n most high) e

pub p1_after_duration : (p : ℕ) → duration_listed p ≡ true → duration_p1 (duration_of p) ≡ p
p1_after_duration p e = none (ℕ_discrete p 0)
  where
    not_100 : p ≡ 100 → ⊥
    not_100 = eqb-false p 100 (not-true (eqb p 100) (both (both e).0).0)

    not_200 : p ≡ 200 → ⊥
    not_200 = eqb-false p 200 (not-true (eqb p 200) (both {a = not (eqb p 100)} (both {a = not (eqb p 100) && not (eqb p 200)} e).0).1)

    below : p < 219
    below = ltb-true p 219 (both {a = not (eqb p 100) && not (eqb p 200)} e).1

    hours : (p ≡ 0 → ⊥) → 200 ≤ p → duration_p1 (duration_of p) ≡ p
    hours a b =
        let is : duration_of p ≡ Hours (p - 200) = simp (ne_eqb p 0 a, le-ltb p 100 (omega arith), le-ltb p 200 b) in
        ap duration_p1 is ∙ count_p1_lem 200 18 (p - 200) p (omega (arith, not_200)) (omega (arith, below)) (omega arith)

    minutes : (p ≡ 0 → ⊥) → 100 ≤ p → Dec (p < 200) → duration_p1 (duration_of p) ≡ p
    minutes a b (yes c) =
        let is : duration_of p ≡ Minutes (p - 100) = simp (ne_eqb p 0 a, le-ltb p 100 b, lt-ltb p 200 c) in
        ap duration_p1 is ∙ count_p1_lem 100 99 (p - 100) p (omega (arith, not_100)) (omega arith) (omega arith)
    minutes a b (no c) = hours a (omega arith)

    seconds : (p ≡ 0 → ⊥) → Dec (p < 100) → duration_p1 (duration_of p) ≡ p
    seconds a (yes b) =
        let is : duration_of p ≡ Seconds p = simp (ne_eqb p 0 a, lt-ltb p 100 b) in
        ap duration_p1 is ∙ count_p1_lem 0 99 p p (omega arith) (omega arith) (omega arith)
    seconds a (no b) = minutes a (omega arith) (dec_lt p 200)

    none : Dec (p ≡ 0) → duration_p1 (duration_of p) ≡ p
    none (yes z) = let is : duration_of p ≡ None = simp (eq-eqb p 0 z) in ap duration_p1 is ∙ sym z
    none (no z) = seconds z (dec_lt p 100)
