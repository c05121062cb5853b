-- Temperatures: each byte's is exact, and the way back finds the one byte that can be meant. Every test over the 256 bytes is computed. Assumes nothing.
use mathlib.Core.Path.{◌≡◌, refl, sym, ap, ◌∙◌, subst}
use mathlib.Core.Bool.{Bool, true, false, not, cond, ◌&&◌, ◌||◌}
use mathlib.Core.List.{List, [], ◌∷◌}
use mathlib.Core.Logic.{◌⊎◌, inl, inr, ⊎_elim}
use Prim.Native.Nat.{ℕ, zero, suc, ◌+◌, ◌-◌, ◌*◌, ◌%◌, ◌<◌, ◌≤◌}
use native.Mathlib.Nat.{add-zero, zero-add, add-suc, suc-add, le_of_suc-le-suc, not-suc-le-zero}
use native.Mathlib.Omega.{arith}
use lib.Dec.{T, eqb, ltb}
use lib.Count.{count_trailing_zeros}
use lib.IntN.{pos}
use lib.Ieee.{Float, nan, inf, fin, binary32, up, down, level, round, size, span, climb, units, odd, mul, sub, add, neg, sum, of_int, of_bits, of_fields, eq, to_bits, is_nan, fits}
use lib.Ieee.Fits.{round-fits}
use borrow.Author.Tests.{eqb-true}
use Rattle.answer.specs.Answer.{Outcome, refused, accepted, on_accepted}
use Rattle.thermostat.specs.Temperature.{celsius, first_equal, byte_of, bytes_of}
use Rattle.answer.proofs.Laws.Table.{below, holds, both_left, both_right}
use Rattle.answer.proofs.Laws.Test.{then_accepted, on_accepted_lem}
use Rattle.thermostat.proofs.Laws.Float.{equal, zero_of}

-- ---- two functions that give the same at every byte, by a computed list of their values
abbrev pub tabled : {A : Type 0} → (ℕ → A) → ℕ → ℕ → List A
tabled f zero i = []
tabled f (suc n) i = f i ∷ tabled f n (suc i)

agree-from : {A : Type 0} (f g : ℕ → A) (n i : ℕ) → tabled f n i ≡ tabled g n i → (k : ℕ) → k < n → f (i + k) ≡ g (i + k)
agree-from f g zero i e k h = absurd (not-suc-le-zero h)
agree-from f g (suc n) i e zero h =
    let p : f i ≡ g i = cc in
    ap f (add-zero i) ∙ p ∙ ap g (sym (add-zero i))
agree-from f g (suc n) i e (suc k) h =
    let p : tabled f n (suc i) ≡ tabled g n (suc i) = cc in
    ap f (add-suc i k ∙ sym (suc-add i k)) ∙ agree-from f g n (suc i) p k (le_of_suc-le-suc h) ∙ ap g (suc-add i k ∙ sym (add-suc i k))

pub agree : {A : Type 0} (f g : ℕ → A) (n : ℕ) → tabled f n 0 ≡ tabled g n 0 → (k : ℕ) → k < n → f k ≡ g k
agree f g n e k h = ap f (sym (zero-add k)) ∙ agree-from f g n 0 e k h ∙ ap g (zero-add k)

-- ---- from a byte

-- the code's arithmetic: n as a float, times 0.5, less 40.0
abbrev pub computed : ℕ → Float
computed n = sub binary32 (mul binary32 (of_int binary32 (pos n)) (of_bits binary32 1056964608)) (of_bits binary32 1109393408)

pub computed-celsius : (n : ℕ) → n < 256 → computed n ≡ celsius n
unfolding celsius round size span climb units odd mul sub add neg sum of_int of_bits of_fields count_trailing_zeros
computed-celsius n h = agree computed celsius 256 refl n h

-- in integers: a float is exactly so many half degrees, below zero where s is true
abbrev pub is_halves : Float → Bool → ℕ → Bool
is_halves nan s k = false
is_halves (inf t) s k = false
is_halves (fin t m e) s k = level t (m * up e * 2) s (k * down e)

pub exact : (n : ℕ) → n < 256 → is_halves (celsius n) (ltb n 80) ((n - 80) + (80 - n)) ≡ true
unfolding celsius round size span climb units odd count_trailing_zeros
exact n h = holds (is_halves (celsius n) (ltb n 80) ((n - 80) + (80 - n))) (below (λ k. is_halves (celsius k) (ltb k 80) ((k - 80) + (80 - k))) 256 tt n h)

-- ---- back

-- the code's arithmetic: x plus 2^22 + 40
abbrev pub counted : Float → Float
counted x = add binary32 x (of_bits binary32 1249902672)

-- the arithmetic finds n
abbrev finds : Float → ℕ → Bool
finds x n = eq (counted x) (counted x) && eqb (to_bits binary32 (counted x) % 256) n

finds-own : (n : ℕ) → n < 256 → T (finds (celsius n) n)
unfolding celsius round size span climb units odd add sum of_bits of_fields count_trailing_zeros eq to_bits
finds-own n h = below (λ k. finds (celsius k) k) 256 tt n h

finds_80 : (s : Bool) → T (finds (zero_of s) 80)
unfolding round size span climb units odd add sum of_bits of_fields count_trailing_zeros eq to_bits
finds_80 true = tt
finds_80 false = tt

-- only a NaN differs from itself
pub a_number : (y : Float) → eq y y ≡ true → T (not (is_nan y))
unfolding eq is_nan
a_number nan e = let z : ◌≡◌ {A = ℕ} 0 1 = cc in absurd (omega arith)
a_number (inf s) e = tt
a_number (fin s m k) e = tt

-- only byte 80 is zero degrees
abbrev is_zero : Float → Bool
is_zero nan = false
is_zero (inf s) = false
is_zero (fin s m e) = eqb m 0

only_80 : (n : ℕ) → n < 256 → is_zero (celsius n) ≡ true → n ≡ 80
unfolding celsius round size span climb units odd count_trailing_zeros
only_80 n h e = go (is_zero (celsius n)) e (below (λ k. not (is_zero (celsius k)) || eqb k 80) 256 tt n h)
  where
    go : (a : Bool) → a ≡ true → T (not a || eqb n 80) → n ≡ 80
    go true p t = eqb-true n 80 (holds (eqb n 80) t)
    go false p t = let z : ◌≡◌ {A = ℕ} 0 1 = cc in absurd (omega arith)

celsius_fits : (n : ℕ) → T (fits binary32 (celsius n))
unfolding celsius
celsius_fits n = round-fits binary32 (ltb n 80) ((n - 80) + (80 - n)) 2

module _ (x : Float) (f : T (fits binary32 x)) where
  found : (n : ℕ) → n < 256 → eq x (celsius n) ≡ true → T (finds x n)
  found n h e =
      ⊎_elim
      (λ p. subst (λ (y : Float). T (finds y n)) (sym p) (finds-own n h))
      (λ w.
      let z : is_zero (celsius n) ≡ true = ap is_zero w.3 in
      subst (λ (k : ℕ). T (finds x k)) (sym (only_80 n h z)) (subst (λ (y : Float). T (finds y 80)) (sym w.2) (finds_80 w.0)))
      (equal binary32 x (celsius n) f (celsius_fits n) e)

  -- what the arithmetic says of a byte whose temperature equals x
  pub no_nan : (n : ℕ) → n < 256 → eq x (celsius n) ≡ true → eq (counted x) (counted x) ≡ true
  no_nan n h e =
      holds (eq (counted x) (counted x)) (both_left (eq (counted x) (counted x)) (eqb (to_bits binary32 (counted x) % 256) n) (found n h e))

  pub the_byte : (n : ℕ) → n < 256 → eq x (celsius n) ≡ true → to_bits binary32 (counted x) % 256 ≡ n
  the_byte n h e =
      eqb-true (to_bits binary32 (counted x) % 256) n
      (holds (eqb (to_bits binary32 (counted x) % 256) n) (both_right (eq (counted x) (counted x)) (eqb (to_bits binary32 (counted x) % 256) n) (found n h e)))

either_way : {A : Type 0} (b : Bool) (p q r : A) → (b ≡ true → p ≡ r) → (b ≡ false → q ≡ r) → cond b p q ≡ r
either_way true p q r f g = f refl
either_way false p q r f g = g refl

-- no byte's temperature equals x
none_from : (x : Float) (k i : ℕ) → ((n : ℕ) → n < i + k → eq x (celsius n) ≡ true → ⊥) → first_equal k i x ≡ refused 8
unfolding first_equal
none_from x zero i none = refl
none_from x (suc k) i none =
    either_way (eq x (celsius i)) (accepted i) (first_equal k (suc i) x) (refused 8)
    (λ e. let h : i < i + suc k = omega arith in absurd (none i h e))
    (λ e. none_from x k (suc i) (λ n h. let l : n < i + suc k = omega arith in none n l))

pub no_byte : (x : Float) → ((n : ℕ) → n < 256 → eq x (celsius n) ≡ true → ⊥) → byte_of x ≡ refused 8
unfolding byte_of
no_byte x none = none_from x 256 0 (λ n h. let l : n < 256 = omega arith in none n l)

-- one byte's does
one_from : (x : Float) (b k i : ℕ) → i ≤ b → b < i + k → eq x (celsius b) ≡ true → ((n : ℕ) → n < i + k → eq x (celsius n) ≡ true → n ≡ b)
    → first_equal k i x ≡ accepted b
unfolding first_equal
one_from x b zero i l m e one = absurd (omega arith)
one_from x b (suc k) i l m e one =
    either_way (eq x (celsius i)) (accepted i) (first_equal k (suc i) x) (accepted b)
    (λ q. let h : i < i + suc k = omega arith in ap accepted (one i h q))
    (λ q.
    let d : i ≡ b → ⊥ = λ j. differ (eq x (celsius i)) (eq x (celsius b)) q e (ap (λ (n : ℕ). eq x (celsius n)) j) in
    let l' : suc i ≤ b = omega arith in
    let m' : b < suc i + k = omega arith in
    one_from x b k (suc i) l' m' e (λ n h. let g : n < i + suc k = omega arith in one n g))
  where
    differ : (p q : Bool) → p ≡ false → q ≡ true → p ≡ q → ⊥
    differ p q a b c = let z : ◌≡◌ {A = ℕ} 0 1 = cc in omega arith

pub one_byte : (x : Float) → T (fits binary32 x) → (b : ℕ) → b < 256 → eq x (celsius b) ≡ true → byte_of x ≡ accepted b
unfolding byte_of
one_byte x f b h e =
    let l : 0 ≤ b = omega arith in
    let m : b < 0 + 256 = omega arith in
    one_from x b 256 0 l m e
    (λ n g q. let k : n < 256 = omega arith in sym (the_byte x f n k q) ∙ the_byte x f b h e)

pub clash : (b : Bool) → b ≡ true → b ≡ false → ⊥
clash b p q = let z : ◌≡◌ {A = ℕ} 0 1 = cc in omega arith

-- ---- both directions are inverse, and nothing else is accepted

-- a byte's temperature goes back to that byte
pub read_after_write : (n : ℕ) → n < 256 → byte_of (celsius n) ≡ accepted n
unfolding celsius round size span climb units odd count_trailing_zeros eq
read_after_write n h =
    one_byte (celsius n) (celsius_fits n) n h (holds (eq (celsius n) (celsius n)) (below (λ k. eq (celsius k) (celsius k)) 256 tt n h))

-- what goes back to a byte equals that byte's temperature
pub write_after_read : (x : Float) (n : ℕ) → byte_of x ≡ accepted n → (n < 256) × (eq x (celsius n) ≡ true)
unfolding first_equal byte_of
write_after_read x n e = let r = from 256 0 e in (let l : n < 256 = omega (arith, r.0) in l, r.1)
  where
    refusal : (a : ℕ) → ◌≡◌ {A = Outcome ℕ} (refused 8) (accepted a) → ⊥
    refusal a q = let z : ◌≡◌ {A = ℕ} 0 1 = cc in omega arith

    pick : (b : Bool) (i : ℕ) (later : Outcome ℕ) → cond b (accepted i) later ≡ accepted n → ((b ≡ true) × (i ≡ n)) ⊎ (later ≡ accepted n)
    pick true i later q = let z : i ≡ n = cc in inl (refl, z)
    pick false i later q = inr q

    from : (k i : ℕ) → first_equal k i x ≡ accepted n → (n < i + k) × (eq x (celsius n) ≡ true)
    from zero i q = absurd (refusal n q)
    from (suc k) i q =
        ⊎_elim
        (λ w. (let j : i ≡ n = w.1 in let l : n < i + suc k = omega arith in l, ap (λ (m : ℕ). eq x (celsius m)) (sym w.1) ∙ w.0))
        (λ w. let r = from k (suc i) w in (let l : n < i + suc k = omega (arith, r.0) in l, r.1))
        (pick (eq x (celsius i)) i (first_equal k (suc i) x) q)

-- a pair of bytes goes to degrees and back, and what goes back equals the degrees of its bytes
pub pair_read_after_write : (cool heat : ℕ) → cool < 256 → heat < 256 → bytes_of (celsius cool) (celsius heat) ≡ accepted (cool, heat)
pair_read_after_write cool heat c h = simp (read_after_write cool c, read_after_write heat h)

pub pair_write_after_read : (x y : Float) (cool heat : ℕ) → bytes_of x y ≡ accepted (cool, heat)
    → (eq x (celsius cool) ≡ true) × (eq y (celsius heat) ≡ true)
pair_write_after_read x y cool heat e =
    let c = then_accepted (byte_of x) (λ c. on_accepted (λ h. (c, h)) (byte_of y)) (cool, heat) e in
    let h = on_accepted_lem (λ h. (c.0, h)) (byte_of y) (cool, heat) c.2 in
    let same-cool : c.0 ≡ cool = ap (λ (p : ℕ × ℕ). p.0) h.2 in
    let same-heat : h.0 ≡ heat = ap (λ (p : ℕ × ℕ). p.1) h.2 in (
      (write_after_read x cool (c.1 ∙ ap accepted same-cool)).1,
      (write_after_read y heat (h.1 ∙ ap accepted same-heat)).1,
    )
