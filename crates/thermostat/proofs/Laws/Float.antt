-- Two f32 that compare equal are the same value, or both are zero. Assumes nothing.
use mathlib.Core.Path.{◌≡◌, refl, sym, ap, ◌∙◌}
use mathlib.Core.Bool.{Bool, true, false, ◌&&◌, ◌||◌, beq}
use mathlib.Core.Logic.{◌⊎◌, inl, inr}
use Prim.Native.Nat.{ℕ, zero, suc, ◌+◌, ◌*◌, ◌%◌, ◌^◌, ◌<◌}
use native.Mathlib.Nat.{mul-one, mul_assoc, mul-pos, zero-mul, pow-succ', mul_left_comm, zero-lt-suc, eq_of_mul-eq-mul_right, pow-suc}
use native.Mathlib.Omega.{arith}
use lib.Dec.{T, eqb, leb, ltb}
use lib.IntN.{ℤ, pos, negsuc}
use lib.Pow.{pow_pos, pow-add}
use lib.Ieee.Fits.{up_pos, down_pos}
use lib.Ieee.{Float, nan, inf, fin, Format, prec, low, emax, up, down, fits, eq, level}
use borrow.Author.Tests.{eqb-true}
use Rattle.answer.proofs.Laws.Table.{both_left, holds}

-- an odd number times a power of two, in one way only
even : (m t : ℕ) → m % 2 ≡ 1 → m ≡ 2 * t → ⊥
even m t o h = omega arith

odd_power : (m n a b : ℕ) → m % 2 ≡ 1 → n % 2 ≡ 1 → m * 2 ^ a ≡ n * 2 ^ b → (m ≡ n) × (a ≡ b)
odd_power m n zero zero o p h = (sym (mul-one m) ∙ h ∙ mul-one n, refl)
odd_power m n zero (suc b) o p h =
    absurd (even m (n * 2 ^ b) o (sym (mul-one m) ∙ h ∙ ap (λ (x : ℕ). n * x) (pow-succ' 2 b) ∙ mul_left_comm n 2 (2 ^ b)))
odd_power m n (suc a) zero o p h =
    absurd (even n (m * 2 ^ a) p (sym (mul-one n) ∙ sym h ∙ ap (λ (x : ℕ). m * x) (pow-succ' 2 a) ∙ mul_left_comm m 2 (2 ^ a)))
odd_power m n (suc a) (suc b) o p h =
    let r = odd_power m n a b o p (eq_of_mul-eq-mul_right 2 (zero-lt-suc 1) (m * 2 ^ a) (n * 2 ^ b)
    (mul_assoc m (2 ^ a) 2 ∙ ap (λ (x : ℕ). m * x) (sym (pow-suc 2 a)) ∙ h ∙ ap (λ (x : ℕ). n * x) (pow-suc 2 b) ∙ sym (mul_assoc n (2 ^ b) 2))) in
    (r.0, ap suc r.1)

-- the powers of two that an exponent stands for, above and below the line
abbrev above : ℤ → ℕ
above (pos k) = k
above (negsuc k) = 0

abbrev under : ℤ → ℕ
under (pos k) = 0
under (negsuc k) = suc k

up_is : (e : ℤ) → up e ≡ 2 ^ above e
up_is (pos k) = refl
up_is (negsuc k) = refl

down_is : (e : ℤ) → down e ≡ 2 ^ under e
down_is (pos k) = refl
down_is (negsuc k) = refl

same_exponent : (e d : ℤ) → above e + under d ≡ above d + under e → e ≡ d
same_exponent (pos a) (pos b) h = let k : a ≡ b = omega arith in ap pos k
same_exponent (pos a) (negsuc b) h = absurd (omega arith)
same_exponent (negsuc a) (pos b) h = absurd (omega arith)
same_exponent (negsuc a) (negsuc b) h = let k : a ≡ b = omega arith in ap negsuc k

scaled : (m : ℕ) (e d : ℤ) → m * up e * down d ≡ m * 2 ^ (above e + under d)
scaled m e d =
    mul_assoc m (up e) (down d)
    ∙ ap (λ (x : ℕ). m * (x * down d)) (up_is e)
    ∙ ap (λ (x : ℕ). m * (2 ^ above e * x)) (down_is d)
    ∙ ap (λ (x : ℕ). m * x) (sym (pow-add 2 (above e) (under d)))

-- a value that fits has an odd number before its power of two, or is zero
is_odd : (f : Format) (s : Bool) (m : ℕ) (e : ℤ) → T (fits f (fin s (suc m) e)) → suc m % 2 ≡ 1
unfolding fits
is_odd f s m e t =
    let a = eqb (suc m % 2) 1 in
    let b = ltb (suc m) (2 ^ prec f) in
    let d = leb (down e) (2 ^ low f) in
    eqb-true (suc m % 2) 1 (holds a (both_left a b (both_left (a && b) d (both_left (a && b && d) (ltb (suc m * up e) (2 ^ suc (emax f) * down e)) t))))

flat : (e : ℤ) → up e * down e ≡ 1 → e ≡ pos 0
flat (pos zero) h = refl
flat (pos (suc k)) h = absurd (omega (arith, pow-succ' 2 k, pow_pos k))
flat (negsuc k) h = absurd (omega (arith, pow-succ' 2 k, pow_pos k))

zero_exponent : (f : Format) (s : Bool) (e : ℤ) → T (fits f (fin s zero e)) → e ≡ pos 0
unfolding fits
zero_exponent f s e t = flat e (eqb-true (up e * down e) 1 (holds (eqb (up e * down e) 1) t))

positive : (m : ℕ) (e d : ℤ) → 0 < suc m * up e * down d
positive m e d = mul-pos (mul-pos (zero-lt-suc m) (up_pos e)) (down_pos d)

-- the signs are alike where the size is not zero
alike : (s t : Bool) (a b : ℕ) → 0 < a → level s a t b ≡ true → (s ≡ t) × (a ≡ b)
alike s t a b h e = go s t (eqb a b) refl (eqb a 0) refl e
  where
    go : (s t p : Bool) → eqb a b ≡ p → (q : Bool) → eqb a 0 ≡ q → (p && (beq s t || q)) ≡ true → (s ≡ t) × (a ≡ b)
    go s t false l q z e = let y : ◌≡◌ {A = ℕ} 0 1 = cc in absurd (omega arith)
    go s t true l true z e = absurd (omega (arith, eqb-true a 0 z))
    go true true true l false z e = (refl, eqb-true a b l)
    go false false true l false z e = (refl, eqb-true a b l)
    go true false true l false z e = let y : ◌≡◌ {A = ℕ} 0 1 = cc in absurd (omega arith)
    go false true true l false z e = let y : ◌≡◌ {A = ℕ} 0 1 = cc in absurd (omega arith)

level_size : (s t : Bool) (a b : ℕ) → level s a t b ≡ true → a ≡ b
level_size s t a b e = go (eqb a b) refl e
  where
    go : (p : Bool) → eqb a b ≡ p → (p && (beq s t || eqb a 0)) ≡ true → a ≡ b
    go true l e = eqb-true a b l
    go false l e = let y : ◌≡◌ {A = ℕ} 0 1 = cc in absurd (omega arith)

abbrev pub zero_of : Bool → Float
zero_of s = fin s 0 (pos 0)

pub equal : (f : Format) (x y : Float) → T (fits f x) → T (fits f y) → eq x y ≡ true
    → (x ≡ y) ⊎ ((s : Bool) × (t : Bool) × (x ≡ zero_of s) × (y ≡ zero_of t))
unfolding eq
equal f nan y p q e = let z : ◌≡◌ {A = ℕ} 0 1 = cc in absurd (omega arith)
equal f (inf s) nan p q e = let z : ◌≡◌ {A = ℕ} 0 1 = cc in absurd (omega arith)
equal f (inf true) (inf true) p q e = inl refl
equal f (inf false) (inf false) p q e = inl refl
equal f (inf true) (inf false) p q e = let z : ◌≡◌ {A = ℕ} 0 1 = cc in absurd (omega arith)
equal f (inf false) (inf true) p q e = let z : ◌≡◌ {A = ℕ} 0 1 = cc in absurd (omega arith)
equal f (inf s) (fin t n d) p q e = let z : ◌≡◌ {A = ℕ} 0 1 = cc in absurd (omega arith)
equal f (fin s m a) nan p q e = let z : ◌≡◌ {A = ℕ} 0 1 = cc in absurd (omega arith)
equal f (fin s m a) (inf t) p q e = let z : ◌≡◌ {A = ℕ} 0 1 = cc in absurd (omega arith)
equal f (fin s zero a) (fin t zero d) p q e =
    inr (s, t, ap (λ (x : ℤ). fin s 0 x) (zero_exponent f s a p), ap (λ (x : ℤ). fin t 0 x) (zero_exponent f t d q))
equal f (fin s zero a) (fin t (suc n) d) p q e =
    let z : 0 * up a * down d ≡ 0 = omega (arith, zero-mul (up a), ap (λ (x : ℕ). x * down d) (zero-mul (up a)), zero-mul (down d)) in
    absurd (omega (arith, level_size s t (0 * up a * down d) (suc n * up d * down a) e, positive n d a))
equal f (fin s (suc m) a) (fin t zero d) p q e =
    let z : 0 * up d * down a ≡ 0 = omega (arith, zero-mul (up d), ap (λ (x : ℕ). x * down a) (zero-mul (up d)), zero-mul (down a)) in
    absurd (omega (arith, level_size s t (suc m * up a * down d) (0 * up d * down a) e, positive m a d))
equal f (fin s (suc m) a) (fin t (suc n) d) p q e =
    let l = alike s t (suc m * up a * down d) (suc n * up d * down a) (positive m a d) e in
    let r =
    odd_power (suc m) (suc n) (above a + under d) (above d + under a) (is_odd f s m a p) (is_odd f t n d q)
    (sym (scaled (suc m) a d) ∙ l.1 ∙ scaled (suc n) d a) in
    let u : s ≡ t = l.0 in
    let v : suc m ≡ suc n = r.0 in
    let w : a ≡ d = same_exponent a d r.1 in
    inl (cc)
