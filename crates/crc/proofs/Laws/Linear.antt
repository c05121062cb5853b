-- Maps of numbers that keep xor: two of them that agree on the powers of two agree. Assumes nothing.
use mathlib.Core.Path.{◌≡◌, refl, sym, ap, ap₂, ◌∙◌}
use mathlib.Core.Bool.{Bool, true, false, ◌&&◌}
use Prim.Native.Nat.{ℕ, zero, suc, ◌*◌, ◌/◌, ◌%◌, ◌^◌, ◌<◌}
use native.Mathlib.Nat.{mod-lt, pow-suc, add-zero, zero-mul, one-mul, mul_comm, div-lt_iff_lt-mul}
use native.Mathlib.Omega.{arith}
use lib.Bits.{bit_xor, xor_self, xor_shr, xor_mod, xor_shifted, xor_block}
use lib.Dec.{T, eqb}
use lib.Ieee.Fits.{and_l, and_r}
use lib.Pow.{pow_pos, split}
use borrow.Author.Tests.{eqb-true}
use Rattle.crc.proofs.Laws.Xor.{xor_swap}

pub record Linear (f : ℕ → ℕ) : Type 0 where
  pub keeps : (a b : ℕ) → f (bit_xor a b) ≡ bit_xor (f a) (f b)

pub linear_xor : {f g : ℕ → ℕ} → Linear f → Linear g → Linear (λ n. bit_xor (f n) (g n))
linear_xor {f} {g} p q =
    record { keeps = λ a b. ap₂ bit_xor (p.keeps a b) (q.keeps a b) ∙ xor_swap (f a) (f b) (g a) (g b) }

pub linear_after : {f g : ℕ → ℕ} → Linear f → Linear g → Linear (λ n. f (g n))
linear_after {f} {g} p q = record { keeps = λ a b. ap f (q.keeps a b) ∙ p.keeps (g a) (g b) }

pub linear_none : Linear (λ n. 0)
linear_none = record { keeps = λ a b. refl }

-- shifts to the right, remainders, and shifts to the left
pub linear_right : (k : ℕ) → Linear (λ n. n / 2 ^ k)
linear_right k = record { keeps = λ a b. xor_shr a b k }

pub linear_low : (k : ℕ) → Linear (λ n. n % 2 ^ k)
linear_low k = record { keeps = λ a b. xor_mod a b k }

pub linear_up : (k : ℕ) → Linear (λ n. n * 2 ^ k)
linear_up k =
    record {
      keeps = λ a b.
          sym (add-zero (bit_xor a b * 2 ^ k))
          ∙ sym (xor_block k a b 0 0 (pow_pos k) (pow_pos k))
          ∙ ap₂ bit_xor (add-zero (a * 2 ^ k)) (add-zero (b * 2 ^ k));
    }

-- a u64 shifted left
abbrev pub left : ℕ → ℕ → ℕ
left k n = n * 2 ^ k % 2 ^ 64

pub linear_left : (k : ℕ) → Linear (left k)
linear_left k = linear_after (linear_low 64) (linear_up k)

-- whether two maps agree on the first k powers of two
abbrev pub agree : (ℕ → ℕ) → (ℕ → ℕ) → ℕ → Bool
agree f g zero = true
agree f g (suc k) = eqb (f (2 ^ k)) (g (2 ^ k)) && agree f g k

-- a number is its digits from k up xor those below
halves : (n k : ℕ) → n ≡ bit_xor (n / 2 ^ k * 2 ^ k) (n % 2 ^ k)
halves n k = sym (split n k) ∙ sym (xor_shifted (n / 2 ^ k) k (n % 2 ^ k) (mod-lt n (pow_pos k)))

true_of : (b : Bool) → T b → b ≡ true
true_of true t = refl
true_of false t = absurd t

module _ {f g : ℕ → ℕ} (p : Linear f) (q : Linear g) where
  at_zero : f 0 ≡ g 0
  at_zero = p.keeps 0 0 ∙ xor_self (f 0) ∙ sym (xor_self (g 0)) ∙ sym (q.keeps 0 0)

  digit : (k d : ℕ) → d < 2 → f (2 ^ k) ≡ g (2 ^ k) → f (d * 2 ^ k) ≡ g (d * 2 ^ k)
  digit k zero h e = ap f (zero-mul (2 ^ k)) ∙ at_zero ∙ ap g (sym (zero-mul (2 ^ k)))
  digit k (suc zero) h e = ap f (one-mul (2 ^ k)) ∙ e ∙ ap g (sym (one-mul (2 ^ k)))
  digit k (suc (suc d)) h e = let z : ⊥ = omega arith in absurd z

  pub same_below : (k : ℕ) → T (agree f g k) → (n : ℕ) → n < 2 ^ k → f n ≡ g n
  same_below zero t n h =
      let none : n ≡ 0 = omega arith in
      ap f none ∙ at_zero ∙ ap g (sym none)
  same_below (suc k) t n h =
      let l : n < 2 ^ k * 2 = rw pow-suc at h in
      let l2 : n < 2 * 2 ^ k = rw mul_comm at l in
      let here : T (eqb (f (2 ^ k)) (g (2 ^ k))) = and_l (eqb (f (2 ^ k)) (g (2 ^ k))) (agree f g k) t in
      ap f (halves n k)
      ∙ p.keeps (n / 2 ^ k * 2 ^ k) (n % 2 ^ k)
      ∙ ap₂ bit_xor
      (digit k (n / 2 ^ k) ((div-lt_iff_lt-mul (pow_pos k)).1 l2)
      (eqb-true (f (2 ^ k)) (g (2 ^ k)) (true_of (eqb (f (2 ^ k)) (g (2 ^ k))) here)))
      (same_below k (and_r (eqb (f (2 ^ k)) (g (2 ^ k))) (agree f g k) t) (n % 2 ^ k) (mod-lt n (pow_pos k)))
      ∙ sym (q.keeps (n / 2 ^ k * 2 ^ k) (n % 2 ^ k))
      ∙ ap g (sym (halves n k))
