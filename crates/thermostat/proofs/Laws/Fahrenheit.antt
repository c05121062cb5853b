-- Tenths of a degree Fahrenheit: the code's arithmetic on signed numbers, by a test computed at every byte; and the bytes of a range of degrees.
-- Assumes nothing.
use mathlib.Core.Path.{◌≡◌, refl, sym, ap, ◌∙◌}
use mathlib.Core.Bool.{Bool, true, false, cond, ◌&&◌, ◌||◌, or-false}
use Prim.Native.Nat.{ℕ, suc, ◌-◌, ◌*◌, ◌^◌, ◌<◌, ◌≤◌}
use native.Mathlib.Omega.{arith}
use lib.Dec.{leb, ltb}
use lib.IntN.{ℤ, pos, negsuc, ◌*ℤ◌, ◌-ℤ◌}
use mir.Syntax.{w32}
use mir.Val.{SFits, to_z, of_z}
use lib.Signed.{mag, le_z}
use mir.Val.{hbits}
use borrow.Author.Tests.{ltb-true, ltb-false, leb-true, leb-false, le-leb, lt-leb}
use Rattle.omnistat.specs.Register.{within}
use Rattle.thermostat.specs.Registers.{fahrenheit, listed, read_only, allowed, settable}
use Rattle.thermostat.specs.Parts.{low, high}
use Rattle.thermostat.specs.Temperature.{fahrenheit_tenths, fahrenheit_within}
use Rattle.answer.proofs.Laws.Table.{below, holds}
use Rattle.thermostat.proofs.Laws.Temperature.{agree}

-- nine times a byte, then 400 less
abbrev times : ℕ → ℤ
times n = to_z w32 n *ℤ pos 9

abbrev less : ℕ → ℤ
less n = to_z w32 (of_z w32 (times n)) -ℤ pos 400

small : (f : ℕ → ℤ) → (n : ℕ) → ltb (mag (f n)) (2 ^ hbits w32) ≡ true → SFits w32 (f n)
small f n e = record { sfits = ltb-true (mag (f n)) (2 ^ hbits w32) e }

module _ (n : ℕ) (h : n < 256) where
  pub times_fits : SFits w32 (times n)
  times_fits = small times n (holds (ltb (mag (times n)) (2 ^ hbits w32)) (below (λ k. ltb (mag (times k)) (2 ^ hbits w32)) 256 tt n h))

  pub tenths_fit : SFits w32 (less n)
  tenths_fit = small less n (holds (ltb (mag (less n)) (2 ^ hbits w32)) (below (λ k. ltb (mag (less k)) (2 ^ hbits w32)) 256 tt n h))

  pub tenths : to_z w32 (of_z w32 (less n)) ≡ fahrenheit_tenths n
  tenths = agree (λ k. to_z w32 (of_z w32 (less k))) fahrenheit_tenths 256 refl n h

-- ---- document 02, K2

-- two tests that say the same
alike : (a b c d : ℕ) → (a ≤ b → c ≤ d) → (b < a → d < c) → leb a b ≡ leb c d
alike a b c d f g = go (leb a b) refl
  where
    go : (t : Bool) → leb a b ≡ t → t ≡ leb c d
    go true e = sym (le-leb c d (f (leb-true a b e)))
    go false e = sym (lt-leb c d (g (leb-false a b e)))

-- Fahrenheit between two whole degrees: every byte from the least to the greatest
pub fahrenheit_bytes : (lo hi n : ℕ) → fahrenheit_within lo hi n ≡ within (low (fahrenheit lo hi)) (high (fahrenheit lo hi)) n
fahrenheit_bytes lo hi n = go (ltb (9 * n) 400) refl
  where
    least : ℕ
    least = low (fahrenheit lo hi)

    greatest : ℕ
    greatest = high (fahrenheit lo hi)

    lies : ℤ → Bool
    lies z = le_z (pos (10 * lo)) z && le_z z (pos (10 * hi))

    go : (b : Bool) → ltb (9 * n) 400 ≡ b → lies (cond b (negsuc (400 - suc (9 * n))) (pos (9 * n - 400))) ≡ within least greatest n
    go true e = sym (ap (λ (b : Bool). b && leb n greatest) (lt-leb least n (omega (arith, ltb-true (9 * n) 400 e))))
    go false e =
        let h : 400 ≤ 9 * n = ltb-false (9 * n) 400 e in
        ap (λ (b : Bool). b && leb (9 * n - 400) (10 * hi)) (alike (10 * lo) (9 * n - 400) least n (λ k. omega (arith, h, k)) (λ k. omega (arith, h, k)))
        ∙ ap (λ (b : Bool). leb least n && b) (alike (9 * n - 400) (10 * hi) n greatest (λ k. omega (arith, h, k)) (λ k. omega (arith, h, k)))

-- the setpoints are listed and writable, and take the bytes 102 to 145 and no other
abbrev pub Settable102To145 : ℕ → Type 0
Settable102To145 r = (v : ℕ) → settable r v ≡ within 102 145 v

pub setpoint_bytes : Settable102To145 59 × Settable102To145 60 × Settable102To145 163 × Settable102To145 164
unfolding listed read_only allowed
setpoint_bytes = (taken, taken, taken, taken)
  where
    taken : (v : ℕ) → (fahrenheit_within 51 91 v || false) ≡ within 102 145 v
    taken v = or-false (fahrenheit_within 51 91 v) ∙ fahrenheit_bytes 51 91 v
