-- Turns of the register are linear, and feeding bits is the register xor the number that they spell, turned once for each bit.
-- Assumes nothing.
use mathlib.Core.Path.{◌≡◌, refl, sym, ap, ap₂, ◌∙◌}
use mathlib.Core.Bool.{Bool, true, false, xor}
use mathlib.Core.List.{List, [], ◌∷◌, ◌++◌}
use Prim.Native.Nat.{ℕ, zero, suc, ◌+◌, ◌*◌, ◌/◌, ◌%◌, ◌^◌, ◌<◌, ◌≤◌}
use native.Mathlib.Nat.{suc-add, add-suc, zero-add, mul_assoc, mul-one, pow-suc, mul-mod_left, mul-div_cancel, zero-lt-suc, le_refl}
use native.Mathlib.Omega.{arith}
use lib.Bits.{bit_xor, xor_comm, xor_zero_r, xor_shifted, xor_lt}
use lib.ListN.{length}
use lib.Pow.{pow_mono}
use Rattle.answer.specs.Bit.{bit}
use Rattle.crc.specs.Bits.{odd}
use Rattle.crc.specs.Crc.{shift, feed}
use Rattle.crc.specs.Parts.{turns}
use Rattle.crc.proofs.Laws.Xor.{low_bit, xor_half, xor-odd, xor_assoc, xor_swap, xor_zero}

-- the number that bits spell, the lowest first
abbrev pub num : List Bool → ℕ
num [] = 0
num (b ∷ bs) = num bs * 2 + bit b

-- what a shifted-out bit adds
carry : (a b : Bool) → bit (xor a b) * 0xA001 ≡ bit_xor (bit a * 0xA001) (bit b * 0xA001)
unfolding xor
carry true true = refl
carry true false = refl
carry false true = refl
carry false false = refl

pub shift-xor : (a b : ℕ) → shift (bit_xor a b) ≡ bit_xor (shift a) (shift b)
shift-xor a b =
    ap₂ bit_xor (xor_half a b)
    (ap (λ (n : ℕ). n * 0xA001) (low_bit (bit_xor a b) ∙ ap bit (xor-odd a b)) ∙ carry (odd a) (odd b)
    ∙ ap₂ (λ (x y : ℕ). bit_xor (x * 0xA001) (y * 0xA001)) (sym (low_bit a)) (sym (low_bit b)))
    ∙ xor_swap (a / 2) (b / 2) (a % 2 * 0xA001) (b % 2 * 0xA001)

pub turns-xor : (n a b : ℕ) → turns n (bit_xor a b) ≡ bit_xor (turns n a) (turns n b)
turns-xor zero a b = refl
turns-xor (suc n) a b = ap (turns n) (shift-xor a b) ∙ turns-xor n (shift a) (shift b)

pub turns_zero : (n : ℕ) → turns n 0 ≡ 0
turns_zero zero = refl
turns_zero (suc n) = turns_zero n

pub turns-add : (m n r : ℕ) → turns (m + n) r ≡ turns n (turns m r)
turns-add zero n r = ap (λ (k : ℕ). turns k r) (zero-add n)
turns-add (suc m) n r = ap (λ (k : ℕ). turns k r) (suc-add m n) ∙ turns-add m n (shift r)

-- an even number is halved
pub shift_double : (n : ℕ) → shift (n * 2) ≡ n
shift_double n =
    ap₂ (λ (h t : ℕ). bit_xor h (t * 0xA001)) (mul-div_cancel n (zero-lt-suc 1)) (mul-mod_left n 2) ∙ xor_zero_r n

-- a number moved up by as many bits as it is turned
pub turns_shifted : (n q : ℕ) → turns n (q * 2 ^ n) ≡ q
turns_shifted zero q = mul-one q
turns_shifted (suc n) q =
    ap (λ (m : ℕ). turns n (shift (q * m))) (pow-suc 2 n)
    ∙ ap (λ (m : ℕ). turns n (shift m)) (sym (mul_assoc q (2 ^ n) 2))
    ∙ ap (turns n) (shift_double (q * 2 ^ n))
    ∙ turns_shifted n q

-- a bit below a doubled number is xored as it is added
pub put-bit : (n : ℕ) (b : Bool) → n * 2 + bit b ≡ bit_xor (bit b) (n * 2)
put-bit n true = sym (xor_shifted n 1 1 (le_refl 2)) ∙ xor_comm (n * 2) 1
put-bit n false = sym (xor_shifted n 1 0 (zero-lt-suc 1)) ∙ xor_comm (n * 2) 0

pub feed-turns : (r : ℕ) (bs : List Bool) → feed r bs ≡ turns (length bs) (bit_xor r (num bs))
unfolding feed
feed-turns r [] = sym (xor_zero_r r)
feed-turns r (b ∷ bs) =
    feed-turns (shift (bit_xor r (bit b))) bs
    ∙ ap (turns (length bs))
    (ap (bit_xor (shift (bit_xor r (bit b)))) (sym (shift_double (num bs)))
    ∙ sym (shift-xor (bit_xor r (bit b)) (num bs * 2))
    ∙ ap shift (xor_assoc r (bit b) (num bs * 2) ∙ ap (bit_xor r) (sym (put-bit (num bs) b))))

pub feed-append : (r : ℕ) (p bs : List Bool) → feed r (p ++ bs) ≡ feed (feed r p) bs
unfolding feed
feed-append r [] bs = refl
feed-append r (a ∷ p) bs = feed-append (shift (bit_xor r (bit a))) p bs

-- each turn takes off a bit, down to 16
pub turns_below : (k r : ℕ) → r < 2 ^ (16 + k) → turns k r < 2 ^ 16
turns_below zero r h = h
turns_below (suc k) r h =
    let l : r < 2 ^ (16 + k) * 2 = rw (add-suc, pow-suc) at h in
    let some : 2 ^ 16 ≤ 2 ^ (16 + k) = pow_mono {i = 16} {j = 16 + k} (omega arith) in
    turns_below k (shift r) (xor_lt (16 + k) (r / 2) (r % 2 * 0xA001) (omega arith) (omega arith))

-- below 2^16 the register stays there, and only 0 turns into 0
pub shift_lt : (r : ℕ) → r < 2 ^ 16 → shift r < 2 ^ 16
shift_lt r h = xor_lt 16 (r / 2) (r % 2 * 0xA001) (omega arith) (omega arith)

pub shift_nonzero : (r : ℕ) → r < 2 ^ 16 → shift r ≡ 0 → r ≡ 0
shift_nonzero r h e = let z : r / 2 ≡ r % 2 * 0xA001 = xor_zero (r / 2) (r % 2 * 0xA001) e in omega arith

pub turns_nonzero : (n r : ℕ) → r < 2 ^ 16 → turns n r ≡ 0 → r ≡ 0
turns_nonzero zero r h e = e
turns_nonzero (suc n) r h e = shift_nonzero r h (turns_nonzero n (shift r) (shift_lt r h) e)

-- a register below 2^16 stays there while bits are fed
pub feed_below : (r : ℕ) (bs : List Bool) → r < 2 ^ 16 → feed r bs < 2 ^ 16
unfolding feed
feed_below r [] h = h
feed_below r (b ∷ bs) h = feed_below (shift (bit_xor r (bit b))) bs (shift_lt (bit_xor r (bit b)) (xor_lt 16 r (bit b) h (small b)))
  where
    small : (b : Bool) → bit b < 2 ^ 16
    small true = omega arith
    small false = omega arith
