-- What is written: the bytes, one bit of them flipped afterwards; and the answers with a room. Assumes nothing.
use mathlib.Core.Path.{◌≡◌, sym, ap, ap₂, ◌∙◌}
use mathlib.Core.List.{List, ◌++◌}
use Prim.Native.Nat.{ℕ, ◌+◌, ◌*◌, ◌/◌, ◌%◌, ◌^◌, ◌<◌, ◌≤◌}
use native.Mathlib.Nat.{one-mul, mod-eq_of_lt}
use native.Mathlib.Omega.{arith}
use lib.Bits.{bit_xor}
use lib.ListN.{length, get_or, drop, set, get_or-append}
use lib.Pow.{pow-lt}
use lib.Seq.{set-append_left}
use Rattle.answer.specs.Answer.{Outcome, refused, accepted, on_accepted, and_then, in_room, out_after}
use Rattle.answer.proofs.Laws.Output.{begun, no_room, with_room}
use Rattle.crc.specs.Places.{flip}
use Rattle.mending.specs.Mending.{flipped_at, Mended, mend, mend_in_room, numbers}
use Rattle.mending.proofs.Laws.Flips.{flipped_length}

-- a 1 shifted to a place of a byte
one_shifted : (j : ℕ) → j < 8 → 1 * 2 ^ j % 2 ^ 8 ≡ 2 ^ j
one_shifted j h = ap (λ (n : ℕ). n % 2 ^ 8) (one-mul (2 ^ j)) ∙ mod-eq_of_lt (pow-lt {i = j} {j = 8} h)

pub flipped_written : (s old : List ℕ) (p : ℕ) → p / 8 + 1 < length s
    → set (begun s old) (p / 8 + 1) (bit_xor (get_or (begun s old) (p / 8 + 1) 0) (1 * 2 ^ (p % 8) % 2 ^ 8)) ≡ out_after (accepted (flipped_at s p)) old
unfolding flip
flipped_written s old p h =
    let rest = drop (length s) old in
    let i : p / 8 + 1 ≡ (8 + p) / 8 = omega arith in
    let j : p % 8 ≡ (8 + p) % 8 = omega arith in
    let b : bit_xor (get_or (begun s old) (p / 8 + 1) 0) (1 * 2 ^ (p % 8) % 2 ^ 8) ≡ bit_xor (get_or s (p / 8 + 1) 0) (2 ^ (p % 8)) =
    ap₂ bit_xor (get_or-append s rest 0 (p / 8 + 1) h) (one_shifted (p % 8) (omega arith)) in
    ap (set (begun s old) (p / 8 + 1)) b
    ∙ set-append_left s rest (p / 8 + 1) (bit_xor (get_or s (p / 8 + 1) 0) (2 ^ (p % 8))) h
    ∙ ap₂ (λ (x y : ℕ). set s x (bit_xor (get_or s x 0) (2 ^ y)) ++ rest) i j
    ∙ ap (λ (n : ℕ). flipped_at s p ++ drop n old) (sym (flipped_length s p))

-- ---- the answers with a room

module _ (s : List ℕ) (room : ℕ) where
  pub refused_in_any_room : (n : ℕ) → mend s ≡ refused n → mend_in_room room s ≡ refused n
  unfolding mend_in_room
  refused_in_any_room n e = ap (λ (o : Outcome Mended). and_then o (λ m. on_accepted (λ bytes. record { place = m.place; frame = bytes }) (in_room room (accepted m.frame)))) e

  module _ (m : Mended) (e : mend s ≡ accepted m) where
    in_room_lem : mend_in_room room s ≡ on_accepted (λ (bytes : List ℕ). record { place = m.place; frame = bytes }) (in_room room (accepted m.frame))
    unfolding mend_in_room
    in_room_lem = ap (λ (o : Outcome Mended). and_then o (λ n. on_accepted (λ bytes. record { place = n.place; frame = bytes }) (in_room room (accepted n.frame)))) e

    pub too_little : room < length m.frame → mend_in_room room s ≡ refused 9
    too_little h = in_room_lem ∙ ap (on_accepted (λ bytes. record { place = m.place; frame = bytes })) (no_room room m.frame h)

    pub has_room : length m.frame ≤ room → mend_in_room room s ≡ accepted m
    has_room h = in_room_lem ∙ ap (on_accepted (λ bytes. record { place = m.place; frame = bytes })) (with_room room m.frame h)

-- what a call answers and leaves, by the answer with its room
module _ (s old : List ℕ) where
  abbrev answer : Outcome Mended
  answer = mend_in_room (length old) s

  pub refusal-kept : (n : ℕ) → answer ≡ refused n → (refused n ≡ on_accepted numbers answer) × (old ≡ out_after (on_accepted (λ (m : Mended). m.frame) answer) old)
  refusal-kept n e =
      (sym (ap (on_accepted numbers) e), sym (ap (λ (o : Outcome Mended). out_after (on_accepted (λ (m : Mended). m.frame) o) old) e))

  pub frame-left : (m : Mended) (n : ℕ) (final : List ℕ) → answer ≡ accepted m → n ≡ length m.frame → final ≡ out_after (accepted m.frame) old
      → (accepted (record { place = m.place; count = n }) ≡ on_accepted numbers answer)
      × (final ≡ out_after (on_accepted (λ (m : Mended). m.frame) answer) old)
  frame-left m n final e count left = (
    ap (λ (k : ℕ). accepted (record { place = m.place; count = k })) count ∙ sym (ap (on_accepted numbers) e),
    left ∙ sym (ap (λ (o : Outcome Mended). out_after (on_accepted (λ (m : Mended). m.frame) o) old) e),
  )
