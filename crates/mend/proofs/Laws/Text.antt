-- The text of numbers and of bytes in hex, and what of it fits. Assumes nothing.
use mathlib.Core.Path.{◌≡◌, refl, sym, ap, ap₂, ◌∙◌}
use mathlib.Core.List.{List, [], ◌∷◌, ◌++◌}
use mathlib.Core.Bool.{Bool, true, false}
use Prim.Native.Nat.{ℕ, suc, ◌+◌, ◌*◌, ◌-◌, ◌/◌, ◌%◌, ◌<◌, ◌≤◌}
use native.Mathlib.Numerals.{add-one}
use native.Mathlib.Omega.{arith}
use lib.Dec.{ltb}
use lib.ListN.{length, get_or, take, drop}
use borrow.Author.Tests.{ltb-true, ltb-false}
use lib.Seq.{take-suc, take_all, length-take-le}
use Rattle.answer.specs.Answer.{number_of}
use Rattle.answer.specs.declared.Refusal.{Refusal}
use Rattle.answer.specs.declared.Refusal.TheVariants.{Short, Start, Length, Long, Checksum, Unknown, TypeLength, Field, Room, Total}
use Rattle.listing.specs.Parts.{Put, placed}
use Rattle.listing.specs.Text.{digit, field, space, line_feed}
use Rattle.listing.proofs.Laws.Numbers.{below_10, below_100, below_1000}
use Rattle.listing.proofs.Laws.Output.{put-length}
use Rattle.mend.specs.Parts.{spaced}
use Rattle.mend.specs.Printed.{place_word, hex_field, hex_line}

-- bytes copied to the start
pub begins : (xs old part : List ℕ) → part ≡ xs → length xs ≤ length old → Put 0 xs old (part ++ drop (length xs) old) (length xs)
unfolding placed
begins xs old part e h =
    record {
      fits = omega arith;
      moved = omega arith;
      put = ap₂ (λ (s : List ℕ) (n : ℕ). s ++ drop n old) e (omega arith);
    }

-- a number of one, two or three digits, and a line feed
pub one_digit : (n : ℕ) → n < 10 → field n line_feed ≡ digit n ∷ line_feed ∷ []
one_digit n h = ap (λ (d : List ℕ). d ++ (line_feed ∷ [])) (below_10 n h)

pub two_digits : (n : ℕ) → 10 ≤ n → n < 100 → field n line_feed ≡ digit (n / 10) ∷ digit (n % 10) ∷ line_feed ∷ []
two_digits n l h = ap (λ (d : List ℕ). d ++ (line_feed ∷ [])) (below_100 n l h)

pub three_digits : (n : ℕ) → 100 ≤ n → n < 1000
    → field n line_feed ≡ digit (n / 100) ∷ digit (n % 100 / 10) ∷ digit (n % 100 % 10) ∷ line_feed ∷ []
three_digits n l h = ap (λ (d : List ℕ). d ++ (line_feed ∷ [])) (below_1000 n l h)

-- a refusal's number has at most three digits
pub small_number : (r : Refusal) → number_of r < 1000
small_number Short = omega arith
small_number Start = omega arith
small_number Length = omega arith
small_number Long = omega arith
small_number Checksum = omega arith
small_number Unknown = omega arith
small_number TypeLength = omega arith
small_number Field = omega arith
small_number Room = omega arith
small_number Total = omega arith

-- bytes in hex: three for each, and one behind the others
spaced-length : (s : List ℕ) → length (spaced s) ≡ 3 * length s
unfolding spaced
spaced-length [] = refl
spaced-length (b ∷ s) = omega (arith, spaced-length s)

spaced_more : (s : List ℕ) (b : ℕ) → spaced (s ++ (b ∷ [])) ≡ spaced s ++ hex_field b space
unfolding spaced
spaced_more [] b = refl
spaced_more (a ∷ s) b = ap (λ (t : List ℕ). hex_field a space ++ t) (spaced_more s b)

line_by_last : (s : List ℕ) (b : ℕ) → hex_line (s ++ (b ∷ [])) ≡ spaced s ++ hex_field b line_feed
unfolding spaced hex_line
line_by_last [] b = refl
line_by_last (a ∷ []) b = refl
line_by_last (a ∷ (c ∷ s)) b = ap (λ (t : List ℕ). hex_field a space ++ t) (line_by_last (c ∷ s) b)

pub hex_line_split : (s : List ℕ) → 0 < length s → spaced (take (length s - 1) s) ++ hex_field (get_or s (length s - 1) 0) line_feed ≡ hex_line s
hex_line_split s h =
    let last = length s - 1 in
    let inside : last < length s = omega arith in
    let whole : suc last ≡ length s = omega arith in
    sym (line_by_last (take last s) (get_or s last 0))
    ∙ ap hex_line (sym (take-suc s last 0 inside) ∙ ap (λ (n : ℕ). take n s) whole ∙ take_all (length s) s (omega arith))

pub spaced-step : (s : List ℕ) (i : ℕ) → i < length s → spaced (take i s) ++ hex_field (get_or s i 0) space ≡ spaced (take (i + 1) s)
spaced-step s i h = sym (spaced_more (take i s) (get_or s i 0)) ∙ ap spaced (sym (take-suc s i 0 h) ∙ ap (λ (n : ℕ). take n s) (sym (add-one i)))

-- the next byte fits behind those put
pub hex_fits : {at next : ℕ} {old out : List ℕ} (s : List ℕ) (i : ℕ) → i < length s → at + 3 * length s ≤ length old
    → Put at (spaced (take i s)) old out next → next + 3 ≤ length out
hex_fits s i h fits p = omega (arith, put-length p, p.moved, spaced-length (take i s), length-take-le i s (omega arith))

-- a place's line has at most ten bytes
short_field : (n : ℕ) → n < 1000 → length (field n line_feed) ≤ 4
short_field n h = go (ltb n 10) refl (ltb n 100) refl
  where
    go : (a : Bool) → ltb n 10 ≡ a → (b : Bool) → ltb n 100 ≡ b → length (field n line_feed) ≤ 4
    go true e b f = rw (one_digit n (ltb-true n 10 e)) (omega arith)
    go false e true f = rw (two_digits n (ltb-false n 10 e) (ltb-true n 100 f)) (omega arith)
    go false e false f = rw (three_digits n (ltb-false n 100 f) h) (omega arith)

pub frame_fits : {place next : ℕ} {old out : List ℕ} (s : List ℕ) → place < 1000 → 10 + 3 * length s ≤ length old
    → Put 0 (place_word ++ field place line_feed) old out next → next + 3 * length s ≤ length out
frame_fits {place} s small fits p = omega (arith, put-length p, p.moved, short_field place small)
