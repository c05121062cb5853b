-- What a writer leaves in the lent output, built up byte by byte, and what holds of it in the end. Assumes nothing.
use mathlib.Core.Path.{◌≡◌, refl, sym, ap, ◌∙◌}
use mathlib.Core.List.{List, [], ◌∷◌, ◌++◌, append_assoc}
use Prim.Native.Nat.{ℕ, suc, ◌+◌, ◌≤◌, ◌<◌}
use native.Mathlib.Numerals.{add-one}
use native.Mathlib.Omega.{arith}
use lib.ListN.{length, get_or, take, drop, set, length-append, length-drop}
use lib.Seq.{set_at, take_at, get_or-append-add, get_or-drop, drop-cons}
use borrow.Author.Tests.{lt-ltb, le-ltb}
use Rattle.answer.specs.Answer.{refused, accepted, in_room, out_after}

-- the output after the bytes xs have been written from its start
abbrev pub begun : List ℕ → List ℕ → List ℕ
begun xs old = xs ++ drop (length xs) old

pub begun-length : (xs old : List ℕ) → length xs ≤ length old → length (begun xs old) ≡ length old
begun-length xs old h = simp (length-append, length-drop) (omega arith)

-- one byte more
pub put_next : (xs old : List ℕ) (b : ℕ) → length xs < length old
    → set (begun xs old) (length xs) b ≡ begun (xs ++ (b ∷ [])) old
put_next xs old b h =
    ap (λ (t : List ℕ). set (xs ++ t) (length xs) b) (drop-cons old (length xs) 0 h)
    ∙ set_at xs (get_or old (length xs) 0) (drop (suc (length xs)) old) b (length xs) refl
    ∙ sym (append_assoc xs (b ∷ []) (drop (suc (length xs)) old))
    ∙ ap (λ (n : ℕ). (xs ++ (b ∷ [])) ++ drop n old) (sym (length-append xs (b ∷ []) ∙ add-one (length xs)))

module _ (room : ℕ) (bytes : List ℕ) where
  pub no_room : room < length bytes → in_room room (accepted bytes) ≡ refused 9
  no_room h = simp (lt-ltb room (length bytes) h)

  pub with_room : length bytes ≤ room → in_room room (accepted bytes) ≡ accepted bytes
  with_room h = simp (le-ltb room (length bytes) h)

-- the first bytes are those written, and every later byte is as it was
pub written_first : (bytes old : List ℕ) → take (length bytes) (out_after (accepted bytes) old) ≡ bytes
written_first bytes old = take_at bytes (drop (length bytes) old) (length bytes) refl

pub later-kept : (bytes old : List ℕ) (i : ℕ)
    → get_or (out_after (accepted bytes) old) (length bytes + i) 0 ≡ get_or old (length bytes + i) 0
later-kept bytes old i = get_or-append-add bytes (drop (length bytes) old) i 0 ∙ get_or-drop (length bytes) old i 0
