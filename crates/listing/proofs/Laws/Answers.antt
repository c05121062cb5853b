-- The listing's answers, a law for each: the facts that lead to it. Assumes nothing.
use mathlib.Core.Path.{◌≡◌, refl, sym, ap, ◌∙◌}
use mathlib.Core.Bool.{Bool, true, false}
use mathlib.Core.List.{List}
use Prim.Native.Nat.{ℕ, ◌+◌, ◌*◌, ◌<◌, ◌≤◌}
use native.Mathlib.Omega.{arith}
use lib.Dec.{ltb}
use lib.ListN.{length, get_or}
use borrow.Author.Tests.{lt-ltb, le-ltb, ltb-true, ltb-false}
use Rattle.answer.specs.Answer.{refused, accepted, refuse_if, in_room}
use Rattle.answer.proofs.Laws.Output.{no_room, with_room}
use Rattle.listing.specs.declared.place.FrameAt.{FrameAt}
use Rattle.listing.specs.Lines.{lines}
use Rattle.listing.specs.Text.{text, listing}
use Rattle.listing.specs.Parts.{rest, found_text, Told}
use Rattle.listing.proofs.Laws.Sizes.{enough_room}

module _ (s : List ℕ) (room : ℕ) where
  pub too_long : 4096 < length s → in_room room (listing s) ≡ refused 3
  unfolding listing
  too_long h = simp (lt-ltb 4096 (length s) h)

  module _ (small : length s ≤ 4096) where
    listed : listing s ≡ accepted (rest s 0)
    unfolding listing rest
    listed = simp (le-ltb 4096 (length s) small)

    pub too_little : room < length (rest s 0) → in_room room (listing s) ≡ refused 9
    too_little h = ap (in_room room) listed ∙ no_room room (rest s 0) h

    pub fits : length (rest s 0) ≤ room → in_room room (listing s) ≡ accepted (rest s 0)
    fits h = ap (in_room room) listed ∙ with_room room (rest s 0) h

-- the same by the frames found
module _ (s : List ℕ) (es : List FrameAt) (small : length s ≤ 4096) (t : Told s 0 es) where
  pub found_size : ((i : ℕ) → get_or s i 0 < 10000) → length (found_text 0 es (length s)) ≤ 8 * length s + 25
  found_size bytes = rw t.same at (enough_room s bytes small)

  pub found_too_little : (room : ℕ) → room < length (found_text 0 es (length s)) → in_room room (listing s) ≡ refused 9
  found_too_little room h = too_little s room small (omega (arith, ap length t.same))

  pub found_fits : (room : ℕ) → length (found_text 0 es (length s)) ≤ room → in_room room (listing s) ≡ accepted (found_text 0 es (length s))
  found_fits room h = fits s room small (omega (arith, ap length t.same)) ∙ ap accepted t.same

-- a room that is always enough changes no answer
pub any_capture : (s : List ℕ) (room : ℕ) → ((i : ℕ) → get_or s i 0 < 10000) → 8 * 4096 + 25 ≤ room → in_room room (listing s) ≡ listing s
unfolding listing
any_capture s room small h = go (ltb 4096 (length s)) refl
  where
    go : (t : Bool) → ltb 4096 (length s) ≡ t → in_room room (listing s) ≡ listing s
    go true e = let long = ltb-true 4096 (length s) e in too_long s room long ∙ sym (simp (lt-ltb 4096 (length s) long))
    go false e =
        let short = ltb-false 4096 (length s) e in
        fits s room short (omega (arith, enough_room s small short)) ∙ sym (listed s room short)

-- its only refusal is 3
pub only_3 : (s : List ℕ) (k : ℕ) → listing s ≡ refused k → k ≡ 3
unfolding listing
only_3 s k e = go (ltb 4096 (length s)) e
  where
    go : (t : Bool) → refuse_if t 3 (accepted (text (lines s))) ≡ refused k → k ≡ 3
    go true e = cc
    go false e = cc
