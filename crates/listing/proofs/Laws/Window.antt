-- The unread bytes and a piece behind them: judged in the window, and then in the piece. Assumes nothing.
use mathlib.Core.Path.{◌≡◌, refl, sym, ap, subst, subst⁻¹, ◌∙◌}
use mathlib.Core.Bool.{Bool, true, false}
use mathlib.Core.List.{List, [], ◌++◌, append_assoc}
use Prim.Native.Nat.{ℕ, ◌+◌, ◌-◌, ◌<◌, ◌≤◌}
use native.Mathlib.Omega.{arith}
use lib.Dec.{ltb}
use lib.ListN.{length, take, drop, length-append, length-take, length-drop, take-append-drop, drop_of_length-le}
use lib.Seq.{take_all, drop-drop, drop-append-add}
use borrow.Author.Tests.{ltb-true, ltb-false}
use Rattle.listing.specs.declared.place.FrameAt.{FrameAt}
use Rattle.listing.specs.State.{settled}
use Rattle.listing.specs.Parts.{last_end, Settles}
use Rattle.listing.proofs.Laws.Settling.{settles_on}
use Rattle.listing.proofs.Laws.Settled.{none_unsettled, unsettled_few}

module _ (unread piece : List ℕ) (more : ℕ) (within : more ≤ length piece) (window : List ℕ) (is : window ≡ unread ++ take more piece) where
  -- the window with the rest of the piece behind it
  whole : window ++ drop more piece ≡ unread ++ piece
  whole =
      ap (λ (w : List ℕ). w ++ drop more piece) is ∙ append_assoc unread (take more piece) (drop more piece)
      ∙ ap (λ (x : List ℕ). unread ++ x) (take-append-drop more piece)

  size : length window ≡ length unread + more
  size = ap length is ∙ length-append unread (take more piece) ∙ (let n : length unread + length (take more piece) ≡ length unread + more = omega (arith, length-take more piece) in n)

  -- a place of the unread bytes that is not settled: all of the piece stands in the window
  module _ (at : ℕ) (in-unread : at < length unread) (all : 0 < length unread → more < 68 → more ≡ length piece) (not_yet : settled (drop at window) ≡ false) where
    pub all_of_it : more ≡ length piece
    all_of_it = go (ltb more 68) refl
      where
        go : (t : Bool) → ltb more 68 ≡ t → more ≡ length piece
        go true e = all (omega arith) (ltb-true more 68 e)
        go false e = let z : ⊥ = omega (arith, ltb-false more 68 e, unsettled_few (drop at window) not_yet, length-drop at window, size) in absurd z

    pub in_window : window ≡ unread ++ piece
    in_window = is ∙ ap (λ (x : List ℕ). unread ++ x) (take_all more piece (omega (arith, all_of_it)))

  -- behind them: on in the piece
  module _ (at : ℕ) (past : length unread ≤ at) where
    at_piece : drop at (window ++ drop more piece) ≡ drop (at - length unread) piece
    at_piece =
        let e : at ≡ length unread + (at - length unread) = omega arith in
        ap (drop at) whole ∙ ap (λ (n : ℕ). drop n (unread ++ piece)) e ∙ drop-append-add unread piece (at - length unread)

    pub on_in_piece : {base from : ℕ} {es fs : List FrameAt} {further : ℕ} → Settles window base from es at
        → Settles (drop (at - length unread) piece) (base + at) (last_end from es) fs further
        → Settles (unread ++ piece) base from (es ++ fs) (at + further)
    on_in_piece {base} {from} {es} {fs} {further} g h =
        subst (λ (s : List ℕ). Settles s base from (es ++ fs) (at + further)) whole
        (settles_on g (drop more piece) fs further (subst⁻¹ (λ (s : List ℕ). Settles s (base + at) (last_end from es) fs further) at_piece h))

    pub stopped_in_piece : {further : ℕ} → further ≤ length (drop (at - length unread) piece)
        → (further < length (drop (at - length unread) piece) → settled (drop further (drop (at - length unread) piece)) ≡ false)
        → settled (drop (at + further) (unread ++ piece)) ≡ false
    stopped_in_piece {further} h stopped =
        ap settled (sym (drop-drop further at (unread ++ piece)) ∙ ap (drop further) (ap (drop at) (sym whole) ∙ at_piece))
        ∙ go (ltb further (length rest)) refl
      where
        rest : List ℕ
        rest = drop (at - length unread) piece

        go : (t : Bool) → ltb further (length rest) ≡ t → settled (drop further rest) ≡ false
        go true e = stopped (ltb-true further (length rest) e)
        go false e = ap settled (drop_of_length-le rest {i = further} (ltb-false further (length rest) e)) ∙ none_unsettled [] refl

-- frames kept behind others
pub kept_count : (kept part behind : List FrameAt) (n m : ℕ) → n ≤ length kept → m ≤ length part → n + m ≤ length (take n kept ++ (part ++ behind))
kept_count kept part behind n m h g = omega (arith, length-append (take n kept) (part ++ behind), length-append part behind, length-take n kept)
