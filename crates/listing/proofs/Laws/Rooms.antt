-- How much room the lines of a call take at most. Assumes nothing.
use mathlib.Core.Path.{◌≡◌, ap, subst⁻¹, ◌∙◌}
use mathlib.Core.Bool.{true}
use mathlib.Core.List.{List, [], ◌∷◌, ◌++◌}
use Prim.Native.Nat.{ℕ, zero, suc, ◌+◌, ◌-◌, ◌*◌, ◌<◌, ◌≤◌}
use native.Mathlib.Omega.{arith}
use lib.ListN.{length, get_or, drop, length-append, length-drop}
use lib.Seq.{get_or-drop}
use Rattle.answer.specs.Answer.{Outcome, accepted, on_accepted, and_then}
use Rattle.link.specs.Frame.{size}
use Rattle.link.proofs.Laws.First.{Starting, starting}
use Rattle.listing.specs.Lines.{frame, after_noise}
use Rattle.listing.specs.Text.{text}
use Rattle.listing.specs.State.{State, unread_at, possible, state_of, is_state, fresh}
use Rattle.listing.specs.Pieces.{judged_from, Call, piece_taken, finished, piece, Piece, joined, both, calls, WithRoom}
use Rattle.listing.proofs.Laws.Calls.{left_by, takes, piece_leaves_state, piece-state_of}
use Rattle.listing.proofs.Laws.Closing.{call_with_room, finish-checked}
use Rattle.listing.proofs.Laws.Judging.{by_places}
use Rattle.listing.proofs.Laws.Places.{text_joined}
use Rattle.listing.proofs.Laws.Sizes.{after_bound, frame_bound, bound_from}
use Rattle.listing.proofs.Laws.Settled.{unsettled_few}
use Rattle.listing.proofs.Laws.State.{Possible, possible_facts, state_possible, fresh-is_state, fresh_of}

-- a frame of at least 5 bytes and the noise before it have lines of at most 37
lines_bound : (offset run : ℕ) (s : List ℕ) → ((i : ℕ) → get_or s i 0 < 10000) → run ≤ offset → offset + length s < 10000
    → length (text (judged_from offset run 0 s).lines) ≤ 8 * length s
unfolding text
lines_bound =
    by_places (λ offset run s j. ((i : ℕ) → get_or s i 0 < 10000) → run ≤ offset → offset + length s < 10000 → length (text j.lines) ≤ 8 * length s)
    (λ offset run s e small r o. omega arith)
    (λ offset run b s j e none later small r o. omega (arith, later (λ i. small (suc i)) (omega arith) (omega arith)))
    (λ offset run s f j is later small r o.
    let w : Starting s f = starting s f is in
    let left : length (drop (size f) s) ≡ length s - size f = length-drop (size f) s in
    let l = frame offset (size f) f.kind in
    omega (
      arith,
      w.least,
      w.inside,
      ap length (text_joined (after_noise offset run (l ∷ [])) j.lines),
      length-append (text (after_noise offset run (l ∷ []))) (text j.lines),
      after_bound offset run (l ∷ []) (omega arith) (omega arith),
      frame_bound offset (size f) f.kind [] (omega arith) (omega (arith, w.inside)) (w.kind 10000 small),
      later (λ i. omega (arith, small (size f + i), get_or-drop (size f) s i 0)) (omega arith) (omega (arith, w.inside)),
    ))

-- the bytes of a state's unread part and of a piece
module _ (st : State) (is : possible st ≡ true) where
  facts : Possible st
  facts = possible_facts st is

  few : length st.unread ≤ 68
  few = unsettled_few st.unread facts.unsettled

  -- eight bytes of text for each byte of a piece, and 544 more for those unread before it, are always enough
  pub enough_for_piece : (bytes : List ℕ) → ((i : ℕ) → get_or (st.unread ++ bytes) i 0 < 10000) → st.came + length bytes ≤ 4096
      → length (piece_taken st bytes).text ≤ 8 * length bytes + 544
  enough_for_piece bytes small h =
      let both : length (st.unread ++ bytes) ≡ length st.unread + length bytes = length-append st.unread bytes in
      omega (
        arith,
        few,
        lines_bound (st.came - length st.unread) st.run (st.unread ++ bytes) small (omega (arith, facts.late)) (omega (arith, facts.late)),
      )

  pub enough_to_finish : ((i : ℕ) → get_or st.unread i 0 < 10000) → length (finished st).text ≤ 569
  enough_to_finish small =
      omega (
        arith,
        few,
        bound_from (st.came - length st.unread) st.run 0 st.unread small (omega (arith, facts.late)) (omega (arith, facts.late, facts.most)) (omega arith),
      )

-- ---- no call refuses, where the capture is not too long and each has such a room

abbrev Small : List ℕ → Type 0
Small s = (i : ℕ) → get_or s i 0 < 10000

left_small : (offset run : ℕ) (s : List ℕ) → Small s → Small (judged_from offset run 0 s).unread
left_small =
    by_places (λ offset run s j. Small s → Small j.unread)
    (λ offset run s e small. small)
    (λ offset run b s j e none later small. later (λ i. small (suc i)))
    (λ offset run s f j is later small. later (λ i. omega (arith, small (size f + i), get_or-drop (size f) s i 0)))

both_small : (s t : List ℕ) → Small s → Small t → Small (s ++ t)
both_small [] t h g i = g i
both_small (b ∷ s) t h g zero = h 0
both_small (b ∷ s) t h g (suc i) = both_small s t (λ k. h (suc k)) g i

accepted-from : (ps : List Piece) (b : List ℕ) (room : ℕ) → is_state b ≡ true → Small (state_of b).unread → WithRoom ps
    → (state_of b).came + length (joined ps) ≤ 4096 → 569 ≤ room → (c : Call) × (calls b ps room ≡ accepted c)
unfolding calls joined
accepted-from [] b room known small rooms most h =
    let st = state_of b in
    (finished st, finish-checked room b known ∙ call_with_room room (finished st) (omega (arith, enough_to_finish st (state_possible b known) small)))
accepted-from (p ∷ ps) b room known small rooms most h =
    let st = state_of b in
    let l : length (p.bytes ++ joined ps) ≡ length p.bytes + length (joined ps) = length-append p.bytes (joined ps) in
    let now-most : st.came + length p.bytes ≤ 4096 = omega arith in
    let bytes_small : Small (st.unread ++ p.bytes) = both_small st.unread p.bytes small (λ i. omega (arith, rooms.0 i)) in
    let d = piece_taken st p.bytes in
    let e : piece p.room b p.bytes ≡ accepted d =
    takes p.room b p.bytes known now-most (omega (arith, rooms.1.0, enough_for_piece st (state_possible b known) p.bytes bytes_small now-most)) in
    let left : state_of d.state ≡ left_by st p.bytes = piece-state_of p.room b p.bytes d e in
    let later = accepted-from ps d.state room (piece_leaves_state p.room b p.bytes d e)
    (subst⁻¹ (λ (x : State). Small x.unread) left (left_small (unread_at st) st.run (st.unread ++ p.bytes) bytes_small))
    rooms.1.1 (omega (arith, ap (λ (x : State). x.came) left)) h in (
      both d later.0,
      ap (λ (o : Outcome Call). and_then o (λ c. on_accepted (both c) (calls c.state ps room))) e
          ∙ ap (on_accepted (both d)) later.1,
    )

pub none_refused : (ps : List Piece) (room : ℕ) → WithRoom ps → length (joined ps) ≤ 4096 → 569 ≤ room → (c : Call) × (calls fresh ps room ≡ accepted c)
none_refused ps room rooms most h =
    let n : (state_of fresh).came ≡ 0 = ap (λ (x : State). x.came) fresh_of in
    accepted-from ps fresh room fresh-is_state (subst⁻¹ (λ (x : State). Small x.unread) fresh_of (λ i. omega arith)) rooms (omega arith) h
