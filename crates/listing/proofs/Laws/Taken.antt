-- A piece taken: from what judging and closing give, and where no place is judged. Assumes nothing.
use mathlib.Core.Path.{◌≡◌, refl, sym, ap, ap₂, subst, ◌∙◌}
use mathlib.Core.Bool.{true, false, not}
use mathlib.Core.List.{List, [], ◌∷◌, ◌++◌, append_assoc, append-nil}
use Prim.Native.Nat.{ℕ, suc, ◌+◌, ◌-◌, ◌/◌, ◌%◌, ◌<◌, ◌≤◌}
use native.Mathlib.Nat.{add-zero}
use native.Mathlib.Omega.{arith}
use lib.Dec.{ltb}
use lib.ListN.{length, get_or, take, drop, set, length-append, length-drop, drop_of_length-le, length-take}
use lib.Seq.{take_all, take-length, take-add, drop_at, drop-append-add, take-append_seam, drop-append_seam, length-take-le}
use Rattle.answer.specs.Answer.{Outcome, refused, accepted, refuse_if}
use Rattle.answer.proofs.Laws.Test.{holds, fails, below, not_below}
use Rattle.link.proofs.Laws.First.{starting}
use Rattle.listing.specs.declared.place.FrameAt.{FrameAt}
use Rattle.listing.specs.Lines.{Line}
use Rattle.listing.specs.Text.{text}
use Rattle.listing.specs.State.{State, as_state, unread_at, settled, zeros, state_bytes, state_of, is_state}
use Rattle.listing.specs.Pieces.{Progress, after, judged_from, judged_piece, Call, piece_taken, lent_room, piece}
use Rattle.listing.specs.Parts.{Within, Settles, lines_of, judged_at, last_end, closed}
use Rattle.listing.proofs.Laws.Closing.{Owed, call_with_room, known_possible}
use Rattle.listing.proofs.Laws.FramesText.{within_more}
use Rattle.listing.proofs.Laws.Judging.{left_open, at_open, at_noise}
use Rattle.listing.proofs.Laws.Settling.{text_of_lem}
use Rattle.listing.proofs.Laws.Settled.{none_unsettled, other_settled, unsettled_few}
use Rattle.listing.proofs.Laws.State.{Possible, possible_facts, state_possible, state_long, state_count, zeros-drop, bytes_of_state}

-- ---- what a state says

module _ (b : List ℕ) (known : is_state b ≡ true) where
  state_facts : Possible (state_of b)
  state_facts = possible_facts (state_of b) (state_possible b known)

  pub unread_few : length (state_of b).unread ≤ 68
  unread_few = unsettled_few (state_of b).unread state_facts.unsettled

  pub unread_came : length (state_of b).unread ≤ (state_of b).came
  unread_came = omega (arith, state_facts.late)

  pub run_came : (state_of b).run ≤ (state_of b).came
  run_came = omega (arith, state_facts.late)

  pub came_most : (state_of b).came ≤ 4096
  came_most = state_facts.most

-- ---- a piece that is judged

module _ (st : State) (p : Possible st) (bytes : List ℕ) (es : List FrameAt) (at : ℕ) where
  abbrev all : List ℕ
  all = st.unread ++ bytes

  abbrev from : ℕ
  from = unread_at st - st.run

  module _ (g : Settles all (unread_at st) from es at) (stops : settled (drop at all) ≡ false) where
    judged_so : judged_piece st bytes ≡ record { lines = lines_of from es; run = unread_at st + at - last_end from es; unread = drop at all }
    judged_so =
        let base = unread_at st in
        let last = last_end from es in
        let back : st.run ≡ base - from = omega (arith, p.late) in
        ap₂ (λ (n : ℕ) (x : List ℕ). judged_from base n 0 x) back (sym (append-nil all))
        ∙ g.same []
        ∙ ap (λ (x : List ℕ). after (lines_of from es) (judged_at last (base + at) x)) (append-nil (drop at all))
        ∙ ap (after (lines_of from es)) (at_open (drop at all) (base + at) (base + at - last) stops)
        ∙ ap (λ (ls : List Line). record { lines = ls; run = base + at - last; unread = drop at all }) (append-nil (lines_of from es))

    abbrev call : List ℕ → ℕ → Call
    call t run = record { text = t; state = state_bytes (as_state (st.came + length bytes) run (drop at all)) }

    judged-call : piece_taken st bytes ≡ call (text (lines_of from es)) (unread_at st + at - last_end from es)
    judged-call =
        ap (λ (j : Progress). record { text = text j.lines; state = state_bytes (as_state (st.came + length bytes) j.run j.unread) }) judged_so

    taken_so : piece_taken st bytes ≡ closed from (st.came + length bytes) es (drop at all)
    taken_so =
        let n : unread_at st + at - last_end from es ≡ st.came + length bytes - length (drop at all) - last_end from es =
        omega (arith, p.late, g.within, length-drop at all, length-append st.unread bytes) in
        judged-call ∙ ap₂ call (text_of_lem from es (unread_at st + at) g.inside) n

-- past the checks on state and length
pub past_checks : (room : ℕ) (b bytes : List ℕ) → is_state b ≡ true → (state_of b).came + length bytes ≤ 4096
    → piece room b bytes ≡ lent_room room (piece_taken (state_of b) bytes)
unfolding piece
past_checks room b bytes known most =
    let d = piece_taken (state_of b) bytes in
    fails 8 (refuse_if (ltb 4096 ((state_of b).came + length bytes)) 3 (lent_room room d)) (ap not known)
    ∙ not_below 3 (lent_room room d) 4096 ((state_of b).came + length bytes) most

-- and where a check refuses
pub no_state : (room : ℕ) (b bytes : List ℕ) → is_state b ≡ false → piece room b bytes ≡ refused 8
unfolding piece
no_state room b bytes e = holds 8 (refuse_if (ltb 4096 ((state_of b).came + length bytes)) 3 (lent_room room (piece_taken (state_of b) bytes))) (ap not e)

pub above_most : (room : ℕ) (b bytes : List ℕ) → is_state b ≡ true → 4096 < (state_of b).came + length bytes → piece room b bytes ≡ refused 3
unfolding piece
above_most room b bytes known h =
    let d = piece_taken (state_of b) bytes in
    fails 8 (refuse_if (ltb 4096 ((state_of b).came + length bytes)) 3 (lent_room room d)) (ap not known)
    ∙ below 3 (lent_room room d) 4096 ((state_of b).came + length bytes) h

-- a state and a piece that pass the checks, with the state's parts as the code has them
pub record Ready (b bytes : List ℕ) (came run : ℕ) (u : List ℕ) : Type 0 where
  pub known : is_state b ≡ true
  pub most : (state_of b).came + length bytes ≤ 4096
  pub is : as_state came run u ≡ state_of b

module _ {b bytes : List ℕ} {came run : ℕ} {u : List ℕ} (k : Ready b bytes came run u) where
  facts : Possible (as_state came run u)
  facts = known_possible b k.known k.is

  pub ready_most : came + length bytes ≤ 4096
  ready_most = omega (arith, k.most, ap (λ (st : State). st.came) k.is)

  pub ready_late : run + length u ≤ came
  ready_late = facts.late

  pub ready_few : length u ≤ 68
  ready_few = unsettled_few u facts.unsettled

  -- judged up to a place, with the bytes left over
  module _ {es : List FrameAt} {left : List ℕ} {at : ℕ} (g : Settles (u ++ bytes) (came - length u) (came - length u - run) es at)
      (stops : settled (drop at (u ++ bytes)) ≡ false) (rest : left ≡ drop at (u ++ bytes)) where
    left-length : length left ≡ length u + length bytes - at
    left-length = ap length rest ∙ length-drop at (u ++ bytes) ∙ ap (λ (n : ℕ). n - at) (length-append u bytes)

    -- what closing asks of them
    pub closing : (length left ≤ 69)
        × ((length left ≤ came + length bytes) × (Within (came - length u - run) es (came + length bytes - length left) × (length es ≤ 4096)))
    closing =
        let few : length (drop at (u ++ bytes)) ≤ 68 = unsettled_few (drop at (u ++ bytes)) stops in
        let long = left-length in
        let inside : at ≤ length u + length bytes = omega (arith, g.within, length-append u bytes) in
        let late : run + length u ≤ came = ready_late in
        let most : came + length bytes ≤ 4096 = ready_most in
        let n : came - length u + at ≤ came + length bytes - length left = omega arith in (
          omega (arith, ap length rest),
          (omega arith, (within_more (came - length u - run) es (came - length u + at) (came + length bytes - length left) n g.inside, omega (arith, g.few))),
        )

    -- and that closing is what the call owes
    piece-closed : (room : ℕ) → piece room b bytes ≡ lent_room room (closed (came - length u - run) (came + length bytes) es left)
    piece-closed room =
        past_checks room b bytes k.known k.most
        ∙ ap (λ (st : State). lent_room room (piece_taken st bytes)) (sym k.is)
        ∙ ap (lent_room room) (taken_so (as_state came run u) facts bytes es at g stops)
        ∙ ap (λ (x : List ℕ). lent_room room (closed (came - length u - run) (came + length bytes) es x)) (sym rest)

    pub owed_closed : {answer : Outcome ℕ} {out' state' : List ℕ} (out state : List ℕ)
        → Owed (lent_room (length out) (closed (came - length u - run) (came + length bytes) es left)) answer out out' state state'
        → Owed (piece (length out) b bytes) answer out out' state state'
    owed_closed {answer} {out'} {state'} out state w =
        subst (λ (x : Outcome Call). Owed x answer out out' state state') (sym (piece-closed (length out))) w

-- the bytes left over, in the window and in the piece
pub left_in_window : (at n : ℕ) (w s : List ℕ) → at ≤ n → take n w ≡ s → length s ≡ n → take (n - at) (drop at w) ≡ drop at s
left_in_window at n w s h same long =
    let enough : n ≤ length w = omega (arith, ap length same, length-take n w) in
    let sum : at + (n - at) ≡ n = omega arith in
    sym (drop_at (take at w) (take (n - at) (drop at w)) at (length-take-le at w (omega arith)))
    ∙ ap (drop at) (sym (take-add at (n - at) w) ∙ ap (λ (m : ℕ). take m w) sum ∙ same)

pub left_in_piece : (at : ℕ) (u bytes : List ℕ) → length u ≤ at → take (length bytes - (at - length u)) (drop (at - length u) bytes) ≡ drop at (u ++ bytes)
left_in_piece at u bytes h =
    let sum : length u + (at - length u) ≡ at = omega arith in
    take_all (length bytes - (at - length u)) (drop (at - length u) bytes) (omega (arith, length-drop (at - length u) bytes))
    ∙ sym (drop-append-add u bytes (at - length u))
    ∙ ap (λ (m : ℕ). drop m (u ++ bytes)) sum

-- ---- a piece behind the unread bytes, where no place is judged

module _ (st : State) (bytes : List ℕ) where
  abbrev pub kept : Call
  kept = record { text = []; state = state_bytes (as_state (st.came + length bytes) st.run (st.unread ++ bytes)) }

  taken_waiting : settled (st.unread ++ bytes) ≡ false → piece_taken st bytes ≡ kept
  unfolding text
  taken_waiting stops =
      ap (λ (j : Progress). record { text = text j.lines; state = state_bytes (as_state (st.came + length bytes) j.run j.unread) })
      (at_open (st.unread ++ bytes) (unread_at st) st.run stops)

pub piece_waiting : (room : ℕ) (b bytes : List ℕ) → is_state b ≡ true → (state_of b).came + length bytes ≤ 4096 → settled ((state_of b).unread ++ bytes) ≡ false
    → piece room b bytes ≡ accepted (kept (state_of b) bytes)
piece_waiting room b bytes known most stops =
    past_checks room b bytes known most
    ∙ ap (lent_room room) (taken_waiting (state_of b) bytes stops)
    ∙ call_with_room room (kept (state_of b) bytes) (omega arith)

-- the state's place is not settled by the piece, as the code has it
module _ (b bytes : List ℕ) (known : is_state b ≡ true) where
  pub waits : (u : List ℕ) → u ≡ (state_of b).unread → (settled u ≡ false → (t : List ℕ) → length t ≡ length bytes → settled (u ++ t) ≡ false)
      → settled ((state_of b).unread ++ bytes) ≡ false
  waits u is later = ap (λ (x : List ℕ). settled (x ++ bytes)) (sym is) ∙ later (ap settled is ∙ (state_facts b known).unsettled) bytes refl

  pub waiting_fits : settled ((state_of b).unread ++ bytes) ≡ false → length (state_of b).unread + length bytes ≤ 69
  waiting_fits stops = omega (arith, unsettled_few ((state_of b).unread ++ bytes) stops, length-append (state_of b).unread bytes)

-- ---- a piece of noise where nothing is unread

-- none of so many first bytes starts a frame
abbrev pub NoiseTo : List ℕ → ℕ → Type 0
NoiseTo s n = (i : ℕ) → i < n → get_or s i 0 ≡ 0x5A → ⊥

-- bytes of which none starts a frame make the run of noise longer, and none stays unread
noise-run : (s : List ℕ) (offset run : ℕ) → NoiseTo s (length s) → judged_from offset run 0 s ≡ left_open (run + length s) []
noise-run [] offset run noise =
    at_open [] offset run (none_unsettled [] refl) ∙ ap (λ (n : ℕ). left_open n []) (sym (add-zero run))
noise-run (b ∷ s) offset run noise =
    let other : get_or (b ∷ s) 0 0 ≡ 0x5A → ⊥ = noise 0 (omega arith) in
    let sum : run + 1 + length s ≡ run + suc (length s) = omega arith in
    at_noise b s offset run (other_settled (b ∷ s) (λ e. omega arith) other) (λ f e. other (starting (b ∷ s) f e).start)
    ∙ noise-run s (offset + 1) (run + 1) (λ i h. noise (suc i) (omega arith))
    ∙ ap (λ (n : ℕ). left_open n []) sum

module _ (st : State) (bytes : List ℕ) where
  abbrev pub counted_on : Call
  counted_on = record { text = []; state = state_bytes (as_state (st.came + length bytes) (st.run + length bytes) []) }

  taken-noise : st.unread ≡ [] → NoiseTo bytes (length bytes) → piece_taken st bytes ≡ counted_on
  unfolding text
  taken-noise none noise =
      ap (λ (j : Progress). record { text = text j.lines; state = state_bytes (as_state (st.came + length bytes) j.run j.unread) })
      (ap (λ (u : List ℕ). judged_from (unread_at st) st.run 0 (u ++ bytes)) none ∙ noise-run bytes (unread_at st) st.run noise)

pub piece-noise : (room : ℕ) (b bytes : List ℕ) → is_state b ≡ true → (state_of b).came + length bytes ≤ 4096 → (state_of b).unread ≡ [] → NoiseTo bytes (length bytes)
    → piece room b bytes ≡ accepted (counted_on (state_of b) bytes)
piece-noise room b bytes known most none noise =
    past_checks room b bytes known most
    ∙ ap (lent_room room) (taken-noise (state_of b) bytes none noise)
    ∙ call_with_room room (counted_on (state_of b) bytes) (omega arith)

-- no byte is unread, as the code has it
pub none_unread : (b u : List ℕ) → u ≡ (state_of b).unread → length u ≡ 0 → (state_of b).unread ≡ []
none_unread b [] is none = sym is
none_unread b (x ∷ u) is none = let z : ⊥ = omega arith in absurd z

-- the stores of its two numbers into a state
module _ (total noise : ℕ) where
  abbrev pub numbered : List ℕ → List ℕ
  numbered b = set (set (set (set b 0 (total / 256)) 1 (total % 256)) 2 (noise / 256)) 3 (noise % 256)

  numbers-stored : (st : State) → st.unread ≡ [] → numbered (state_bytes st) ≡ state_bytes (as_state total noise [])
  unfolding state_bytes
  numbers-stored st none = ap (λ (u : List ℕ). state_bytes (as_state total noise u)) none

  pub state_passed : (b : List ℕ) (count : ℕ) → ((i : ℕ) → get_or b i 0 < 256) → is_state b ≡ true → (state_of b).unread ≡ []
      → total ≡ (state_of b).came + count → noise ≡ (state_of b).run + count
      → numbered b ≡ state_bytes (as_state ((state_of b).came + count) ((state_of b).run + count) [])
  state_passed b count small known none came-on run_on =
      ap numbered (sym (bytes_of_state b small known))
      ∙ numbers-stored (state_of b) none
      ∙ ap₂ (λ (x y : ℕ). state_bytes (as_state x y [])) came-on run_on

-- ---- the bytes of a state with a piece behind its unread bytes

pub unread_count : (b : List ℕ) → is_state b ≡ true → length (state_of b).unread ≡ get_or b 4 0
unfolding state_of
unread_count b known =
    length-take-le (get_or b 4 0) (drop 5 b) (omega (arith, state_long b known, state_count b known, length-drop 5 b))

module _ (p : List ℕ) (total : ℕ) where
  -- the stores of the two numbers that change, and of the piece
  abbrev pub counted : List ℕ → List ℕ
  counted b = set (set (set b 0 (total / 256)) 1 (total % 256)) 4 (get_or b 4 0 + length p)

  abbrev pub stored : ℕ → ℕ → List ℕ → List ℕ
  stored from n h = take from h ++ ((take (length p) p ++ drop (length p) (take n (drop from h))) ++ drop n (drop from h))

  stored-behind : (st : State) → total ≡ st.came + length p
      → stored (5 + length st.unread) (5 + length st.unread + length p - (5 + length st.unread)) (counted (state_bytes st))
      ≡ state_bytes (as_state (st.came + length p) st.run (st.unread ++ p))
  unfolding state_bytes
  stored-behind st sum =
      let u = st.unread in
      let n = length u in
      let q = length p in
      let z = zeros (69 - n) in
      let head : ℕ → ℕ → List ℕ → List ℕ = λ t k x. t / 256 ∷ t % 256 ∷ st.run / 256 ∷ st.run % 256 ∷ k ∷ x in
      let five : 5 + n ≡ suc (suc (suc (suc (suc n)))) = omega arith in
      let size : 5 + n + q - (5 + n) ≡ q = omega arith in
      let none : drop q (take q z) ≡ [] = drop_of_length-le (take q z) {i = q} (simp length-take (omega arith)) in
      let both : n + q ≡ length (u ++ p) = sym (length-append u p) in
      let fewer : 69 - n - q ≡ 69 - length (u ++ p) = omega arith in
      ap₂ (λ (k m : ℕ). stored k m (head total (n + q) (u ++ z))) five size
      ∙ ap₂ (λ (x y : List ℕ). head total (n + q) (x ++ ((take q p ++ drop q (take q y)) ++ drop q y))) (take-append_seam u z) (drop-append_seam u z)
      ∙ ap₂ (λ (x y : List ℕ). head total (n + q) (u ++ ((x ++ y) ++ drop q z))) (take-length p) none
      ∙ ap₂ (λ (x y : List ℕ). head total (n + q) (u ++ (x ++ y))) (append-nil p) (zeros-drop q (69 - n))
      ∙ ap (head total (n + q)) (sym (append_assoc u p (zeros (69 - n - q))))
      ∙ ap₂ (λ (k m : ℕ). head total k ((u ++ p) ++ zeros m)) both fewer
      ∙ ap (λ (t : ℕ). head t (length (u ++ p)) ((u ++ p) ++ zeros (69 - length (u ++ p)))) sum

  pub state_appended : (b : List ℕ) → ((i : ℕ) → get_or b i 0 < 256) → is_state b ≡ true → total ≡ (state_of b).came + length p
      → stored (5 + get_or b 4 0) (5 + get_or b 4 0 + length p - (5 + get_or b 4 0)) (counted b)
      ≡ state_bytes (as_state ((state_of b).came + length p) (state_of b).run ((state_of b).unread ++ p))
  state_appended b small known sum =
      ap₂ (λ (n : ℕ) (x : List ℕ). stored (5 + n) (5 + n + length p - (5 + n)) (counted x)) (sym (unread_count b known)) (sym (bytes_of_state b small known))
      ∙ stored-behind (state_of b) sum
