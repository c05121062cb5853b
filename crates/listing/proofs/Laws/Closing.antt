-- What a call comes to where its lines fit the lent output, and where not. Assumes nothing.
use mathlib.Core.Path.{◌≡◌, refl, sym, ap, subst⁻¹, ◌∙◌}
use mathlib.Core.Bool.{Bool, true, false}
use mathlib.Core.List.{List}
use Prim.Native.Nat.{ℕ, ◌+◌, ◌-◌, ◌<◌, ◌≤◌}
use native.Mathlib.Omega.{arith}
use lib.ListN.{length}
use lib.Dec.{ltb}
use borrow.Author.Tests.{ltb-true, ltb-false}
use Rattle.answer.specs.Answer.{Outcome, refused, accepted, on_accepted, out_after}
use Rattle.answer.proofs.Laws.Output.{no_room, with_room}
use Rattle.listing.specs.declared.place.FrameAt.{FrameAt}
use Rattle.listing.specs.Lines.{lines_from}
use Rattle.listing.specs.Text.{text}
use Rattle.listing.specs.State.{State, as_state, state_bytes, state_of, is_state}
use Rattle.listing.specs.Pieces.{Call, finished, lent_room, finish, printed_by, state_after}
use Rattle.listing.specs.Parts.{Within, Ends, last_end, found_text, closed, Put}
use Rattle.listing.proofs.Laws.FramesText.{within_more}
use Rattle.listing.proofs.Laws.Output.{from_start, size_from_start}
use Rattle.listing.proofs.Laws.Settling.{ends_text}
use Rattle.listing.proofs.Laws.Settled.{unsettled_few}
use Rattle.listing.proofs.Laws.State.{Possible, possible_facts, state_possible}

module _ (room : ℕ) (c : Call) where
  pub call_no_room : room < length c.text → lent_room room c ≡ refused 9
  call_no_room h = ap (on_accepted (λ t. c)) (no_room room c.text h)

  pub call_with_room : length c.text ≤ room → lent_room room c ≡ accepted c
  call_with_room h = ap (on_accepted (λ t. c)) (with_room room c.text h)

  -- one or the other
  pub by_room : (P : Outcome Call → Type 0) → (room < length c.text → P (refused 9)) → (length c.text ≤ room → P (accepted c)) → P (lent_room room c)
  by_room P little enough = go (ltb room (length c.text)) refl
    where
      go : (t : Bool) → ltb room (length c.text) ≡ t → P (lent_room room c)
      go true e = let h = ltb-true room (length c.text) e in subst⁻¹ P (call_no_room h) (little h)
      go false e = let h = ltb-false room (length c.text) e in subst⁻¹ P (call_with_room h) (enough h)

-- the answer, the output and the state as a call owes them
abbrev pub Owed : Outcome Call → Outcome ℕ → List ℕ → List ℕ → List ℕ → List ℕ → Type 0
Owed o answer out out' state state' =
    (answer ≡ on_accepted length (printed_by o)) × ((out' ≡ out_after (printed_by o) out) × (state' ≡ state_after o state))

-- a refused call answers the refusal and leaves all as it was
pub call-refused : {o : Outcome Call} {n : ℕ} (out state : List ℕ) → o ≡ refused n → Owed o (refused n) out out state state
call-refused out state e = (
  sym (ap (λ (x : Outcome Call). on_accepted length (printed_by x)) e),
  (sym (ap (λ (x : Outcome Call). out_after (printed_by x) out) e), sym (ap (λ (x : Outcome Call). state_after x state) e)),
)

-- a call that is accepted has put its text and its state, and answers the text's size
pub call-accepted : {o : Outcome Call} {c : Call} {n : ℕ} {out out' state' : List ℕ} (state : List ℕ) → o ≡ accepted c → Put 0 c.text out out' n
    → state' ≡ c.state → Owed o (accepted n) out out' state state'
call-accepted {o} {c} {n} {out} state e put kept = (
  ap accepted (size_from_start put) ∙ sym (ap (λ (x : Outcome Call). on_accepted length (printed_by x)) e),
  (from_start put ∙ sym (ap (λ (x : Outcome Call). out_after (printed_by x) out) e), kept ∙ sym (ap (λ (x : Outcome Call). state_after x state) e)),
)

-- the state that a call leaves, with the end of the last frame as the code has it
pub closed_state : (from came : ℕ) (es : List FrameAt) (unread : List ℕ) (last : ℕ) → last ≡ last_end from es
    → state_bytes (as_state came (came - length unread - last) unread) ≡ (closed from came es unread).state
closed_state from came es unread last e = ap (λ (n : ℕ). state_bytes (as_state came (came - length unread - n) unread)) e

-- the frames before the unread bytes lie inside any capture
pub closed-within : (from came : ℕ) (es : List FrameAt) (unread : List ℕ) → came ≤ 4096 → Within from es (came - length unread) → Within from es 4096
closed-within from came es unread h w = within_more from es (came - length unread) 4096 (omega (arith, h)) w

-- ---- the finishing call

module _ (room : ℕ) (b : List ℕ) where
  pub finish-refused : is_state b ≡ false → finish room b ≡ refused 8
  unfolding finish
  finish-refused h = simp h

  pub finish-checked : is_state b ≡ true → finish room b ≡ lent_room room (finished (state_of b))
  unfolding finish
  finish-checked h = simp h

-- with the numbers and the unread bytes of the state, as the code has them
module _ (b : List ℕ) {came run : ℕ} {u : List ℕ} (known : is_state b ≡ true) (is : as_state came run u ≡ state_of b) where
  pub known_possible : Possible (as_state came run u)
  known_possible = subst⁻¹ (λ (st : State). Possible st) is (possible_facts (state_of b) (state_possible b known))

  abbrev base : ℕ
  base = came - length u

  -- and with the frames found among those
  module _ {es : List FrameAt} (g : (from : ℕ) → from ≤ base → Ends u base from es (length u)) where
    ended : Ends u base (base - run) es (length u)
    ended = g (base - run) (omega arith)

    pub finish-within : Within (base - run) es came
    finish-within = within_more (base - run) es (base + length u) came (omega (arith, known_possible.late)) ended.inside

    pub finish_few : length es ≤ 13
    finish_few = omega (arith, ended.few, unsettled_few u known_possible.unsettled)

    pub finish_text : (finished (state_of b)).text ≡ found_text (base - run) es came
    finish_text =
        let back : run ≡ base - (base - run) = omega (arith, known_possible.late) in
        let all : base + length u ≡ came = omega (arith, known_possible.late) in
        ap (λ (st : State). (finished st).text) (sym is)
        ∙ ap (λ (n : ℕ). text (lines_from base n 0 u)) back
        ∙ ends_text ended
        ∙ ap (found_text (base - run) es) all

    pub finish_no_room : (room : ℕ) → room < length (found_text (base - run) es came) → finish room b ≡ refused 9
    finish_no_room room h =
        let long = ap length finish_text in
        finish-checked room b known ∙ call_no_room room (finished (state_of b)) (omega (arith, long))

    pub finish_with_room : (room : ℕ) → length (found_text (base - run) es came) ≤ room → finish room b ≡ accepted (finished (state_of b))
    finish_with_room room h =
        let long = ap length finish_text in
        finish-checked room b known ∙ call_with_room room (finished (state_of b)) (omega (arith, long))
