-- Document 02, K3: a capture as the port delivers it, in pieces, and the finishing call.
use Rattle.std.specs.Prelude.{ℕ, zero, suc, ◌+◌, ◌-◌, ◌*◌, ◌<◌, ◌≤◌, cond, not, List, [], ◌∷◌, ◌++◌, ◌≡◌, ltb, length, get_or}
use Rattle.answer.specs.Answer.{Outcome, refused, accepted, refuse_if, on_accepted, and_then, in_room}
use Rattle.link.specs.Frame.{read_first, size}
use Rattle.listing.specs.Lines.{Line, frame, judged, after_noise, lines_from}
use Rattle.listing.specs.Text.{text, longest}
use Rattle.listing.specs.State.{State, as_state, unread_at, settled, state_of, state_bytes, is_state, fresh}

-- what judging comes to: the lines of the frames and of the noise before them, the noise bytes without a line, and the bytes not
-- read yet
pub record Progress : Type 0 where
  pub lines : List Line
  pub run : ℕ
  pub unread : List ℕ

-- the same, with lines before
abbrev pub after : List Line → Progress → Progress
after ls j = record { lines = ls ++ j.lines; run = j.run; unread = j.unread }

-- from the left, as the listing judges, up to a place that is not settled. The numbers are those of `lines_from`
unfoldable pub judged_from : ℕ → ℕ → ℕ → List ℕ → Progress
judged_from offset run taken [] = record { lines = []; run = run; unread = [] }
judged_from offset run (suc taken) (b ∷ s) = judged_from (offset + 1) run taken s
judged_from offset run zero (b ∷ s) =
    cond (settled (b ∷ s))
    (judged (read_first (b ∷ s))
    (λ n. judged_from (offset + 1) (run + 1) 0 s)
    (λ f. after (after_noise offset run (frame offset (size f) f.kind ∷ [])) (judged_from (offset + 1) 0 (size f - 1) s)))
    (record { lines = []; run = run; unread = b ∷ s })

-- the unread bytes and a piece behind them, judged
abbrev pub judged_piece : State → List ℕ → Progress
judged_piece st bytes = judged_from (unread_at st) st.run 0 (st.unread ++ bytes)

-- what a call prints, and the state that it leaves
pub record Call : Type 0 where
  pub text : List ℕ
  pub state : List ℕ

-- a piece prints the lines of what is judged, and leaves the rest without a line
abbrev pub piece_taken : State → List ℕ → Call
piece_taken st bytes =
    let j = judged_piece st bytes in
    record { text = text j.lines; state = state_bytes (as_state (st.came + length bytes) j.run j.unread) }

-- the finishing call judges the unread bytes as cut off: as the listing does, with nothing behind them
abbrev pub finished : State → Call
finished st = record { text = text (lines_from (unread_at st) st.run 0 st.unread); state = fresh }

-- the last check: 9 where the call's lines are longer than the lent output
abbrev pub lent_room : ℕ → Call → Outcome Call
lent_room room c = on_accepted (λ t. c) (in_room room (accepted c.text))

-- a piece: 8 for a state that no pieces lead to, 3 where it takes the capture above 4,096 bytes, 9 for too little room
unfoldable pub piece : ℕ → List ℕ → List ℕ → Outcome Call
piece room lent bytes =
    refuse_if (not (is_state lent)) 8
    (refuse_if (ltb longest ((state_of lent).came + length bytes)) 3
    (lent_room room (piece_taken (state_of lent) bytes)))

-- the finishing call: 8, then 9
unfoldable pub finish : ℕ → List ℕ → Outcome Call
finish room lent = refuse_if (not (is_state lent)) 8 (lent_room room (finished (state_of lent)))

-- a refusal prints nothing and leaves the state as it was
abbrev pub printed_by : Outcome Call → Outcome (List ℕ)
printed_by o = on_accepted (λ c. c.text) o

abbrev pub state_after : Outcome Call → List ℕ → List ℕ
state_after (refused n) lent = lent
state_after (accepted c) lent = c.state

-- ---- calls one after the other

-- a piece as it is handed over: its bytes, and the room for its lines
pub record Piece : Type 0 where
  pub bytes : List ℕ
  pub room : ℕ

-- the bytes of pieces, joined
unfoldable pub joined : List Piece → List ℕ
joined [] = []
joined (p ∷ ps) = p.bytes ++ joined ps

-- two calls: their texts joined, and the state that the second leaves
abbrev pub both : Call → Call → Call
both c d = record { text = c.text ++ d.text; state = d.state }

-- pieces from a state on, and then the finishing call with its room: the texts joined, and the state that is left
unfoldable pub calls : List ℕ → List Piece → ℕ → Outcome Call
calls lent [] room = finish room lent
calls lent (p ∷ ps) room = and_then (piece p.room lent p.bytes) (λ c. on_accepted (both c) (calls c.state ps room))

-- the state that pieces lead to
unfoldable pub led_to : List ℕ → List Piece → Outcome (List ℕ)
led_to lent [] = accepted lent
led_to lent (p ∷ ps) = and_then (piece p.room lent p.bytes) (λ c. led_to c.state ps)

-- no pieces lead to a state
abbrev pub Unreached : List ℕ → Type 0
Unreached lent = (ps : List Piece) → led_to fresh ps ≡ accepted lent → ⊥

-- pieces of bytes, each with eight bytes of room for each of its own, and 544 more
abbrev pub WithRoom : List Piece → Type 0
WithRoom [] = Unit {0}
WithRoom (p ∷ ps) = ((i : ℕ) → get_or p.bytes i 0 < 256) × ((8 * length p.bytes + 544 ≤ p.room) × WithRoom ps)
