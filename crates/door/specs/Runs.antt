-- Document 02, K6: runs of messages, one after the other at one door, and what is claimed of calls and runs.
use Rattle.std.specs.Prelude.{ℕ, ◌+◌, ◌<◌, ◌≤◌, ◌≡◌, true, List, [], ◌∷◌, take}
use Rattle.answer.specs.Answer.{Outcome, refused, accepted}
use Rattle.door.specs.State.{is_secret, is_state, seconds_left}
use Rattle.door.specs.Door.{login_type, step, reply_by, state_after}
use Rattle.door.specs.declared.Reply.{Reply}
use Rattle.door.specs.declared.Reply.TheVariants.{Acknowledge}

-- a message sent to the door: the whole seconds given with it, its type and its data bytes
pub record Sent : Type 0 where
  pub seconds : ℕ
  pub kind : ℕ
  pub bytes : List ℕ

-- what is seen of one call: the message, the answer or the refusal, and the lent state afterwards
pub record Call : Type 0 where
  pub sent : Sent
  pub answer : Outcome Reply
  pub state : List ℕ

-- the call with a message, at a lent state
abbrev pub call : List ℕ → List ℕ → Sent → Call
call secret lent m =
    record {
      sent = m;
      answer = reply_by (step secret lent m.seconds m.kind m.bytes);
      state = state_after (step secret lent m.seconds m.kind m.bytes) lent;
    }

-- a run: each call at the state that the one before left
unfoldable pub run : List ℕ → List ℕ → List Sent → List Call
run secret lent [] = []
run secret lent (m ∷ ms) = call secret lent m ∷ run secret (call secret lent m).state ms

-- a call that accepts a login: type 20, answered 05
abbrev pub Accepts : Call → Type 0
Accepts c = (c.sent.kind ≡ login_type) × (c.answer ≡ accepted Acknowledge)

-- no call of a run accepts a login
unfoldable pub NoLogin : List Call → Type 0
NoLogin [] = Unit {0}
NoLogin (c ∷ cs) = (Accepts c → ⊥) × NoLogin cs

-- the seconds that a call counts: those given with it where it was accepted
abbrev pub seconds_of : Outcome Reply → ℕ → ℕ
seconds_of (refused n) seconds = 0
seconds_of (accepted r) seconds = seconds

-- those of a run, added up
unfoldable pub seconds_passed : List Call → ℕ
seconds_passed [] = 0
seconds_passed (c ∷ cs) = seconds_of c.answer c.sent.seconds + seconds_passed cs

-- the lent state after the last call of a run
unfoldable pub state_found : List ℕ → List Call → List ℕ
state_found lent [] = lent
state_found lent (c ∷ cs) = state_found c.state cs

-- The door keeps its secret. Take the same messages and times at two doors that start from the same lent state, and two secrets of four
-- digits; look at as many of the first calls as you like, so long as among them neither door has accepted a login. Then every answer, every
-- refusal and every state is the same at both. So whoever has not logged in has learned of the secret at most that the digits tried are not
-- it: no answer and no state tells how near a wrong login came. The paper asks this of logged-out states; it holds from every state.
-- What it does not say: it speaks of answers and states, not of the time that a call takes (the code compares all four digits all the
-- same) nor of anything else that can be measured; it says nothing from the first accepted login on; and it hinders nobody from trying
-- one secret after the other, as often as the shut-outs let him.
abbrev pub KeepsSecret : Type 0
KeepsSecret = (first second lent : List ℕ) (messages : List Sent) (n : ℕ) → is_secret first ≡ true → is_secret second ≡ true
    → NoLogin (take n (run first lent messages)) → NoLogin (take n (run second lent messages))
    → take n (run first lent messages) ≡ take n (run second lent messages)

-- from every state that is taken, whose seconds left are at most those given, the right login is answered 05 and leaves logged in, none
-- counted and no seconds left
abbrev pub Opens : Type 0
Opens = (secret lent : List ℕ) (seconds : ℕ) → is_secret secret ≡ true → is_state lent ≡ true → seconds_left lent ≤ seconds
    → (reply_by (step secret lent seconds login_type secret) ≡ accepted Acknowledge) × (state_after (step secret lent seconds login_type secret) lent ≡ 1 ∷ 0 ∷ 0 ∷ 0 ∷ [])

-- a login that is accepted has the digits of the secret, and the secret is one
abbrev pub OnlyTheSecret : Type 0
OnlyTheSecret = (secret lent : List ℕ) (m : Sent) → Accepts (call secret lent m) → (is_secret secret ≡ true) × (m.bytes ≡ secret)

-- from a state with some seconds left, no run whose accepted calls' seconds add up to less has a login answered 05
abbrev pub StaysShut : Type 0
StaysShut = (secret lent : List ℕ) (messages : List Sent) → seconds_passed (run secret lent messages) < seconds_left lent
    → NoLogin (run secret lent messages)

-- and such a run, whatever its messages are, takes just those seconds off
abbrev pub CountsDown : Type 0
CountsDown = (secret lent : List ℕ) (messages : List Sent) → seconds_passed (run secret lent messages) < seconds_left lent
    → seconds_left (state_found lent (run secret lent messages)) + seconds_passed (run secret lent messages) ≡ seconds_left lent

-- an accepted call leaves a state that the next call takes
abbrev pub LeavesAState : Type 0
LeavesAState = (secret lent : List ℕ) (seconds kind : ℕ) (d : List ℕ) (r : Reply) → reply_by (step secret lent seconds kind d) ≡ accepted r
    → is_state (state_after (step secret lent seconds kind d) lent) ≡ true

pub record LoginDoor : Type 0 where
  pub keeps_secret : KeepsSecret
  pub opens : Opens
  pub only_the_secret : OnlyTheSecret
  pub stays_shut : StaysShut
  pub counts_down : CountsDown
  pub leaves_a_state : LeavesAState
