-- Document 02, K6: what the door does with one message. The checks of secret and state, the writer's 6, 7, 8, time, then the message.
use Rattle.std.specs.Prelude.{ℕ, ◌+◌, ◌-◌, Bool, true, false, cond, not, ◌&&◌, List, [], ◌∷◌, eqb, ltb, get_or}
use Rattle.answer.specs.Answer.{Outcome, refused, accepted, refuse_if, and_then, on_accepted}
use Rattle.answer.specs.Packed.{Field, byte}
use Rattle.message.specs.Message.{write_message}
use Rattle.door.specs.State.{most_wrong, shut_out, is_secret, is_state, state_of, state_bytes}
use Rattle.door.specs.declared.Reply.{Reply}
use Rattle.door.specs.declared.Reply.TheVariants.{Acknowledge, NegativeAcknowledge, PassedOn}
use Rattle.door.specs.declared.judge.Judged.{Judged}
use Rattle.door.specs.declared.state.State.{State}

-- the type of a login
abbrev pub login_type : ℕ
login_type = 0x20

-- a state of these parts, and a reply with the state that is left
abbrev pub as_state : Bool → ℕ → ℕ → State
as_state loggedIn wrong left = record { logged_in = loggedIn; wrong = wrong; left = left }

abbrev pub replied : Reply → State → Judged
replied r st = record { reply = r; state = st }

-- 180 seconds or more since the last message log out
abbrev pub session : ℕ → Bool → Bool
session seconds loggedIn = ltb seconds 180 && loggedIn

-- time passes before the message is judged: it may end the session, and is taken off the seconds left; the count stays
abbrev pub elapsed : ℕ → State → State
elapsed seconds st = as_state (session seconds st.logged_in) st.wrong (st.left - seconds)

-- a right login has the secret's four digits
unfoldable pub same_digits : List ℕ → List ℕ → Bool
same_digits secret d =
    eqb (get_or secret 0 0) (get_or d 0 0) && (eqb (get_or secret 1 0) (get_or d 1 0) && (eqb (get_or secret 2 0) (get_or d 2 0) && eqb (get_or secret 3 0) (get_or d 3 0)))

-- a wrong login counts and does not log out; the third in a row shuts out all logins for 3,600 seconds, and the count then starts at none
abbrev pub wrong_login : State → State
wrong_login st = cond (ltb st.wrong most_wrong) (as_state st.logged_in (st.wrong + 1) st.left) (as_state st.logged_in 0 shut_out)

-- logins during a shut-out get 06 and do not count; a right login gets 05 and clears the count; a wrong one gets 06
abbrev pub on_login : Bool → State → Judged
on_login right st =
    cond (ltb 0 st.left) (replied NegativeAcknowledge st)
    (cond right (replied Acknowledge (as_state true 0 0))
    (replied NegativeAcknowledge (wrong_login st)))

-- any other message: 06 where nobody is logged in; 05 gets 05; 21 gets 05 and ends the session; other types are passed on
abbrev pub on_other : ℕ → State → Judged
on_other kind st =
    cond (not st.logged_in) (replied NegativeAcknowledge st)
    (cond (eqb kind 0x05) (replied Acknowledge st)
    (cond (eqb kind 0x21) (replied Acknowledge (as_state false st.wrong st.left))
    (replied PassedOn st)))

-- a login, or any other message
abbrev pub judge : List ℕ → ℕ → List ℕ → State → Judged
judge secret kind d st = cond (eqb kind login_type) (on_login (same_digits secret d) st) (on_other kind st)

-- one message, so many whole seconds after the last accepted one: 8 for the secret and the state, then the writer's 6, 7, 8
unfoldable pub step : List ℕ → List ℕ → ℕ → ℕ → List ℕ → Outcome Judged
step secret lent seconds kind d =
    refuse_if (not (is_secret secret)) 8
    (refuse_if (not (is_state lent)) 8
    (and_then (write_message kind d) (λ frame.
    accepted (judge secret kind d (elapsed seconds (state_of lent))))))

-- what is answered, and what is left in the lent state: the old bytes where it refuses
abbrev pub reply_by : Outcome Judged → Outcome Reply
reply_by o = on_accepted (λ j. j.reply) o

abbrev pub state_after : Outcome Judged → List ℕ → List ℕ
state_after (refused n) lent = lent
state_after (accepted j) lent = state_bytes j.state

-- for C: the type of the reply, 05 or 06, or 0 where the message is passed on
abbrev pub reply_type : Reply → ℕ
reply_type Acknowledge = 0x05
reply_type NegativeAcknowledge = 0x06
reply_type PassedOn = 0

-- answer (8)
abbrev pub reply_fields : Reply → List Field
reply_fields r = byte (reply_type r) ∷ []
