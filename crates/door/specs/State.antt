-- Document 02, K6: the secret, and the lent state that the door keeps.
use Rattle.std.specs.Prelude.{ℕ, ◌/◌, ◌%◌, Bool, ◌&&◌, ◌||◌, List, [], ◌∷◌, eqb, leb, length, get_or}
use Rattle.answer.specs.Bit.{bit}
use Rattle.message.specs.Lists.{word_of}
use Rattle.message.specs.Message.{digits_listed}
use Rattle.door.specs.declared.state.State.{State}

-- the most wrong logins that are counted, and the seconds of a whole shut-out
abbrev pub most_wrong : ℕ
most_wrong = 2

abbrev pub shut_out : ℕ
shut_out = 3600

-- a secret: four digits, none above 9
unfoldable pub is_secret : List ℕ → Bool
is_secret s = eqb (length s) 4 && digits_listed (get_or s 0 0) (get_or s 1 0) (get_or s 2 0) (get_or s 3 0)

-- the seconds left that a lent state says, high byte first
abbrev pub seconds_left : List ℕ → ℕ
seconds_left lent = word_of (get_or lent 2 0) (get_or lent 3 0)

-- a lent state: 4 bytes; logged in 0 or 1; not more than two counted, not over 3,600 seconds left, not both a count and seconds left
unfoldable pub is_state : List ℕ → Bool
is_state lent =
    eqb (length lent) 4
    && (leb (get_or lent 0 0) 1
    && (leb (get_or lent 1 0) most_wrong
    && (leb (seconds_left lent) shut_out
    && (eqb (get_or lent 1 0) 0 || eqb (seconds_left lent) 0))))

-- what its bytes say: logged in, wrong logins counted, seconds left
unfoldable pub state_of : List ℕ → State
state_of lent = record { logged_in = eqb (get_or lent 0 0) 1; wrong = get_or lent 1 0; left = seconds_left lent }

-- and the bytes of a state
unfoldable pub state_bytes : State → List ℕ
state_bytes st = bit st.logged_in ∷ st.wrong ∷ st.left / 256 ∷ st.left % 256 ∷ []
