-- Document 02, K3: how far the bytes of a capture have come, and the lent state that keeps it.
use Rattle.std.specs.Prelude.{ℕ, zero, suc, ◌+◌, ◌-◌, ◌*◌, ◌/◌, ◌%◌, Bool, true, false, not, cond, ◌&&◌, ◌||◌, List, [], ◌∷◌, ◌++◌, eqb, ltb, leb, length, get_or, take, drop}
use Rattle.listing.specs.Text.{longest}

-- how many bytes have come, how many noise bytes stand without a line, and the bytes not read yet: the last ones that came
pub record State : Type 0 where
  pub came : ℕ
  pub run : ℕ
  pub unread : List ℕ

-- a state of these parts
abbrev pub as_state : ℕ → ℕ → List ℕ → State
as_state came run unread = record { came = came; run = run; unread = unread }

-- the offset of the first unread byte
abbrev pub unread_at : State → ℕ
unread_at st = st.came - length st.unread

-- a place is settled by another byte than 5A, by a length byte 00 or above 41, or by a whole frame's worth of bytes
unfoldable pub settled : List ℕ → Bool
settled s =
    let l = get_or s 1 0 in
    cond (eqb (length s) 0) false
    (cond (not (eqb (get_or s 0 0) 0x5A)) true
    (cond (eqb (length s) 1) false
    (cond (eqb l 0) true
    (cond (ltb 0x41 l) true
    (leb (l + 4) (length s))))))

-- a state that pieces lead to: of at most 4,096 bytes that have come the last ones are the noise and the unread bytes; before these came
-- nothing, or at least a frame of 5 bytes; and no byte is unread, or the place of the first one is not settled
unfoldable pub possible : State → Bool
possible st =
    let late = st.run + length st.unread in
    let early = st.came - late in
    leb st.came longest && (leb late st.came && ((eqb early 0 || leb 5 early) && not (settled st.unread)))

-- so many zero bytes
unfoldable pub zeros : ℕ → List ℕ
zeros zero = []
zeros (suc n) = 0 ∷ zeros n

-- bytes that are all zero
unfoldable pub all_zero : List ℕ → Bool
all_zero [] = true
all_zero (b ∷ s) = eqb b 0 && all_zero s

-- two bytes from a place on, the high byte first
abbrev pub word : List ℕ → ℕ → ℕ
word s i = get_or s i 0 * 256 + get_or s (i + 1) 0

-- the lent state, 74 bytes: bytes that have come (2), noise without a line (2), count of unread bytes (1), the unread bytes, and zeros
-- up to 69
unfoldable pub state_bytes : State → List ℕ
state_bytes st =
    st.came / 256 ∷ st.came % 256 ∷ st.run / 256 ∷ st.run % 256 ∷ length st.unread
    ∷ (st.unread ++ zeros (69 - length st.unread))

-- and the state that such bytes say
unfoldable pub state_of : List ℕ → State
state_of lent = as_state (word lent 0) (word lent 2) (take (get_or lent 4 0) (drop 5 lent))

-- bytes that are a state which pieces lead to. A count above 68 is none: 69 unread bytes are always settled
unfoldable pub is_state : List ℕ → Bool
is_state lent = eqb (length lent) 74 && (all_zero (drop (5 + get_or lent 4 0) lent) && possible (state_of lent))

-- the state before the first piece, and after the finishing call
abbrev pub fresh : List ℕ
fresh = zeros 74
