-- What the functions behind the reader and the writers promise one another.
use Rattle.std.specs.Prelude.{ℕ, ◌/◌, ◌%◌, Bool, cond, ◌||◌, List, ◌≡◌, eqb, get_or}
use Rattle.answer.specs.Answer.{Outcome, refused, accepted, and_then, on_accepted}
use Rattle.link.specs.Frame.{header, read_frame}
use Rattle.link.specs.declared.frame.Header.{Header}
use Rattle.message.specs.Command.{command_of}
use Rattle.message.specs.Lists.{zone_status_type, events_type, message_status_type, word_of}
use Rattle.message.specs.Message.{read_message}
use Rattle.message.specs.declared.command.Command.{Command}

-- what a check says of what is accepted: nothing
abbrev pub nothing : {A : Type 0} → A → Unit {0}
nothing a = tt

-- a type without data
abbrev pub is_plain : ℕ → Bool
is_plain kind =
    eqb kind 0x05 || eqb kind 0x06 || eqb kind 0x0D || eqb kind 0x11 || eqb kind 0x13 || eqb kind 0x21 || eqb kind 0x22

-- something is accepted
abbrev pub Taken : {A : Type 0} → Outcome A → Type 0
Taken {A} o = (a : A) × (o ≡ accepted a)

-- the number of a refusal, or 0 where something is accepted
abbrev pub fault_of : {A : Type 0} → Outcome A → ℕ
fault_of (refused n) = n
fault_of (accepted a) = 0

-- the refusal with a number of 6, 7 and 8
abbrev pub fault_number : ℕ → ℕ
fault_number n = cond (eqb n 6) 6 (cond (eqb n 7) 7 8)

-- the header of a whole message
unfoldable pub message_header : List ℕ → Outcome Header
message_header s = and_then (read_message s) (λ m. on_accepted header (read_frame s))

-- the command of four data bytes
abbrev pub command_in : List ℕ → Command
command_in d = command_of (get_or d 0 0) (get_or d 1 0) (word_of (get_or d 2 0) (get_or d 3 0))

-- how many text messages a message status of 5, 17 or 33 data bytes has
abbrev pub texts_in : ℕ → ℕ
texts_in size = cond (eqb size 5) 16 (cond (eqb size 17) 64 128)

-- how many items a message of a type has in so many data bytes
abbrev pub items_in : ℕ → ℕ → ℕ
items_in kind size =
    cond (eqb kind zone_status_type) (size / 2)
    (cond (eqb kind events_type) (size / 2)
    (cond (eqb kind message_status_type) (texts_in size)
    0))

-- the two bits of text message k of the four in a byte
abbrev pub two_bits : ℕ → ℕ → ℕ
two_bits b k = cond (eqb k 0) (b / 64) (cond (eqb k 1) (b / 16 % 4) (cond (eqb k 2) (b / 4 % 4) (b % 4)))
