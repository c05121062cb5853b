-- Document 01, "Omni-Link messages": writing typed messages.
use Rattle.std.specs.Prelude.{ℕ, ◌+◌, ◌*◌, ◌/◌, ◌%◌, cond, not, ◌&&◌, List, [], ◌∷◌, eqb, leb, length, drop}
use Rattle.answer.specs.Answer.{Outcome, refuse_if}
use Rattle.answer.specs.Bit.{bit}
use Rattle.link.specs.Frame.{Frame}
use Rattle.message.specs.Lists.{zone_status_type, events_type, message_status_type, zones, words, texts}
use Rattle.message.specs.Message.{Message, fixed, zone_status, events, message_status, counted, write_message}
use Rattle.message.specs.declared.lists.Condition.{Condition}
use Rattle.message.specs.declared.lists.LatchedAlarm.{LatchedAlarm}
use Rattle.message.specs.declared.lists.Arming.{Arming}
use Rattle.message.specs.declared.lists.Zone.{Zone}
use Rattle.message.specs.declared.lists.TextMessage.{TextMessage}
use Rattle.message.specs.declared.log.LogEntry.{LogEntry}
use Rattle.message.specs.declared.message.Fixed.{Fixed}
use Rattle.message.specs.declared.message.Fixed.TheVariants as F
use Rattle.message.specs.declared.message.Message.{Message as Counted}
use Rattle.message.specs.declared.message.Message.TheVariants as C
use Rattle.message.specs.declared.command.Duration.{Duration}
use Rattle.message.specs.declared.command.Duration.TheVariants.{None, Seconds, Minutes, Hours}
use Rattle.message.specs.declared.command.Command.{Command}
use Rattle.message.specs.declared.command.Command.TheVariants.{Off, On, AllOff, AllOn, Level, Decrement, Increment, SetCounter}

-- the P1 of a count from 1 to a largest, above a base; a count outside has none: 100, which is no P1, so that the writer answers 8
abbrev pub count_p1 : ℕ → ℕ → ℕ → ℕ
count_p1 base most n = cond (leb 1 n && leb n most) (base + n) 100

-- the P1 of a duration: 1-99 seconds, 1-99 minutes, 1-18 hours
abbrev pub duration_p1 : Duration → ℕ
duration_p1 None = 0
duration_p1 (Seconds n) = count_p1 0 99 n
duration_p1 (Minutes n) = count_p1 100 99 n
duration_p1 (Hours n) = count_p1 200 18 n

-- command, P1, P2 high, P2 low
abbrev pub parameters : ℕ → ℕ → ℕ → List ℕ
parameters number p1 p2 = number ∷ p1 ∷ p2 / 256 ∷ p2 % 256 ∷ []

-- a command's data bytes
abbrev pub command_bytes : Command → List ℕ
command_bytes (Off d unit) = parameters 0 (duration_p1 d) unit
command_bytes (On d unit) = parameters 1 (duration_p1 d) unit
command_bytes (AllOff area) = parameters 2 0 area
command_bytes (AllOn area) = parameters 3 0 area
command_bytes (Level percent unit) = parameters 9 percent unit
command_bytes (Decrement counter) = parameters 10 0 counter
command_bytes (Increment counter) = parameters 11 0 counter
command_bytes (SetCounter v counter) = parameters 12 v counter

-- a log entry's ten data bytes
abbrev pub log_bytes : LogEntry → List ℕ
log_bytes e =
    e.number ∷ e.time_valid ∷ e.month ∷ e.day ∷ e.hour ∷ e.minute ∷ e.event_type ∷ e.parameter_1
    ∷ e.parameter_2 / 256 ∷ e.parameter_2 % 256 ∷ []

-- the type and the data bytes of a message of fixed length
abbrev pub fixed_frame : Fixed → Frame
fixed_frame F.Acknowledge = record { kind = 0x05; bytes = [] }
fixed_frame F.NegativeAcknowledge = record { kind = 0x06; bytes = [] }
fixed_frame F.UploadEventLog = record { kind = 0x0D; bytes = [] }
fixed_frame F.RequestSystemInformation = record { kind = 0x11; bytes = [] }
fixed_frame F.RequestSystemStatus = record { kind = 0x13; bytes = [] }
fixed_frame F.Logout = record { kind = 0x21; bytes = [] }
fixed_frame F.RequestSystemEvents = record { kind = 0x22; bytes = [] }
fixed_frame (F.Login a b c d) = record { kind = 0x20; bytes = a ∷ b ∷ c ∷ d ∷ [] }
fixed_frame (F.ZoneRequest first last) = record { kind = 0x15; bytes = first ∷ last ∷ [] }
fixed_frame (F.LogEntry e) = record { kind = 0x0E; bytes = log_bytes e }
fixed_frame (F.Command c) = record { kind = 0x0F; bytes = command_bytes c }

-- writing a message of fixed length
unfoldable pub write_fixed : Fixed → Outcome (List ℕ)
write_fixed f = write_message (fixed_frame f).kind (fixed_frame f).bytes

-- a zone's status byte, and the data bytes of zones
abbrev pub condition_bits : Condition → ℕ
condition_bits Condition.Secure = 0
condition_bits Condition.NotReady = 1
condition_bits Condition.Trouble = 2

abbrev pub latched_bits : LatchedAlarm → ℕ
latched_bits LatchedAlarm.Secure = 0
latched_bits LatchedAlarm.Tripped = 1
latched_bits LatchedAlarm.Reset = 2

abbrev pub arming_bits : Arming → ℕ
arming_bits Arming.Disarmed = 0
arming_bits Arming.Armed = 1
arming_bits Arming.BypassedByUser = 2
arming_bits Arming.BypassedBySystem = 3

abbrev pub status_byte : Zone → ℕ
status_byte z = condition_bits z.condition + 4 * latched_bits z.latched_alarm + 16 * arming_bits z.arming + 64 * bit z.unacknowledged_trouble

abbrev pub zone_bytes : List Zone → List ℕ
zone_bytes [] = []
zone_bytes (z ∷ zs) = status_byte z ∷ z.loop_reading ∷ zone_bytes zs

-- the data bytes of events, high byte first
abbrev pub event_bytes : List ℕ → List ℕ
event_bytes [] = []
event_bytes (e ∷ es) = e / 256 ∷ e % 256 ∷ event_bytes es

-- the two bits of a text message, and the data bytes of text messages, four a byte
abbrev pub text_bits : TextMessage → ℕ
text_bits t = bit t.displayed + 2 * bit t.not_acknowledged

abbrev pub text_bytes : List TextMessage → List ℕ
text_bytes [] = []
text_bytes (a ∷ []) = []
text_bytes (a ∷ b ∷ []) = []
text_bytes (a ∷ b ∷ c ∷ []) = []
text_bytes (a ∷ b ∷ c ∷ d ∷ ts) = (64 * text_bits a + 16 * text_bits b + 4 * text_bits c + text_bits d) ∷ text_bytes ts

-- the type of a message
abbrev pub kind_of : Counted → ℕ
kind_of (C.Fixed f) = (fixed_frame f).kind
kind_of (C.ZoneStatus n) = zone_status_type
kind_of (C.Events n) = events_type
kind_of (C.MessageStatus n) = message_status_type

-- how many items its list has
abbrev pub count_of : Counted → ℕ
count_of (C.Fixed f) = 0
count_of (C.ZoneStatus n) = n
count_of (C.Events n) = n
count_of (C.MessageStatus n) = n

-- writing a list's message by its data bytes: 7 where they are not as many as its items need
unfoldable pub write_items : ℕ → ℕ → List ℕ → Outcome (List ℕ)
write_items kind size d = refuse_if (not (eqb (length d) size)) 7 (write_message kind d)

-- writing a typed message, the data bytes of its list beside it: a message without a list has none, text messages come in fours, else 7
abbrev pub write_counted : Counted → List ℕ → Outcome (List ℕ)
write_counted (C.Fixed f) d = refuse_if (not (eqb (length d) 0)) 7 (write_fixed f)
write_counted (C.ZoneStatus n) d = write_items zone_status_type (2 * n) d
write_counted (C.Events n) d = write_items events_type (2 * n) d
write_counted (C.MessageStatus n) d = refuse_if (not (eqb (n % 4) 0)) 7 (write_items message_status_type (1 + n / 4) d)

-- the message that a typed message and the data bytes of its list are
abbrev pub with_list : Counted → List ℕ → Message
with_list (C.Fixed f) d = fixed f
with_list (C.ZoneStatus n) d = zone_status (zones d)
with_list (C.Events n) d = events (words d)
with_list (C.MessageStatus n) d = message_status (texts (drop 1 d))

-- the data bytes of a message's list; of a message status the first is 00
abbrev pub item_bytes : Message → List ℕ
item_bytes (fixed f) = []
item_bytes (zone_status zs) = zone_bytes zs
item_bytes (events es) = event_bytes es
item_bytes (message_status ts) = 0 ∷ text_bytes ts

-- writing a message with its list
unfoldable pub write : Message → Outcome (List ℕ)
write m = write_counted (counted m) (item_bytes m)
