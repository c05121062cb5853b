-- The C interface's Omni-Link messages: the fields of what is packed, in the header's order.
use Rattle.std.specs.Prelude.{ℕ, List, [], ◌∷◌}
use Rattle.answer.specs.Bit.{bit}
use Rattle.answer.specs.Packed.{Field, byte, word}
use Rattle.message.specs.Typed.{kind_of, count_of, condition_bits, latched_bits, arming_bits}
use Rattle.message.specs.declared.command.Command.{Command}
use Rattle.message.specs.declared.command.Command.TheVariants as C
use Rattle.message.specs.declared.command.Duration.{Duration}
use Rattle.message.specs.declared.command.Duration.TheVariants as D
use Rattle.message.specs.declared.lists.TextMessage.{TextMessage}
use Rattle.message.specs.declared.lists.Zone.{Zone}
use Rattle.message.specs.declared.message.Message.{Message as Counted}

-- a message: type (8), count of items (8), which is 0 but for zones, events and text messages
abbrev pub message_fields : Counted → List Field
message_fields m = byte (kind_of m) ∷ byte (count_of m) ∷ []

-- a zone: condition (8), latched alarm (8), arming (8), unacknowledged trouble (8), loop reading (8)
abbrev pub zone_fields : Zone → List Field
zone_fields z =
    byte (condition_bits z.condition)
    ∷ byte (latched_bits z.latched_alarm)
    ∷ byte (arming_bits z.arming)
    ∷ byte (bit z.unacknowledged_trouble)
    ∷ byte z.loop_reading
    ∷ []

-- an event, or a field of a log entry (16)
abbrev pub word_fields : ℕ → List Field
word_fields w = word w ∷ []

-- a text message: displayed (8), not acknowledged (8)
abbrev pub text_fields : TextMessage → List Field
text_fields t = byte (bit t.displayed) ∷ byte (bit t.not_acknowledged) ∷ []

-- the unit of a duration: 0 none, 1 seconds, 2 minutes, 3 hours
abbrev pub duration_unit : Duration → ℕ
duration_unit D.None = 0
duration_unit (D.Seconds n) = 1
duration_unit (D.Minutes n) = 2
duration_unit (D.Hours n) = 3

-- its count
abbrev pub duration_count : Duration → ℕ
duration_count D.None = 0
duration_count (D.Seconds n) = n
duration_count (D.Minutes n) = n
duration_count (D.Hours n) = n

-- a command: command (8), unit of duration (8), count of the duration, percent or value (8), P2 (16)
abbrev pub command_fields : Command → List Field
command_fields (C.Off d unit) = byte 0 ∷ byte (duration_unit d) ∷ byte (duration_count d) ∷ word unit ∷ []
command_fields (C.On d unit) = byte 1 ∷ byte (duration_unit d) ∷ byte (duration_count d) ∷ word unit ∷ []
command_fields (C.AllOff area) = byte 2 ∷ byte 0 ∷ byte 0 ∷ word area ∷ []
command_fields (C.AllOn area) = byte 3 ∷ byte 0 ∷ byte 0 ∷ word area ∷ []
command_fields (C.Level percent unit) = byte 9 ∷ byte 0 ∷ byte percent ∷ word unit ∷ []
command_fields (C.Decrement counter) = byte 10 ∷ byte 0 ∷ byte 0 ∷ word counter ∷ []
command_fields (C.Increment counter) = byte 11 ∷ byte 0 ∷ byte 0 ∷ word counter ∷ []
command_fields (C.SetCounter v counter) = byte 12 ∷ byte 0 ∷ byte v ∷ word counter ∷ []
