-- What the code's answers stand for: the message in the bytes that were read; and its fields for C.
use Rattle.std.specs.Prelude.{ℕ, List, [], ◌∷◌, length, take, drop}
use Rattle.answer.specs.Packed.{Field, byte}
use Rattle.omnistat.specs.declared.frame.End.{End}
use Rattle.omnistat.specs.declared.frame.End.TheVariants.{Thermostat, Host}
use Rattle.omnistat.specs.Message.{Known, numbered, poll, set_from, poll_group, acknowledge, negative, data_from, group, body_by}
use Rattle.omnistat.specs.Text.{Text, text_type}
use Rattle.omnistat.specs.Omnistat.{Message, counted, text, Addressed, addressed, addressed_counted}
use Rattle.omnistat.specs.declared.habit.Known.{Known as KnownAnswer}
use Rattle.omnistat.specs.declared.request.Request.{Request as RequestAnswer}
use Rattle.omnistat.specs.declared.request.Request.TheVariants.{Poll, Set, PollGroup, Text as RequestText}
use Rattle.omnistat.specs.declared.reply.Reply.{Reply as ReplyAnswer}
use Rattle.omnistat.specs.declared.reply.Reply.TheVariants.{Acknowledge, Negative, Data, Group as ReplyGroup, Text as ReplyText}

-- a habit with the polled group
abbrev pub known_in : KnownAnswer → Known Host
known_in k = (k.habit, k.polled)

-- the characters of a text follow its start register
abbrev pub text_in : List ℕ → ℕ → ℕ → ℕ → Text
text_in bytes half start count = record { half = half; start = start; characters = take count (drop 3 bytes) }

-- what the reader at the thermostat answers of bytes: the values of a set and the characters of a text follow its start register. The sum
-- follows the values, and 03 the characters, so that no other count names them
abbrev pub request_in : List ℕ → RequestAnswer → Addressed (Message Thermostat)
request_in bytes (Poll first start count) = addressed_counted Thermostat first (poll start count)
request_in bytes (Set first start count) = addressed_counted Thermostat first (set_from start (take count (drop 3 bytes)))
request_in bytes (PollGroup first g) = addressed_counted Thermostat first (poll_group g)
request_in bytes (RequestText first half start count) = addressed first (text (text_in bytes half start count))

-- what the reader at the host answers of bytes: the values of data follow its start register, those of a group the second byte
abbrev pub reply_in : List ℕ → ReplyAnswer → Addressed (Message Host)
reply_in bytes (Acknowledge number) = addressed_counted Host number acknowledge
reply_in bytes (Negative number) = addressed_counted Host number negative
reply_in bytes (Data number start count) = addressed_counted Host number (data_from start (take count (drop 3 bytes)))
reply_in bytes (ReplyGroup number g count) = addressed_counted Host number (group g (take count (drop 2 bytes)))
reply_in bytes (ReplyText number half start count) = addressed number (text (text_in bytes half start count))

-- for C: type, first byte or number of the thermostat, start, count, and the half-byte of a text, which a counted message does not have
abbrev pub counted_fields : ℕ → ℕ → ℕ → ℕ → List Field
counted_fields kind address start count = byte kind ∷ byte address ∷ byte start ∷ byte count ∷ byte 0 ∷ []

abbrev pub text_fields : End → ℕ × Text → List Field
text_fields end p =
    let t = p.1 in
    byte (text_type end) ∷ byte p.0 ∷ byte t.start ∷ byte (length t.characters) ∷ byte t.half ∷ []

abbrev pub message_fields : (end : End) → Known end → ℕ → Message end → List Field
message_fields end known address (counted c) =
    let b = body_by end known c in
    counted_fields b.kind address b.start b.count
message_fields end known address (text t) = text_fields end (address, t)

abbrev pub fields_by : (end : End) → Known end → Addressed (Message end) → List Field
fields_by end known a = message_fields end known a.address a.message

abbrev pub fields : (end : End) → Addressed (Message end) → List Field
fields end = fields_by end (numbered end)
