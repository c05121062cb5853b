-- Document 01, "Omni-Link messages": every type.
use Rattle.std.specs.Prelude.{ℕ, ◌%◌, Bool, cond, not, ◌&&◌, ◌||◌, List, eqb, ltb, leb, length, get_or, drop}
use Rattle.answer.specs.Answer.{Outcome, refused, accepted, refuse_if, and_then, on_accepted}
use Rattle.link.specs.Frame.{read_frame, write_frame}
use Rattle.message.specs.Command.{read_command}
use Rattle.message.specs.Lists.{zone_status_type, events_type, message_status_type, zones, zones_listed, words, texts}
use Rattle.message.specs.Log.{read_log}
use Rattle.message.specs.declared.lists.Zone.{Zone}
use Rattle.message.specs.declared.lists.TextMessage.{TextMessage}
use Rattle.message.specs.declared.message.Fixed.{Fixed}
use Rattle.message.specs.declared.message.Fixed.TheVariants as F
use Rattle.message.specs.declared.message.Message.{Message as Counted}
use Rattle.message.specs.declared.message.Message.TheVariants as C

-- a message, with its list
pub data Message : Type 0 where
  fixed : Fixed → Message
  zone_status : List Zone → Message
  events : List ℕ → Message
  message_status : List TextMessage → Message

-- 05, 06, 0D, 11, 13, 21, 22: L=1
unfoldable pub read_plain : Fixed → List ℕ → Outcome Message
read_plain f d = refuse_if (not (eqb (length d) 0)) 7 (accepted (fixed f))

-- 20 login: L=5, four digits 00 to 09
unfoldable pub digits_listed : ℕ → ℕ → ℕ → ℕ → Bool
digits_listed first second third fourth = leb first 9 && leb second 9 && leb third 9 && leb fourth 9

unfoldable pub read_login : List ℕ → Outcome Message
read_login d =
    refuse_if (not (eqb (length d) 4)) 7
    (refuse_if (not (digits_listed (get_or d 0 0) (get_or d 1 0) (get_or d 2 0) (get_or d 3 0))) 8
    (accepted (fixed (F.Login (get_or d 0 0) (get_or d 1 0) (get_or d 2 0) (get_or d 3 0)))))

-- 15 zone request: L=3, first and last zone, 1 <= first <= last
unfoldable pub order_listed : ℕ → ℕ → Bool
order_listed first last = leb 1 first && leb first last

unfoldable pub read_zone_request : List ℕ → Outcome Message
read_zone_request d =
    refuse_if (not (eqb (length d) 2)) 7
    (refuse_if (not (order_listed (get_or d 0 0) (get_or d 1 0))) 8
    (accepted (fixed (F.ZoneRequest (get_or d 0 0) (get_or d 1 0)))))

-- 16 zone status: L=2n+1, n from 1 to 32
unfoldable pub read_zone_status : List ℕ → Outcome Message
read_zone_status d =
    refuse_if (not (eqb (length d % 2) 0)) 7
    (refuse_if (eqb (length d) 0) 7
    (refuse_if (ltb 64 (length d)) 7
    (refuse_if (not (zones_listed d)) 8
    (accepted (zone_status (zones d))))))

-- 23 events: L=2n+1, n from 0 to 32
unfoldable pub read_events : List ℕ → Outcome Message
read_events d =
    refuse_if (not (eqb (length d % 2) 0)) 7
    (refuse_if (ltb 64 (length d)) 7
    (accepted (events (words d))))

-- 25 message status: L=06, 12 or 22, so 5, 17 or 33 data bytes; the first 00
unfoldable pub status_length : ℕ → Bool
status_length n = eqb n 5 || eqb n 17 || eqb n 33

unfoldable pub read_message_status : List ℕ → Outcome Message
read_message_status d =
    refuse_if (not (status_length (length d))) 7
    (refuse_if (not (eqb (get_or d 0 0) 0)) 8
    (accepted (message_status (texts (drop 1 d)))))

-- the types with data; all other types are 6
unfoldable pub with_data : ℕ → List ℕ → Outcome Message
with_data kind d =
    cond (eqb kind 0x20) (read_login d)
    (cond (eqb kind 0x15) (read_zone_request d)
    (cond (eqb kind zone_status_type) (read_zone_status d)
    (cond (eqb kind events_type) (read_events d)
    (cond (eqb kind message_status_type) (read_message_status d)
    (cond (eqb kind 0x0E) (on_accepted (λ e. fixed (F.LogEntry e)) (read_log d))
    (cond (eqb kind 0x0F) (on_accepted (λ c. fixed (F.Command c)) (read_command d))
    (refused 6)))))))

-- every type: 6, 7, 8
unfoldable pub message_of : ℕ → List ℕ → Outcome Message
message_of kind d =
    cond (eqb kind 0x05) (read_plain F.Acknowledge d)
    (cond (eqb kind 0x06) (read_plain F.NegativeAcknowledge d)
    (cond (eqb kind 0x0D) (read_plain F.UploadEventLog d)
    (cond (eqb kind 0x11) (read_plain F.RequestSystemInformation d)
    (cond (eqb kind 0x13) (read_plain F.RequestSystemStatus d)
    (cond (eqb kind 0x21) (read_plain F.Logout d)
    (cond (eqb kind 0x22) (read_plain F.RequestSystemEvents d)
    (with_data kind d)))))))

-- the message reader: the frame reader's answers, then 6, 7, 8
unfoldable pub read_message : List ℕ → Outcome Message
read_message s = and_then (read_frame s) (λ f. message_of f.kind f.bytes)

-- the message writer on a type and data bytes: 6, 7, 8
unfoldable pub write_message : ℕ → List ℕ → Outcome (List ℕ)
write_message kind d = and_then (message_of kind d) (λ m. write_frame kind d)

-- a message with its list as a count
abbrev pub counted : Message → Counted
counted (fixed f) = C.Fixed f
counted (zone_status zs) = C.ZoneStatus (length zs)
counted (events es) = C.Events (length es)
counted (message_status ts) = C.MessageStatus (length ts)
