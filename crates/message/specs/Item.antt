-- The C interface's item calls: the message reader's refusals, then 8 for a message of another type and for an index past the last.
use Rattle.std.specs.Prelude.{ℕ, zero, suc, not, List, [], ◌∷◌, eqb, drop}
use Rattle.answer.specs.Answer.{Outcome, refused, accepted, refuse_if, and_then}
use Rattle.link.specs.Frame.{Frame, read_frame}
use Rattle.message.specs.Command.{read_command}
use Rattle.message.specs.Lists.{zone_status_type, events_type, message_status_type, zones, words, texts}
use Rattle.message.specs.Log.{read_log}
use Rattle.message.specs.Message.{read_message}
use Rattle.message.specs.declared.command.Command.{Command}
use Rattle.message.specs.declared.log.LogEntry.{LogEntry}
use Rattle.message.specs.declared.lists.Zone.{Zone}
use Rattle.message.specs.declared.lists.TextMessage.{TextMessage}

-- the frame of a whole message of a type: the message reader's refusals, then 8 for another type
unfoldable pub frame_of : ℕ → List ℕ → Outcome Frame
frame_of kind s =
    and_then (read_message s) (λ m.
    and_then (read_frame s) (λ f. refuse_if (not (eqb f.kind kind)) 8 (accepted f)))

-- an item of a whole message of a type, as it is found in the data bytes
unfoldable pub item_of : {A : Type 0} → ℕ → (List ℕ → Outcome A) → List ℕ → Outcome A
item_of kind look s = and_then (frame_of kind s) (λ f. look f.bytes)

-- item i of a list; past the last is 8
abbrev pub item_at : {A : Type 0} → List A → ℕ → Outcome A
item_at [] i = refused 8
item_at (a ∷ l) zero = accepted a
item_at (a ∷ l) (suc i) = item_at l i

-- zone i of a zone status
abbrev pub zone_item : ℕ → List ℕ → Outcome Zone
zone_item i = item_of zone_status_type (λ d. item_at (zones d) i)

-- event i
abbrev pub event_item : ℕ → List ℕ → Outcome ℕ
event_item i = item_of events_type (λ d. item_at (words d) i)

-- text message i of a message status
abbrev pub text_item : ℕ → List ℕ → Outcome TextMessage
text_item i = item_of message_status_type (λ d. item_at (texts (drop 1 d)) i)

-- the fields of a log entry in the paper's order, parameter 2 as one
abbrev pub log_fields : LogEntry → List ℕ
log_fields e =
    e.number ∷ e.time_valid ∷ e.month ∷ e.day ∷ e.hour ∷ e.minute ∷ e.event_type ∷ e.parameter_1 ∷ e.parameter_2 ∷ []

-- field i of a log entry
abbrev pub log_item : ℕ → List ℕ → Outcome ℕ
log_item i = item_of 0x0E (λ d. and_then (read_log d) (λ e. item_at (log_fields e) i))

-- the command of a command message
abbrev pub command_item : List ℕ → Outcome Command
command_item = item_of 0x0F read_command
