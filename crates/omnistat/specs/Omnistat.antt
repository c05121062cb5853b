-- Document 01, "Omnistat2 messages", and document 02, K1 and K9: reading and writing at both ends, by what is known there.
use Rattle.std.specs.Prelude.{ℕ, Bool, true, not, cond, List}
use Rattle.answer.specs.Answer.{Outcome, accepted, refuse_if, on_accepted, and_then}
use Rattle.omnistat.specs.declared.frame.End.{End}
use Rattle.omnistat.specs.Frame.{framed, frame, bytes_of, directed, address_of, first_of}
use Rattle.omnistat.specs.Message.{Counted, Known, numbered, as_message_by, body_by, is_polled}
use Rattle.omnistat.specs.Text.{Text, carries_text, read_text, write_text}

-- what is read at each end: a message of counted length, or a text
pub data Message (end : End) : Type 0 where
  counted : Counted end → Message end
  text : Text → Message end

-- a message with the first byte at the thermostat, or the number of the thermostat at the host
pub record Addressed (M : Type 0) : Type 0 where
  pub address : ℕ
  pub message : M

abbrev pub addressed : {M : Type 0} → ℕ → M → Addressed M
addressed address m = record { address = address; message = m }

abbrev pub addressed_counted : (end : End) → ℕ → Counted end → Addressed (Message end)
addressed_counted end address c = addressed address (counted c)

abbrev pub addressed_text : (end : End) → ℕ × Text → Addressed (Message end)
addressed_text end t = addressed t.0 (text t.1)

-- a counted message: the frame's checks 1, 2, 4, 5; then 6, 7, 8
unfoldable pub read_counted_by : (end : End) → Known end → List ℕ → Outcome (Addressed (Message end))
read_counted_by end known bytes =
    and_then (frame end bytes) (λ f. on_accepted (addressed_counted end (address_of end f.first)) (as_message_by end known f.kind f.payload))

-- the type and the third byte tell a text from a counted message
unfoldable pub read_by : (end : End) → Known end → List ℕ → Outcome (Addressed (Message end))
read_by end known bytes =
    cond (carries_text end bytes)
    (on_accepted (addressed_text end) (read_text end bytes))
    (read_counted_by end known bytes)

-- the bytes of a type and data bytes to an address: 8 where its first byte is none of that end's, so that a reply carries 01 to 7F
abbrev pub bytes_to : (end : End) → ℕ → ℕ → List ℕ → Outcome (List ℕ)
bytes_to end address kind payload =
    refuse_if (not (directed end (first_of end address))) 8
    (accepted (bytes_of (framed (first_of end address) kind payload)))

-- a type and data bytes to write: 6, 7, 8; then 8 where they may not be sent, as the reply of a group that was not polled
unfoldable pub sent : (end : End) → Known end → (allowed : Bool) → ℕ → ℕ → List ℕ → Outcome (List ℕ)
sent end known allowed address kind payload =
    and_then (as_message_by end known kind payload)
    (λ m. refuse_if (not allowed) 8
    (bytes_to end address kind payload))

-- by a type number and data bytes: as printed these name no group but the polled one, by number any may be sent
abbrev pub write_bytes_by : (end : End) → Known end → ℕ → ℕ → List ℕ → Outcome (List ℕ)
write_bytes_by end known address kind payload = sent end known true address kind payload

-- a typed message: its type and data bytes, or its text
abbrev pub write_by : (end : End) → Known end → ℕ → Message end → Outcome (List ℕ)
write_by end known address (counted c) = sent end known (is_polled end known c) address (body_by end known c).kind (body_by end known c).payload
write_by end known address (text t) = write_text end address t

-- with the numbered habit, as document 01 has it
abbrev pub read_counted : (end : End) → List ℕ → Outcome (Addressed (Message end))
read_counted end = read_counted_by end (numbered end)

abbrev pub read : (end : End) → List ℕ → Outcome (Addressed (Message end))
read end = read_by end (numbered end)

abbrev pub write_bytes : (end : End) → ℕ → ℕ → List ℕ → Outcome (List ℕ)
write_bytes end = write_bytes_by end (numbered end)

abbrev pub write : (end : End) → ℕ → Message end → Outcome (List ℕ)
write end = write_by end (numbered end)
