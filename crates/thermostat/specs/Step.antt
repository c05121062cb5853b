-- Document 01, "Registers and the model thermostat", and document 02, K1: a step.
use Rattle.std.specs.Prelude.{ℕ, suc, Bool, true, not, cond, ◌&&◌, ◌||◌, List, [], ◌∷◌, length, eqb, ltb}
use Rattle.answer.specs.Answer.{Outcome, refused, accepted, refuse_if, on_accepted}
use Rattle.omnistat.specs.declared.group.Group.{Group}
use Rattle.omnistat.specs.declared.group.Group.TheVariants.{First, Second, Third}
use Rattle.omnistat.specs.declared.frame.End.TheVariants.{Thermostat, Host}
use Rattle.omnistat.specs.Register.{within, is_text}
use Rattle.omnistat.specs.Frame.{framed, bytes_of, first_of}
use Rattle.omnistat.specs.Message.{Request, Reply, poll, set_from, poll_group, acknowledge, negative, data_from, group, body_of}
use Rattle.omnistat.specs.Text.{Text, text_bytes}
use Rattle.omnistat.specs.Omnistat.{Message, counted, text, Addressed, read}
use Rattle.thermostat.specs.Registers.{listed, settable}
use Rattle.thermostat.specs.Map.{contents, run, stored}
use Rattle.thermostat.specs.Texts.{held_text, text_stored, store_allowed}

-- a message for this thermostat: 00 broadcast, its own address, or FA universal
abbrev pub is_for : ℕ → ℕ → Bool
is_for own first = eqb first 0x00 || (eqb first own || eqb first 0xFA)

-- every register listed, writable and in range
unfoldable pub all_settable : ℕ → List ℕ → Bool
all_settable r [] = true
all_settable r (v ∷ vs) = settable r v && all_settable (suc r) vs

-- every register listed
unfoldable pub all_listed : List ℕ → Bool
all_listed [] = true
all_listed (r ∷ rs) = listed r && all_listed rs

-- Groups
abbrev pub registers_of : Group → List ℕ
registers_of First = 59 ∷ 60 ∷ 61 ∷ 62 ∷ 63 ∷ 64 ∷ []
registers_of Second = 162 ∷ 135 ∷ 134 ∷ 68 ∷ 15 ∷ 169 ∷ []
registers_of Third = 169 ∷ 18 ∷ 19 ∷ 20 ∷ 74 ∷ 170 ∷ 171 ∷ 165 ∷ 166 ∷ 167 ∷ []

-- what a thermostat answers about its registers
abbrev pub register_reply : List ℕ → Request → Reply
register_reply m (poll start count) = cond (all_listed (run start count)) (data_from start (contents m (run start count))) negative
register_reply m (set_from start values) = cond (all_settable start values) acknowledge negative
register_reply m (poll_group g) = group g (contents m (registers_of g))

-- a register's text, as a reply carries it: with 0 as length half-byte
abbrev pub text_reply : List ℕ → ℕ → Text
text_reply texts r = record { half = 0; start = r; characters = held_text texts r }

-- what a thermostat answers to a message: a poll of a text from the store; a text is acknowledged
abbrev pub reply_to : List ℕ → List ℕ → Message Thermostat → Message Host
reply_to m texts (counted (poll start count)) = cond (is_text start) (text (text_reply texts start)) (counted (register_reply m (poll start count)))
reply_to m texts (counted (set_from start values)) = counted (register_reply m (set_from start values))
reply_to m texts (counted (poll_group g)) = counted (register_reply m (poll_group g))
reply_to m texts (text t) = counted acknowledge

-- the map after a message: a set stores all values or none
abbrev pub changed : List ℕ → Message Thermostat → List ℕ
changed m (counted (poll start count)) = m
changed m (counted (set_from start values)) = cond (all_settable start values) (stored m start values) m
changed m (counted (poll_group g)) = m
changed m (text t) = m

-- the text store after a message: a text is stored
abbrev pub texts_changed : List ℕ → Message Thermostat → List ℕ
texts_changed texts (counted c) = texts
texts_changed texts (text t) = text_stored texts t.start t.characters

-- a reply carries the own address
abbrev pub reply_bytes : ℕ → Message Host → List ℕ
reply_bytes own (counted c) = bytes_of (framed (first_of Host own) (body_of Host c).kind (body_of Host c).payload)
reply_bytes own (text t) = text_bytes Host (first_of Host own) t

-- what is sent to a message with this first byte: silence where it is for another address, and broadcast is never answered
unfoldable pub sent_by : ℕ → ℕ → Message Host → List ℕ
sent_by own first reply = cond (is_for own first) (cond (eqb first 0x00) [] (reply_bytes own reply)) []

-- what is lent, after a message with this first byte: broadcast acts the same, and a message for another address changes nothing
unfoldable pub after : ℕ → ℕ → List ℕ → List ℕ → List ℕ
after own first new old = cond (is_for own first) new old

-- what a step does: the bytes sent, the map and the text store
pub record Done : Type 0 where
  pub sent : List ℕ
  pub map : List ℕ
  pub texts : List ℕ

abbrev pub done : ℕ → List ℕ → List ℕ → Addressed (Message Thermostat) → Done
done own m texts a = record {
  sent = sent_by own a.address (reply_to m texts a.message);
  map = after own a.address (changed m a.message) m;
  texts = after own a.address (texts_changed texts a.message) texts;
}

-- the order of the checks: 9 for the output, the map and the text store; own address outside 1-127 is 8, and a store that is not allowed;
-- then the reader's answers, with nothing sent
unfoldable pub step : ℕ → List ℕ → List ℕ → List ℕ → ℕ → Outcome Done
step own m texts bytes room =
    refuse_if (ltb room 65) 9
    (refuse_if (not (eqb (length m) 256)) 9
    (refuse_if (not (eqb (length texts) 610)) 9
    (refuse_if (not (within 1 127 own)) 8
    (refuse_if (not (store_allowed texts)) 8
    (on_accepted (done own m texts) (read Thermostat bytes))))))

-- a refusal changes nothing
abbrev pub map_of : Outcome Done → List ℕ → List ℕ
map_of (refused n) m = m
map_of (accepted d) m = d.map

abbrev pub texts_of : Outcome Done → List ℕ → List ℕ
texts_of (refused n) texts = texts
texts_of (accepted d) texts = d.texts

abbrev pub sent_of : Outcome Done → Outcome (List ℕ)
sent_of o = on_accepted (λ d. d.sent) o
