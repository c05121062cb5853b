-- Document 01, "Omni-Link messages": the types that carry a list, 16, 23 and 25, and their items.
use Rattle.std.specs.Prelude.{ℕ, ◌+◌, ◌*◌, ◌/◌, ◌%◌, Bool, true, cond, not, ◌&&◌, List, [], ◌∷◌, eqb, ltb}
use Rattle.message.specs.declared.lists.Condition.{Condition}
use Rattle.message.specs.declared.lists.LatchedAlarm.{LatchedAlarm}
use Rattle.message.specs.declared.lists.Arming.{Arming}
use Rattle.message.specs.declared.lists.Zone.{Zone}
use Rattle.message.specs.declared.lists.TextMessage.{TextMessage}

-- 16 zone status, 23 events, 25 message status
abbrev pub zone_status_type : ℕ
zone_status_type = 0x16

abbrev pub events_type : ℕ
events_type = 0x23

abbrev pub message_status_type : ℕ
message_status_type = 0x25

-- status bits 0-1: secure, not ready, trouble
abbrev pub condition_of : ℕ → Condition
condition_of s = cond (eqb (s % 4) 0) Condition.Secure (cond (eqb (s % 4) 1) Condition.NotReady Condition.Trouble)

-- bits 2-3: secure, tripped, reset
abbrev pub latched_of : ℕ → LatchedAlarm
latched_of s = cond (eqb (s / 4 % 4) 0) LatchedAlarm.Secure (cond (eqb (s / 4 % 4) 1) LatchedAlarm.Tripped LatchedAlarm.Reset)

-- bits 4-5: disarmed, armed, bypassed by user, bypassed by system
abbrev pub arming_of : ℕ → Arming
arming_of s =
    cond (eqb (s / 16 % 4) 0) Arming.Disarmed
    (cond (eqb (s / 16 % 4) 1) Arming.Armed
    (cond (eqb (s / 16 % 4) 2) Arming.BypassedByUser Arming.BypassedBySystem))

-- a zone of a status byte and a loop reading; bit 6: unacknowledged trouble
abbrev pub zone_of : ℕ → ℕ → Zone
zone_of s reading =
    record {
      condition = condition_of s;
      latched_alarm = latched_of s;
      arming = arming_of s;
      unacknowledged_trouble = eqb (s / 64 % 2) 1;
      loop_reading = reading;
    }

-- the value 3 in either of the first two fields, or bit 7 set, is outside the list
abbrev pub zone_listed : ℕ → Bool
zone_listed s = not (eqb (s % 4) 3) && not (eqb (s / 4 % 4) 3) && ltb s 128

-- a text message of two bits: low bit displayed, high bit not acknowledged
abbrev pub text_of : ℕ → TextMessage
text_of bits = record { displayed = eqb (bits % 2) 1; not_acknowledged = eqb (bits / 2 % 2) 1 }

-- what each pair of bytes stands for
abbrev pub pairs : {A : Type 0} → (ℕ → ℕ → A) → List ℕ → List A
pairs make [] = []
pairs make (a ∷ []) = []
pairs make (a ∷ b ∷ d) = make a b ∷ pairs make d

-- pairs of status and loop reading
abbrev pub zones : List ℕ → List Zone
zones d = pairs zone_of d

abbrev pub zones_listed : List ℕ → Bool
zones_listed [] = true
zones_listed (s ∷ []) = true
zones_listed (s ∷ r ∷ d) = zone_listed s && zones_listed d

-- a word of two bytes, high byte first
abbrev pub word_of : ℕ → ℕ → ℕ
word_of hi lo = hi * 256 + lo

-- events, a word each
abbrev pub words : List ℕ → List ℕ
words d = pairs word_of d

-- four messages a byte, the lowest-numbered in the two high bits
abbrev pub texts : List ℕ → List TextMessage
texts [] = []
texts (b ∷ d) = text_of (b / 64) ∷ text_of (b / 16 % 4) ∷ text_of (b / 4 % 4) ∷ text_of (b % 4) ∷ texts d
