-- What is encoded is decoded to itself: of each typed message the data bytes carry it. Assumes nothing.
use mathlib.Core.Path.{◌≡◌, refl, sym, ap, ap₂, ◌∙◌}
use mathlib.Core.Bool.{Bool, true, false, not}
use mathlib.Core.List.{List, [], ◌∷◌}
use Prim.Native.Nat.{ℕ, ◌+◌, ◌*◌, ◌/◌, ◌%◌, ◌<◌}
use native.Mathlib.Nat.{div-add-mod'}
use native.Mathlib.Omega.{arith}
use lib.Dec.{eqb, leb}
use lib.ListN.{length}
use borrow.Author.Tests.{eq-eqb, ne_eqb, not-false}
use Rattle.answer.specs.Answer.{accepted}
use Rattle.answer.proofs.Laws.Test.{passed}
use Rattle.answer.specs.Bit.{bit}
use Rattle.message.specs.Command.{command_listed, command_of, checked_command, read_command}
use Rattle.message.specs.Lists.{condition_of, latched_of, arming_of, zone_of, text_of, zones, words, texts}
use Rattle.message.specs.Log.{log_listed, log_of, read_log}
use Rattle.message.specs.Message.{Message, fixed, digits_listed, order_listed, read_plain, read_login, read_zone_request, with_data, message_of}
use Rattle.message.specs.Typed.{duration_p1, parameters, command_bytes, log_bytes, fixed_frame, condition_bits, latched_bits, arming_bits, status_byte, zone_bytes, event_bytes, text_bits, text_bytes}
use Rattle.message.specs.declared.command.Duration.{Duration}
use Rattle.message.specs.declared.command.Command.{Command}
use Rattle.message.specs.declared.command.Command.TheVariants.{Off, On, AllOff, AllOn, Level, Decrement, Increment, SetCounter}
use Rattle.message.specs.declared.log.LogEntry.{LogEntry}
use Rattle.message.specs.declared.lists.Condition.{Condition}
use Rattle.message.specs.declared.lists.LatchedAlarm.{LatchedAlarm}
use Rattle.message.specs.declared.lists.Arming.{Arming}
use Rattle.message.specs.declared.lists.Zone.{Zone}
use Rattle.message.specs.declared.lists.TextMessage.{TextMessage}
use Rattle.message.specs.declared.message.Fixed.{Fixed}
use Rattle.message.specs.declared.message.Fixed.TheVariants as F
use Rattle.message.proofs.Laws.Checked.{was_accepted, both}
use Rattle.message.proofs.Laws.Duration.{duration_after_p1}

-- ---- commands

-- what a number and its parameters are read as, P2 in two bytes
as_read : (number p1 p2 : ℕ) (c : Command) → read_command (parameters number p1 p2) ≡ accepted c
    → (command_listed number p1 p2 ≡ true) × (c ≡ command_of number p1 p2)
unfolding read_command checked_command
as_read number p1 p2 c e =
    let w : ℕ = p2 / 256 * 256 + p2 % 256 in
    let p = passed (not (command_listed number p1 w)) 8 _ c e in
    let whole : w ≡ p2 = div-add-mod' p2 256 in
    let is : c ≡ command_of number p1 w = cc p.1 in
    (sym (ap (command_listed number p1) whole) ∙ not-false (command_listed number p1 w) p.0, is ∙ ap (command_of number p1) whole)

command_back : (c r : Command) → read_command (command_bytes c) ≡ accepted r → r ≡ c
unfolding command_listed command_of
command_back (Off d unit) r e =
    let a = as_read 0 (duration_p1 d) unit r e in
    a.1 ∙ ap (λ (x : Duration). Off x unit) (duration_after_p1 d (both {a = leb 1 unit} a.0).1)
command_back (On d unit) r e =
    let a = as_read 1 (duration_p1 d) unit r e in
    a.1 ∙ ap (λ (x : Duration). On x unit) (duration_after_p1 d (both {a = leb 1 unit} a.0).1)
command_back (AllOff area) r e = (as_read 2 0 area r e).1
command_back (AllOn area) r e = (as_read 3 0 area r e).1
command_back (Level percent unit) r e = (as_read 9 percent unit r e).1
command_back (Decrement counter) r e = (as_read 10 0 counter r e).1
command_back (Increment counter) r e = (as_read 11 0 counter r e).1
command_back (SetCounter v counter) r e = (as_read 12 v counter r e).1

-- ---- log entries

log_same : (e : LogEntry) → log_of (log_bytes e) ≡ e
unfolding log_of
log_same e =
    λ i. record {
      number = e.number;
      time_valid = e.time_valid;
      month = e.month;
      day = e.day;
      hour = e.hour;
      minute = e.minute;
      event_type = e.event_type;
      parameter_1 = e.parameter_1;
      parameter_2 = div-add-mod' e.parameter_2 256 i;
    }

log_back : (e r : LogEntry) → read_log (log_bytes e) ≡ accepted r → r ≡ e
unfolding read_log
log_back e r h =
    let p = passed (not (log_listed (log_of (log_bytes e)))) 8 _ r h in
    let is : r ≡ log_of (log_bytes e) = cc p.1 in
    is ∙ log_same e

-- ---- messages of fixed length

pub fixed_back : (f : Fixed) (m : Message) → message_of (fixed_frame f).kind (fixed_frame f).bytes ≡ accepted m → m ≡ fixed f
unfolding message_of with_data read_plain read_login read_zone_request
fixed_back F.Acknowledge m e = cc
fixed_back F.NegativeAcknowledge m e = cc
fixed_back F.UploadEventLog m e = cc
fixed_back F.RequestSystemInformation m e = cc
fixed_back F.RequestSystemStatus m e = cc
fixed_back F.Logout m e = cc
fixed_back F.RequestSystemEvents m e = cc
fixed_back (F.Login a b c d) m e = cc (passed (not (digits_listed a b c d)) 8 (accepted (fixed (F.Login a b c d))) m e).1
fixed_back (F.ZoneRequest a b) m e = cc (passed (not (order_listed a b)) 8 (accepted (fixed (F.ZoneRequest a b))) m e).1
fixed_back (F.LogEntry x) m e =
    let w = was_accepted (λ y. fixed (F.LogEntry y)) (read_log (log_bytes x)) m (sym e) in
    w.2 ∙ ap (λ (y : LogEntry). fixed (F.LogEntry y)) (log_back x w.0 w.1)
fixed_back (F.Command x) m e =
    let w = was_accepted (λ y. fixed (F.Command y)) (read_command (command_bytes x)) m (sym e) in
    w.2 ∙ ap (λ (y : Command). fixed (F.Command y)) (command_back x w.0 w.1)

-- ---- lists

condition_back : (c : Condition) (s : ℕ) → s % 4 ≡ condition_bits c → condition_of s ≡ c
condition_back Condition.Secure s h = simp h
condition_back Condition.NotReady s h = simp h
condition_back Condition.Trouble s h = simp h

latched_back : (l : LatchedAlarm) (s : ℕ) → s / 4 % 4 ≡ latched_bits l → latched_of s ≡ l
latched_back LatchedAlarm.Secure s h = simp h
latched_back LatchedAlarm.Tripped s h = simp h
latched_back LatchedAlarm.Reset s h = simp h

arming_back : (a : Arming) (s : ℕ) → s / 16 % 4 ≡ arming_bits a → arming_of s ≡ a
arming_back Arming.Disarmed s h = simp h
arming_back Arming.Armed s h = simp h
arming_back Arming.BypassedByUser s h = simp h
arming_back Arming.BypassedBySystem s h = simp h

flag_back : (t : Bool) (k : ℕ) → k ≡ bit t → eqb k 1 ≡ t
flag_back true k h = eq-eqb k 1 h
flag_back false k h = ne_eqb k 1 (omega arith)

condition_below : (c : Condition) → condition_bits c < 3
condition_below Condition.Secure = omega arith
condition_below Condition.NotReady = omega arith
condition_below Condition.Trouble = omega arith

latched_below : (l : LatchedAlarm) → latched_bits l < 3
latched_below LatchedAlarm.Secure = omega arith
latched_below LatchedAlarm.Tripped = omega arith
latched_below LatchedAlarm.Reset = omega arith

arming_below : (a : Arming) → arming_bits a < 4
arming_below Arming.Disarmed = omega arith
arming_below Arming.Armed = omega arith
arming_below Arming.BypassedByUser = omega arith
arming_below Arming.BypassedBySystem = omega arith

flag_below : (t : Bool) → bit t < 2
flag_below true = omega arith
flag_below false = omega arith

-- the fields of a status byte
bits_apart : (c l a t : ℕ) → c < 3 → l < 3 → a < 4 → t < 2 → (s : ℕ) → s ≡ c + 4 * l + 16 * a + 64 * t
    → (s % 4 ≡ c) × (s / 4 % 4 ≡ l) × (s / 16 % 4 ≡ a) × (s / 64 % 2 ≡ t)
bits_apart c l a t hc hl ha ht s e = (omega arith, omega arith, omega arith, omega arith)

zone_back : (z : Zone) → zone_of (status_byte z) z.loop_reading ≡ z
zone_back z =
    let b =
    bits_apart (condition_bits z.condition) (latched_bits z.latched_alarm) (arming_bits z.arming) (bit z.unacknowledged_trouble)
    (condition_below z.condition) (latched_below z.latched_alarm) (arming_below z.arming) (flag_below z.unacknowledged_trouble)
    (status_byte z) refl in
    λ i. record {
      condition = condition_back z.condition (status_byte z) b.0 i;
      latched_alarm = latched_back z.latched_alarm (status_byte z) b.1 i;
      arming = arming_back z.arming (status_byte z) b.2 i;
      unacknowledged_trouble = flag_back z.unacknowledged_trouble (status_byte z / 64 % 2) b.3 i;
      loop_reading = z.loop_reading;
    }

pub zones_back : (zs : List Zone) → zones (zone_bytes zs) ≡ zs
zones_back [] = refl
zones_back (z ∷ zs) = ap₂ {C = List Zone} (λ x xs. x ∷ xs) (zone_back z) (zones_back zs)

pub events_back : (es : List ℕ) → words (event_bytes es) ≡ es
events_back [] = refl
events_back (e ∷ es) = ap₂ {C = List ℕ} (λ x xs. x ∷ xs) (div-add-mod' e 256) (events_back es)

two_flags : (x y k : ℕ) → x < 2 → y < 2 → k ≡ x + 2 * y → (k % 2 ≡ x) × (k / 2 % 2 ≡ y)
two_flags x y k hx hy e =
    let half : k / 2 ≡ y = omega arith in
    let same : y % 2 ≡ y = omega arith in
    (omega arith, ap (λ (n : ℕ). n % 2) half ∙ same)

text_back : (t : TextMessage) (k : ℕ) → k ≡ text_bits t → text_of k ≡ t
text_back t k e =
    let f = two_flags (bit t.displayed) (bit t.not_acknowledged) k (flag_below t.displayed) (flag_below t.not_acknowledged) e in
    λ i. record { displayed = flag_back t.displayed (k % 2) f.0 i; not_acknowledged = flag_back t.not_acknowledged (k / 2 % 2) f.1 i }

bits_below : (t : TextMessage) → text_bits t < 4
bits_below t = omega (arith, flag_below t.displayed, flag_below t.not_acknowledged)

fours : (x y z w b : ℕ) → x < 4 → y < 4 → z < 4 → w < 4 → b ≡ 64 * x + 16 * y + 4 * z + w
    → (b / 64 ≡ x) × (b / 16 % 4 ≡ y) × (b / 4 % 4 ≡ z) × (b % 4 ≡ w)
fours x y z w b hx hy hz hw e = (omega arith, omega arith, omega arith, omega arith)

pub texts_back : (ts : List TextMessage) → length ts % 4 ≡ 0 → texts (text_bytes ts) ≡ ts
texts_back [] h = refl
texts_back (a ∷ []) h = let z : ⊥ = omega arith in absurd z
texts_back (a ∷ b ∷ []) h = let z : ⊥ = omega arith in absurd z
texts_back (a ∷ b ∷ c ∷ []) h = let z : ⊥ = omega arith in absurd z
texts_back (a ∷ b ∷ c ∷ d ∷ ts) h =
    let byte : ℕ = 64 * text_bits a + 16 * text_bits b + 4 * text_bits c + text_bits d in
    let f = fours (text_bits a) (text_bits b) (text_bits c) (text_bits d) byte (bits_below a) (bits_below b) (bits_below c) (bits_below d) refl in
    let rest : texts (text_bytes ts) ≡ ts = texts_back ts (omega arith) in
    λ i. text_back a (byte / 64) f.0 i ∷ text_back b (byte / 16 % 4) f.1 i ∷ text_back c (byte / 4 % 4) f.2 i ∷ text_back d (byte % 4) f.3 i ∷ rest i
