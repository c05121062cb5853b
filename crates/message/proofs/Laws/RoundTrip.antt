-- What is written reads back as the same message, and what is read writes back to the same bytes. Assumes nothing.
use mathlib.Core.Path.{◌≡◌, refl, sym, ap, ap₂, ◌∙◌}
use mathlib.Core.Bool.{true, not}
use mathlib.Core.List.{List, [], ◌∷◌}
use Prim.Native.Nat.{ℕ, ◌+◌, ◌*◌, ◌/◌, ◌%◌}
use native.Mathlib.Omega.{arith}
use lib.Dec.{T, eqb}
use lib.ListN.{length, get_or, drop, length-drop}
use lib.Pow.{are_bytes}
use borrow.Author.Tests.{eq-eqb, eqb-true, not-false}
use Rattle.answer.specs.Answer.{Outcome, refused, accepted, and_then}
use Rattle.answer.proofs.Laws.Test.{passed, passed_not, not_accepted}
use Rattle.link.proofs.Laws.Bytes.{byte_at, drop_bytes}
use Rattle.link.specs.Frame.{Frame, read_frame, write_frame}
use Rattle.link.proofs.Laws.RoundTrip as Frames
use Rattle.link.proofs.Laws.Whole.{data_bytes_lem}
use Rattle.message.specs.Command.{command_listed, command_of, checked_command, read_command}
use Rattle.message.specs.Lists.{zone_status_type, events_type, message_status_type, zone_of, word_of, zones, zones_listed, words, texts}
use Rattle.message.specs.Log.{log_listed, log_of, read_log}
use Rattle.message.specs.declared.command.Command.{Command}
use Rattle.message.specs.declared.log.LogEntry.{LogEntry}
use Rattle.message.specs.declared.message.Fixed.{Fixed}
use Rattle.message.specs.declared.message.Fixed.TheVariants as F
use Rattle.message.specs.declared.message.Message.{Message as Counted}
use Rattle.message.specs.declared.message.Message.TheVariants as C
use Rattle.message.specs.Message.{Message, fixed, zone_status, events, message_status, counted, message_of, read_message, write_message, with_data, status_length}
use Rattle.message.specs.Typed.{command_bytes, log_bytes, fixed_frame, zone_bytes, event_bytes, text_bytes, write_fixed, write_items, write_counted, with_list, item_bytes, write}
use Rattle.message.proofs.Laws.Decode.{fixed_back, zones_back, events_back, texts_back}
use Rattle.message.proofs.Laws.Checked.{passes, never}
use Rattle.message.proofs.Laws.Lists.{pairs-length, texts-length}
use Rattle.message.proofs.Laws.Accepts.{every_type, every_plain, every_login, every_request, every-zones, every-events, every-texts, every_log, every_command}
use Rattle.message.proofs.Laws.Encode.{none_of, leading, two_of, four_of, ten_of, command_encoded, word_apart, events-encoded, zones-encoded, texts-encoded}

-- a written type and data bytes are read as what they carry
reads_written : (kind : ℕ) (d s : List ℕ) → write_message kind d ≡ accepted s → read_message s ≡ message_of kind d
unfolding write_message read_message
reads_written kind d s e = by (message_of kind d) refl e
  where
    by : (o : Outcome Message) → message_of kind d ≡ o → and_then o (λ m. write_frame kind d) ≡ accepted s
        → and_then (read_frame s) (λ f. message_of f.kind f.bytes) ≡ message_of kind d
    by (refused n) q h = absurd (not_accepted n s h)
    by (accepted m) q h = ap (λ (o : Outcome Frame). and_then o (λ f. message_of f.kind f.bytes)) (Frames.read_after_write kind d s h)

carried : (kind : ℕ) (d s : List ℕ) → write_message kind d ≡ accepted s → (m : Message) × (message_of kind d ≡ accepted m)
unfolding write_message
carried kind d s e = by (message_of kind d) refl e
  where
    by : (o : Outcome Message) → message_of kind d ≡ o → and_then o (λ m. write_frame kind d) ≡ accepted s → (m : Message) × (message_of kind d ≡ accepted m)
    by (refused n) q h = absurd (not_accepted n s h)
    by (accepted m) q h = (m, q)

same_read : (kind : ℕ) (d s : List ℕ) (m : Message) → write_message kind d ≡ accepted s
    → ((r : Message) → message_of kind d ≡ accepted r → r ≡ m) → read_message s ≡ accepted m
same_read kind d s m e back =
    let c = carried kind d s e in
    reads_written kind d s e ∙ c.1 ∙ ap accepted (back c.0 c.1)

-- what is written for a type and data bytes is read as the message that they carry
pub read_after_write_bytes : (kind : ℕ) (d s : List ℕ) → write_message kind d ≡ accepted s
    → (m : Message) × (message_of kind d ≡ accepted m) × (read_message s ≡ accepted m)
read_after_write_bytes kind d s e =
    let c = carried kind d s e in
    (c.0, c.1, reads_written kind d s e ∙ c.1)

pub read_after_write_fixed : (f : Fixed) (s : List ℕ) → write_fixed f ≡ accepted s → read_message s ≡ accepted (fixed f)
unfolding write_fixed
read_after_write_fixed f s e = same_read (fixed_frame f).kind (fixed_frame f).bytes s (fixed f) e (fixed_back f)

-- a list's message by its data bytes
list_read : (kind size : ℕ) (d s : List ℕ) (m : Message) → write_items kind size d ≡ accepted s → ((r : Message) → message_of kind d ≡ accepted r → r ≡ m)
    → (length d ≡ size) × (read_message s ≡ accepted m)
unfolding write_items
list_read kind size d s m e back =
    let p = passed_not (eqb (length d) size) 7 (write_message kind d) s e in
    (eqb-true (length d) size p.0, same_read kind d s m p.1 back)

-- what the typed writer writes reads back as the message and the items that it was given
pub read_after_write_typed : (m : Counted) (d s : List ℕ) → write_counted m d ≡ accepted s
    → (read_message s ≡ accepted (with_list m d)) × (counted (with_list m d) ≡ m)
unfolding write_fixed message_of with_data
read_after_write_typed (C.Fixed f) d s e =
    let p = passed_not (eqb (length d) 0) 7 (write_fixed f) s e in
    (read_after_write_fixed f s p.1, refl)
read_after_write_typed (C.ZoneStatus n) d s e =
    let r = list_read zone_status_type (2 * n) d s (zone_status (zones d)) e (every-zones (λ r. r ≡ zone_status (zones d)) d (λ _ _. refl)) in
    let size : length (zones d) ≡ n = omega (arith, pairs-length zone_of d) in
    (r.1, ap C.ZoneStatus size)
read_after_write_typed (C.Events n) d s e =
    let r = list_read events_type (2 * n) d s (events (words d)) e (every-events (λ r. r ≡ events (words d)) d (λ _. refl)) in
    let size : length (words d) ≡ n = omega (arith, pairs-length word_of d) in
    (r.1, ap C.Events size)
read_after_write_typed (C.MessageStatus n) d s e =
    let p = passed_not (eqb (n % 4) 0) 7 (write_items message_status_type (1 + n / 4) d) s e in
    let r =
    list_read message_status_type (1 + n / 4) d s (message_status (texts (drop 1 d))) p.1
    (every-texts (λ r. r ≡ message_status (texts (drop 1 d))) d (λ _ _. refl)) in
    let fours : n % 4 ≡ 0 = eqb-true (n % 4) 0 p.0 in
    let size : length (texts (drop 1 d)) ≡ n = omega (arith, texts-length (drop 1 d), length-drop 1 d) in
    (r.1, ap C.MessageStatus size)

-- the items of a message status in their data bytes are the data bytes
texts_same : (d : List ℕ) → T (are_bytes d) → status_length (length d) ≡ true → get_or d 0 0 ≡ 0 → 0 ∷ text_bytes (texts (drop 1 d)) ≡ d
unfolding status_length
texts_same d bytes listed blank =
    ap {B = List ℕ} (λ x. 0 ∷ x) (texts-encoded (drop 1 d) (drop_bytes 1 d bytes))
    ∙ leading d blank (λ none. never (sym (ap status_length none) ∙ listed))

-- and its items are the data bytes that it was given: none is dropped
pub typed_items : (m : Counted) (d s : List ℕ) → T (are_bytes d) → write_counted m d ≡ accepted s → item_bytes (with_list m d) ≡ d
unfolding write_items message_of with_data
typed_items (C.Fixed f) d s bytes e = sym (none_of d (eqb-true (length d) 0 (passed_not (eqb (length d) 0) 7 (write_fixed f) s e).0))
typed_items (C.ZoneStatus n) d s bytes e =
    let c = carried zone_status_type d s (passed_not (eqb (length d) (2 * n)) 7 (write_message zone_status_type d) s e).1 in
    every-zones (λ _. zone_bytes (zones d) ≡ d) d (zones-encoded d) c.0 c.1
typed_items (C.Events n) d s bytes e =
    let c = carried events_type d s (passed_not (eqb (length d) (2 * n)) 7 (write_message events_type d) s e).1 in
    every-events (λ _. event_bytes (words d) ≡ d) d (events-encoded d bytes) c.0 c.1
typed_items (C.MessageStatus n) d s bytes e =
    let p = passed_not (eqb (n % 4) 0) 7 (write_items message_status_type (1 + n / 4) d) s e in
    let c = carried message_status_type d s (passed_not (eqb (length d) (1 + n / 4)) 7 (write_message message_status_type d) s p.1).1 in
    every-texts (λ _. 0 ∷ text_bytes (texts (drop 1 d)) ≡ d) d (texts_same d bytes) c.0 c.1

-- the items of a message in their data bytes are its items
items_back : (m : Message) (s : List ℕ) → write m ≡ accepted s → with_list (counted m) (item_bytes m) ≡ m
unfolding write
items_back (fixed f) s e = refl
items_back (zone_status zs) s e = ap zone_status (zones_back zs)
items_back (events es) s e = ap events (events_back es)
items_back (message_status ts) s e =
    let p = passed_not (eqb (length ts % 4) 0) 7 _ s e in
    ap message_status (texts_back ts (eqb-true (length ts % 4) 0 p.0))

pub read_after_write : (m : Message) (s : List ℕ) → write m ≡ accepted s → read_message s ≡ accepted m
unfolding write
read_after_write m s e = (read_after_write_typed (counted m) (item_bytes m) s e).0 ∙ ap accepted (items_back m s e)

-- ---- what is read writes back

-- from a message that data bytes carry, the same data bytes
module _ (kind : ℕ) (d : List ℕ) (bytes : T (are_bytes d)) where
  abbrev Back : Message → Type 0
  Back m = write m ≡ write_message kind d

  -- a list's data bytes that are these
  items_written : (k size : ℕ) (items : List ℕ) → items ≡ d → length d ≡ size → write_items k size items ≡ write_message k d
  unfolding write_items
  items_written k size items same right = ap (write_items k size) same ∙ sym (passes 7 (write_message k d) refl (eq-eqb (length d) size right))

  plain_back : (f : Fixed) → fixed_frame f ≡ record { kind = kind; bytes = [] } → length d ≡ 0 → Back (fixed f)
  unfolding write write_fixed
  plain_back f is none = ap (λ (x : Frame). write_message x.kind x.bytes) is ∙ ap (write_message kind) (sym (none_of d none))

  login_back : kind ≡ 0x20 → length d ≡ 4 → Back (fixed (F.Login (get_or d 0 0) (get_or d 1 0) (get_or d 2 0) (get_or d 3 0)))
  unfolding write write_fixed
  login_back is four = sym (ap₂ write_message is (four_of d four))

  request_back : kind ≡ 0x15 → length d ≡ 2 → Back (fixed (F.ZoneRequest (get_or d 0 0) (get_or d 1 0)))
  unfolding write write_fixed
  request_back is two = sym (ap₂ write_message is (two_of d two))

  zones_written : kind ≡ zone_status_type → length d % 2 ≡ 0 → zones_listed d ≡ true → Back (zone_status (zones d))
  unfolding write
  zones_written is even listed =
      let same : zone_bytes (zones d) ≡ d = zones-encoded d even listed in
      let size : length d ≡ 2 * length (zones d) = omega (arith, pairs-length zone_of d) in
      items_written zone_status_type (2 * length (zones d)) (zone_bytes (zones d)) same size ∙ ap (λ (k : ℕ). write_message k d) (sym is)

  events_written : kind ≡ events_type → length d % 2 ≡ 0 → Back (events (words d))
  unfolding write
  events_written is even =
      let same : event_bytes (words d) ≡ d = events-encoded d bytes even in
      let size : length d ≡ 2 * length (words d) = omega (arith, pairs-length word_of d) in
      items_written events_type (2 * length (words d)) (event_bytes (words d)) same size ∙ ap (λ (k : ℕ). write_message k d) (sym is)

  texts_written : kind ≡ message_status_type → status_length (length d) ≡ true → get_or d 0 0 ≡ 0 → Back (message_status (texts (drop 1 d)))
  unfolding write status_length
  texts_written is listed blank =
      let ts = texts (drop 1 d) in
      let some : length d ≡ 0 → ⊥ = λ none. never (sym (ap status_length none) ∙ listed) in
      let fours : length ts % 4 ≡ 0 = omega (arith, texts-length (drop 1 d)) in
      let same : 0 ∷ text_bytes ts ≡ d = texts_same d bytes listed blank in
      let size : length d ≡ 1 + length ts / 4 = omega (arith, some, texts-length (drop 1 d), length-drop 1 d) in
      sym (passes 7 (write_items message_status_type (1 + length ts / 4) (0 ∷ text_bytes ts)) refl (eq-eqb (length ts % 4) 0 fours))
      ∙ items_written message_status_type (1 + length ts / 4) (0 ∷ text_bytes ts) same size
      ∙ ap (λ (k : ℕ). write_message k d) (sym is)

  -- parameter 2 of the log entry and P2 of a command, in the two bytes that they came from
  last_two : (k j : ℕ) → (word_of (get_or d k 0) (get_or d j 0)) / 256 ∷ (word_of (get_or d k 0) (get_or d j 0)) % 256 ∷ [] ≡ get_or d k 0 ∷ get_or d j 0 ∷ []
  last_two k j =
      let w = word_apart (get_or d k 0) (get_or d j 0) (word_of (get_or d k 0) (get_or d j 0)) (byte_at d bytes j) refl in
      ap₂ {C = List ℕ} (λ x y. x ∷ y ∷ []) w.0 w.1

  log_bytes_lem : length d ≡ 10 → log_bytes (log_of d) ≡ d
  unfolding log_of
  log_bytes_lem ten =
      ap (λ (t : List ℕ). get_or d 0 0 ∷ get_or d 1 0 ∷ get_or d 2 0 ∷ get_or d 3 0 ∷ get_or d 4 0 ∷ get_or d 5 0 ∷ get_or d 6 0 ∷ get_or d 7 0 ∷ t) (last_two 8 9)
      ∙ sym (ten_of d ten)

  log_written : kind ≡ 0x0E → (e : LogEntry) → read_log d ≡ accepted e → Back (fixed (F.LogEntry e))
  unfolding write write_fixed read_log
  log_written is e h =
      let p = passed (not (eqb (length d) 10)) 7 _ e h in
      let q = passed (not (log_listed (log_of d))) 8 _ e p.1 in
      let ten : length d ≡ 10 = eqb-true (length d) 10 (not-false (eqb (length d) 10) p.0) in
      let same : e ≡ log_of d = cc q.1 in
      ap₂ write_message (sym is) (ap log_bytes same ∙ log_bytes_lem ten)

  command_written : kind ≡ 0x0F → (c : Command) → read_command d ≡ accepted c → Back (fixed (F.Command c))
  unfolding write write_fixed read_command checked_command
  command_written is c h =
      let n = get_or d 0 0 in
      let p1 = get_or d 1 0 in
      let p2 = word_of (get_or d 2 0) (get_or d 3 0) in
      let p = passed (not (eqb (length d) 4)) 7 _ c h in
      let q = passed (not (command_listed n p1 p2)) 8 _ c p.1 in
      let four : length d ≡ 4 = eqb-true (length d) 4 (not-false (eqb (length d) 4) p.0) in
      let same : c ≡ command_of n p1 p2 = cc q.1 in
      let e = command_encoded p1 p2 n (not-false (command_listed n p1 p2) q.0) in
      let bytes_back : command_bytes c ≡ d =
      ap command_bytes same ∙ e ∙ ap {B = List ℕ} (λ t. n ∷ p1 ∷ t) (last_two 2 3) ∙ sym (four_of d four) in
      ap₂ write_message (sym is) bytes_back

  written_back : (m : Message) → message_of kind d ≡ accepted m → Back m
  written_back =
      every_type Back kind d (λ f is. every_plain Back f d (plain_back f is)) (λ is. every_login Back d (login_back is))
      (λ is. every_request Back d (request_back is)) (λ is. every-zones Back d (zones_written is)) (λ is. every-events Back d (events_written is))
      (λ is. every-texts Back d (texts_written is)) (λ is. every_log Back d (log_written is)) (λ is. every_command Back d (command_written is))

pub write_after_read : (s : List ℕ) (m : Message) → T (are_bytes s) → read_message s ≡ accepted m → write m ≡ accepted s
unfolding read_message write_message
write_after_read s m t e = by (read_frame s) refl e
  where
    by : (o : Outcome Frame) → read_frame s ≡ o → and_then o (λ f. message_of f.kind f.bytes) ≡ accepted m → write m ≡ accepted s
    by (refused n) q h = absurd (not_accepted n m h)
    by (accepted f) q h =
        written_back f.kind f.bytes (data_bytes_lem s f q t) m h
        ∙ ap (λ (o : Outcome Message). and_then o (λ x. write_frame f.kind f.bytes)) h
        ∙ Frames.write_after_read s f t q
