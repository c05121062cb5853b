-- The buyer's condition 2, in one place, over all formats and the writers and readers that callers have. Condition 3 is `Condition3` in
-- crate link.
use Rattle.std.specs.Prelude.{ℕ, ◌+◌, ◌-◌, ◌^◌, ◌<◌, ◌≤◌, ◌≡◌, true, false, List, ◌∷◌, ◌++◌, ◌⊎◌, T, Float, length, get_or}
use Rattle.std.specs.Float.Ieee.{eq}
use Rattle.std.proofs.Math.Pow.{are_bytes}
use Rattle.answer.specs.Answer.{Outcome, refused, accepted, on_accepted}
use Rattle.link.specs.Frame.{read_frame, read_first, write_frame}
use Rattle.message.specs.Item.{item_at, zone_item, event_item, text_item, log_fields, log_item, command_item}
use Rattle.message.specs.Lists.{zone_status_type, events_type, message_status_type}
use Rattle.message.specs.Message.{Message, fixed, zone_status, events, message_status, message_of, read_message, write_message, counted}
use Rattle.message.specs.Typed as Messages
use Rattle.message.specs.declared.command.Command.{Command}
use Rattle.message.specs.declared.lists.TextMessage.{TextMessage}
use Rattle.message.specs.declared.lists.Zone.{Zone}
use Rattle.message.specs.declared.log.LogEntry.{LogEntry}
use Rattle.message.specs.declared.message.Fixed.{Fixed}
use Rattle.message.specs.declared.message.Fixed.TheVariants as F
use Rattle.message.specs.declared.message.Message.{Message as Counted}
use Rattle.omnistat.specs.declared.frame.End.{End}
use Rattle.omnistat.specs.declared.frame.End.TheVariants.{Thermostat, Host}
use Rattle.omnistat.specs.declared.group.Group.{Group}
use Rattle.omnistat.specs.Message.{Counted as CountedMessage, Known, poll, set_from, poll_group, as_message_by, body_by}
use Rattle.omnistat.specs.Text.{Text}
use Rattle.omnistat.specs.Omnistat as Omnistat
use Rattle.thermostat.specs.Map.{content}
use Rattle.thermostat.specs.Texts.{text_place, text_count, held_text, store_allowed}
use Rattle.thermostat.specs.Step.{Done, step, is_for, all_settable}
use Rattle.thermostat.specs.Temperature.{celsius, byte_of, bytes_of}
use Rattle.tally.specs.Cost.{millionths}
use Rattle.tally.specs.Reading.{Carries}
use Rattle.tally.specs.Run.{Call, Promised, total_found, sum_accepted, RefusedWith}
use Rattle.x10.specs.Codes.{function_of}
use Rattle.x10.specs.Pattern as X10
use Rattle.listing.specs.Lines.{Line, lines}
use Rattle.listing.specs.Faithful.{Faithful}

-- what is written reads back as the same message, and what is read writes back to the same bytes, for the messages and bytes of a format
pub record Inverse {M : Type 0} (read : List ℕ → Outcome M) (write : M → Outcome (List ℕ)) (Written : M → Type 0) (Sent : List ℕ → Type 0) : Type 0 where
  pub read_back : (m : M) (s : List ℕ) → Written m → write m ≡ accepted s → read s ≡ accepted m
  pub write_back : (s : List ℕ) (m : M) → Sent s → read s ≡ accepted m → write m ≡ accepted s

-- no bound on what is written or sent
abbrev pub Any : {A : Type 0} → A → Type 0
Any a = Unit {0}

-- what is sent is a list of bytes
abbrev pub Bytes : List ℕ → Type 0
Bytes s = T (are_bytes s)

-- what a writer accepts stands for a message, and reads back as that message
abbrev pub ReadsBack : {M : Type 0} → (List ℕ → Outcome M) → Outcome M → Outcome (List ℕ) → Type 0
ReadsBack {M} read given written = (s : List ℕ) → written ≡ accepted s → (m : M) × (given ≡ accepted m) × (read s ≡ accepted m)

-- Omni-Link messages: the writers on a type and data bytes, on a message of fixed length, and on a typed message with the data bytes of its
-- list, whose count and data bytes are then those given; and both directions for messages with their lists
pub record MessagesReadBack : Type 0 where
  pub by_bytes : (kind : ℕ) (d : List ℕ) → ReadsBack read_message (message_of kind d) (write_message kind d)
  pub by_fixed : (f : Fixed) → ReadsBack read_message (accepted (fixed f)) (Messages.write_fixed f)
  pub by_typed : (m : Counted) (d : List ℕ) → ReadsBack read_message (accepted (Messages.with_list m d)) (Messages.write_counted m d)
  pub typed_count : (m : Counted) (d s : List ℕ) → Messages.write_counted m d ≡ accepted s → counted (Messages.with_list m d) ≡ m
  pub typed_data : (m : Counted) (d s : List ℕ) → Bytes d → Messages.write_counted m d ≡ accepted s → Messages.item_bytes (Messages.with_list m d) ≡ d
  pub with_lists : Inverse read_message Messages.write Any Bytes

-- a message's type is not this one
abbrev pub OfAnotherType : ℕ → Message → Type 0
OfAnotherType kind m = Messages.kind_of (counted m) ≡ kind → ⊥

-- item i of a message that was read is item i of its list; a message of another type has none
pub record Items (s : List ℕ) : Type 0 where
  pub zone : (zs : List Zone) (i : ℕ) → read_message s ≡ accepted (zone_status zs) → zone_item i s ≡ item_at zs i
  pub event : (es : List ℕ) (i : ℕ) → read_message s ≡ accepted (events es) → event_item i s ≡ item_at es i
  pub text_message : (ts : List TextMessage) (i : ℕ) → read_message s ≡ accepted (message_status ts) → text_item i s ≡ item_at ts i
  pub log_field : (e : LogEntry) (i : ℕ) → read_message s ≡ accepted (fixed (F.LogEntry e)) → log_item i s ≡ item_at (log_fields e) i
  pub command : (c : Command) → read_message s ≡ accepted (fixed (F.Command c)) → command_item s ≡ accepted c
  pub no_zone : (m : Message) (i : ℕ) → OfAnotherType zone_status_type m → read_message s ≡ accepted m → zone_item i s ≡ refused 8
  pub no_event : (m : Message) (i : ℕ) → OfAnotherType events_type m → read_message s ≡ accepted m → event_item i s ≡ refused 8
  pub no_text_message : (m : Message) (i : ℕ) → OfAnotherType message_status_type m → read_message s ≡ accepted m → text_item i s ≡ refused 8
  pub no_log_field : (m : Message) (i : ℕ) → OfAnotherType 0x0E m → read_message s ≡ accepted m → log_item i s ≡ refused 8
  pub no_command : (m : Message) → OfAnotherType 0x0F m → read_message s ≡ accepted m → command_item s ≡ refused 8

-- a set of registers from a start on, at a map m, leaves a map: the addressed registers changed and no others, or none
pub record SetLeaves (m : List ℕ) (start : ℕ) (values after : List ℕ) : Type 0 where
  pub stores : all_settable start values ≡ true → (i : ℕ) → i < length values → content after (start + i) ≡ get_or values i 0
  pub leaves_the_others : all_settable start values ≡ true → (r : ℕ) → (r < start) ⊎ (start + length values ≤ r) → content after r ≡ content m r
  pub stores_none : all_settable start values ≡ false → after ≡ m

-- a text, at a text store, leaves a store: its own count and characters changed, and no other byte
pub record TextLeaves (texts : List ℕ) (t : Text) (after : List ℕ) : Type 0 where
  pub stores_count : text_count after t.start ≡ length t.characters
  pub stores_characters : held_text after t.start ≡ t.characters
  pub leaves_the_others : (p : ℕ) → (p < text_place t.start) ⊎ (text_place t.start + length t.characters < p) → get_or after p 0 ≡ get_or texts p 0

-- what is lent to a step stays as it was
abbrev pub Unchanged : List ℕ → List ℕ → Done → Type 0
Unchanged m texts d = (d.map ≡ m) × (d.texts ≡ texts)

-- what a thermostat's step with a message leaves of its map and its text store: their lengths, and a store that the next step takes; all of
-- them after a poll and after a message for another address; the store after a register write, the map after a text
pub record StepLeaves (own first : ℕ) (q : Omnistat.Message Thermostat) (m texts : List ℕ) (d : Done) : Type 0 where
  pub same_length : length d.map ≡ length m
  pub same_texts_length : length d.texts ≡ length texts
  pub texts-allowed : store_allowed d.texts ≡ true
  pub another_address : is_for own first ≡ false → Unchanged m texts d
  pub polled : (start count : ℕ) → q ≡ Omnistat.counted (poll start count) → Unchanged m texts d
  pub group_polled : (g : Group) → q ≡ Omnistat.counted (poll_group g) → Unchanged m texts d
  pub register_write : (start : ℕ) (values : List ℕ) → q ≡ Omnistat.counted (set_from start values) → is_for own first ≡ true → SetLeaves m start values d.map
  pub register_write_leaves_texts : (start : ℕ) (values : List ℕ) → q ≡ Omnistat.counted (set_from start values) → d.texts ≡ texts
  pub text_write : (t : Text) → q ≡ Omnistat.text t → is_for own first ≡ true → TextLeaves texts t d.texts
  pub text_write_leaves_map : (t : Text) → q ≡ Omnistat.text t → d.map ≡ m

-- a text that was set is what the host reads when it is polled from the store that was left, with half-byte 0
abbrev pub PolledText : Type 0
PolledText = (own : ℕ) (m texts s : List ℕ) (room : ℕ) (d : Done) → step own m texts s room ≡ accepted d
    → (first : ℕ) (t : Text) → Omnistat.read Thermostat s ≡ accepted (Omnistat.addressed first (Omnistat.text t)) → is_for own first ≡ true
    → (map later : List ℕ) (room₂ : ℕ) (d₂ : Done) → step own map d.texts later room₂ ≡ accepted d₂
    → (first₂ count : ℕ) → Omnistat.read Thermostat later ≡ accepted (Omnistat.addressed_counted Thermostat first₂ (poll t.start count))
    → is_for own first₂ ≡ true → (first₂ ≡ 0 → ⊥)
    → Omnistat.read Host d₂.sent ≡ accepted (Omnistat.addressed own (Omnistat.text (record { half = 0; start = t.start; characters = t.characters })))

-- a temperature byte, and a setpoint pair of two, goes to degrees and back; what goes back equals the degrees of its bytes, as floats are
-- compared
pub record Temperatures : Type 0 where
  pub byte_back : (n : ℕ) → n < 256 → byte_of (celsius n) ≡ accepted n
  pub degrees_back : (x : Float) (n : ℕ) → byte_of x ≡ accepted n → (n < 256) × (eq x (celsius n) ≡ true)
  pub pair_back : (cool heat : ℕ) → cool < 256 → heat < 256 → bytes_of (celsius cool) (celsius heat) ≡ accepted (cool, heat)
  pub pair_degrees_back : (x y : Float) (cool heat : ℕ) → bytes_of x y ≡ accepted (cool, heat)
      → (eq x (celsius cool) ≡ true) × (eq y (celsius heat) ≡ true)

-- a meter call after others on a record that started at 0: a reply is taken only where it has the bytes of a meter reply, and its word is then
-- added; it is taken where the sum fits; what is refused is refused with the reader's number, with 8 where the reader accepts and no word is
-- carried, with 11 where the sum would pass; and a refused call leaves the record as it was
pub record MeterCall (before : List Call) (c : Call) : Type 0 where
  pub taken : (next : ℕ) → c.answer ≡ accepted next
      → (word : ℕ) × Carries c.reply word × (next ≡ sum_accepted before + millionths word) × (c.total ≡ sum_accepted before + millionths word)
  pub fitting : (word : ℕ) → Carries c.reply word → sum_accepted before + millionths word ≤ 2 ^ 64 - 1
      → c.answer ≡ accepted (sum_accepted before + millionths word)
  pub refused_with : (n : ℕ) → c.answer ≡ refused n → RefusedWith before c n
  pub unchanged : (n : ℕ) → c.answer ≡ refused n → c.total ≡ total_found 0 before

pub record Condition2 : Type 0 where
  pub frames : Inverse read_frame (λ f. write_frame f.kind f.bytes) Any Bytes
  pub first_frame : (kind : ℕ) (d s rest : List ℕ) → write_frame kind d ≡ accepted s → read_first (s ++ rest) ≡ accepted (record { kind = kind; bytes = d })
  pub messages : MessagesReadBack
  pub items : (s : List ℕ) → Items s
  pub omnistat2 : (end : End) (known : Known end)
      → Inverse (Omnistat.read_by end known) (λ a. Omnistat.write_by end known a.address a.message) Any Bytes
  pub omnistat2_counted : (end : End) (known : Known end) (address : ℕ) (c : CountedMessage end) (s : List ℕ)
      → Omnistat.read_by end known s ≡ accepted (Omnistat.addressed_counted end address c)
      → (Omnistat.write_by end known address (Omnistat.counted c) ≡ accepted s)
      × (Omnistat.write_bytes_by end known address (body_by end known c).kind (body_by end known c).payload ≡ accepted s)
  pub omnistat2_by_bytes : (end : End) (known : Known end) (address kind : ℕ) (payload : List ℕ)
      → ReadsBack (Omnistat.read_by end known) (on_accepted (Omnistat.addressed_counted end address) (as_message_by end known kind payload))
      (Omnistat.write_bytes_by end known address kind payload)
  pub patterns : Inverse X10.read X10.write X10.Bytes Any
  pub functions_by_code : (house code : ℕ) → ReadsBack X10.read (on_accepted (X10.function house) (function_of code)) (X10.write_function_code house code)
  pub steps : (own : ℕ) (m texts s : List ℕ) (room : ℕ) (d : Done) (first : ℕ) (q : Omnistat.Message Thermostat)
      → step own m texts s room ≡ accepted d → Omnistat.read Thermostat s ≡ accepted (Omnistat.addressed first q) → StepLeaves own first q m texts d
  pub polled_text : PolledText
  pub temperatures : Temperatures
  pub exact_sum_lem : (calls : List Call) → Promised 0 calls → total_found 0 calls ≡ sum_accepted calls
  pub meter_calls : (before : List Call) (c : Call) (after : List Call) → Promised 0 (before ++ (c ∷ after)) → MeterCall before c
  pub listing : (s : List ℕ) → Faithful s (lines s)
  pub only-listing : (s : List ℕ) (ls : List Line) → Faithful s ls → ls ≡ lines s
