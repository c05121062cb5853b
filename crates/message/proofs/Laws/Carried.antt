-- The item calls hand back the items of the message that was read, and 8 for a message of another type. Assumes nothing.
use mathlib.Core.Path.{◌≡◌, refl, sym, ap, subst, ◌∙◌}
use mathlib.Core.List.{List}
use Prim.Native.Nat.{ℕ}
use lib.ListN.{drop}
use borrow.Author.Tests.{eq-eqb, ne_eqb}
use Rattle.answer.specs.Answer.{Outcome, refused, accepted, and_then}
use Rattle.answer.proofs.Laws.Test.{then_accepted, on_accepted_lem}
use Rattle.link.specs.Frame.{Frame, read_frame}
use Rattle.message.specs.Command.{read_command}
use Rattle.message.specs.Lists.{zone_status_type, events_type, message_status_type, zones, words, texts}
use Rattle.message.specs.Log.{read_log}
use Rattle.message.specs.Message.{Message, fixed, zone_status, events, message_status, message_of, with_data, read_message, counted}
use Rattle.message.specs.Item.{frame_of, item_of, item_at, zone_item, event_item, text_item, log_fields, log_item, command_item}
use Rattle.message.specs.Typed.{kind_of}
use Rattle.message.specs.declared.command.Command.{Command}
use Rattle.message.specs.declared.lists.TextMessage.{TextMessage}
use Rattle.message.specs.declared.lists.Zone.{Zone}
use Rattle.message.specs.declared.log.LogEntry.{LogEntry}
use Rattle.message.specs.declared.message.Fixed.TheVariants as F
use Rattle.message.proofs.Laws.Accepts.{every_type, every_plain, every_login, every_request, every-zones, every-events, every-texts, every_log, every_command}

-- the type byte of a message that was read is the type of the message
abbrev Same : ℕ → Message → Type 0
Same kind m = kind_of (counted m) ≡ kind

pub kind_of_lem : (kind : ℕ) (d : List ℕ) (m : Message) → message_of kind d ≡ accepted m → kind_of (counted m) ≡ kind
kind_of_lem kind d =
    every_type (Same kind) kind d (λ f is. every_plain (Same kind) f d (λ _. ap (λ (x : Frame). x.kind) is)) (λ is. every_login (Same kind) d (λ _. sym is))
    (λ is. every_request (Same kind) d (λ _. sym is)) (λ is. every-zones (Same kind) d (λ _ _. sym is)) (λ is. every-events (Same kind) d (λ _. sym is))
    (λ is. every-texts (Same kind) d (λ _ _. sym is)) (λ is. every_log (Same kind) d (λ _ _. sym is)) (λ is. every_command (Same kind) d (λ _ _. sym is))

module _ (s : List ℕ) where
  -- the frame of a message that was read
  its_frame : (m : Message) → read_message s ≡ accepted m → (f : Frame) × (read_frame s ≡ accepted f) × (message_of f.kind f.bytes ≡ accepted m)
  unfolding read_message
  its_frame m e = then_accepted (read_frame s) (λ f. message_of f.kind f.bytes) m e

  -- what is looked up in the data bytes of a message of the type that is asked for
  looked_up : {A : Type 0} (kind : ℕ) (look : List ℕ → Outcome A) (m : Message) (x : Outcome A) → kind_of (counted m) ≡ kind
      → ((d : List ℕ) → message_of kind d ≡ accepted m → look d ≡ x) → read_message s ≡ accepted m → item_of kind look s ≡ x
  unfolding item_of frame_of
  looked_up kind look m x is there e =
      let f = its_frame m e in
      let right : f.0.kind ≡ kind = sym (kind_of_lem f.0.kind f.0.bytes m f.2) ∙ is in
      simp (e, f.1, eq-eqb f.0.kind kind right) (there f.0.bytes (subst (λ (k : ℕ). message_of k f.0.bytes ≡ accepted m) right f.2))

  -- a message of another type
  pub other_type : {A : Type 0} (kind : ℕ) (look : List ℕ → Outcome A) (m : Message) → (kind_of (counted m) ≡ kind → ⊥) → read_message s ≡ accepted m
      → item_of kind look s ≡ refused 8
  unfolding item_of frame_of
  other_type kind look m is e =
      let f = its_frame m e in
      let wrong : f.0.kind ≡ kind → ⊥ = λ h. is (kind_of_lem f.0.kind f.0.bytes m f.2 ∙ h) in
      simp (e, f.1, ne_eqb f.0.kind kind wrong)

  pub zone_item_lem : (zs : List Zone) (i : ℕ) → read_message s ≡ accepted (zone_status zs) → zone_item i s ≡ item_at zs i
  unfolding message_of with_data
  zone_item_lem zs i =
      looked_up zone_status_type (λ d. item_at (zones d) i) (zone_status zs) (item_at zs i) refl (λ d h.
      let same = every-zones (λ m. m ≡ zone_status (zones d)) d (λ _ _. refl) (zone_status zs) h in
      let list : zones d ≡ zs = cc in
      ap (λ (l : List Zone). item_at l i) list)

  pub event_item_lem : (es : List ℕ) (i : ℕ) → read_message s ≡ accepted (events es) → event_item i s ≡ item_at es i
  unfolding message_of with_data
  event_item_lem es i =
      looked_up events_type (λ d. item_at (words d) i) (events es) (item_at es i) refl (λ d h.
      let same = every-events (λ m. m ≡ events (words d)) d (λ _. refl) (events es) h in
      let list : words d ≡ es = cc in
      ap (λ (l : List ℕ). item_at l i) list)

  pub text_item_lem : (ts : List TextMessage) (i : ℕ) → read_message s ≡ accepted (message_status ts) → text_item i s ≡ item_at ts i
  unfolding message_of with_data
  text_item_lem ts i =
      looked_up message_status_type (λ d. item_at (texts (drop 1 d)) i) (message_status ts) (item_at ts i) refl (λ d h.
      let same = every-texts (λ m. m ≡ message_status (texts (drop 1 d))) d (λ _ _. refl) (message_status ts) h in
      let list : texts (drop 1 d) ≡ ts = cc in
      ap (λ (l : List TextMessage). item_at l i) list)

  pub log_item_lem : (e : LogEntry) (i : ℕ) → read_message s ≡ accepted (fixed (F.LogEntry e)) → log_item i s ≡ item_at (log_fields e) i
  unfolding message_of with_data
  log_item_lem e i =
      looked_up 0x0E (λ d. and_then (read_log d) (λ x. item_at (log_fields x) i)) (fixed (F.LogEntry e)) (item_at (log_fields e) i) refl (λ d h.
      let r = on_accepted_lem (λ x. fixed (F.LogEntry x)) (read_log d) (fixed (F.LogEntry e)) h in
      let same : r.0 ≡ e = cc r.2 in
      ap (λ (o : Outcome LogEntry). and_then o (λ x. item_at (log_fields x) i)) (r.1 ∙ ap accepted same))

  pub command_item_lem : (c : Command) → read_message s ≡ accepted (fixed (F.Command c)) → command_item s ≡ accepted c
  unfolding message_of with_data
  command_item_lem c =
      looked_up 0x0F read_command (fixed (F.Command c)) (accepted c) refl (λ d h.
      let r = on_accepted_lem (λ x. fixed (F.Command x)) (read_command d) (fixed (F.Command c)) h in
      let same : r.0 ≡ c = cc r.2 in
      r.1 ∙ ap accepted same)
