-- What each type's reader accepts. Assumes nothing.
use mathlib.Core.Path.{◌≡◌, refl, sym, ap, subst}
use mathlib.Core.Bool.{Bool, true, false, cond, not}
use mathlib.Core.List.{List, []}
use Prim.Native.Nat.{ℕ, ◌%◌}
use lib.Dec.{eqb, ltb}
use lib.ListN.{length, get_or, drop}
use borrow.Author.Tests.{eqb-true, not-false}
use Rattle.answer.specs.Answer.{Outcome, refused, accepted, refuse_if, on_accepted}
use Rattle.answer.proofs.Laws.Test.{not_accepted}
use Rattle.link.specs.Frame.{Frame}
use Rattle.message.specs.Lists.{zone_status_type, events_type, message_status_type, zones, zones_listed, words, texts}
use Rattle.message.specs.Message.{Message, fixed, zone_status, events, message_status, digits_listed, order_listed, status_length, read_plain, read_login, read_zone_request, read_zone_status, read_events, read_message_status, with_data, message_of}
use Rattle.message.specs.Command.{read_command}
use Rattle.message.specs.Log.{read_log}
use Rattle.message.specs.Typed.{fixed_frame}
use Rattle.message.specs.declared.message.Fixed.{Fixed}
use Rattle.message.specs.declared.message.Fixed.TheVariants as F
use Rattle.message.specs.declared.log.LogEntry.{LogEntry}
use Rattle.message.specs.declared.command.Command.{Command}

-- what holds of whatever a reader accepts
module _ (P : Message → Type 0) where
  abbrev pub Every : Outcome Message → Type 0
  Every o = (m : Message) → o ≡ accepted m → P m

  pub every_value : (m : Message) → P m → Every (accepted m)
  every_value m h n e = let same : m ≡ n = cc in subst P same h

  pub every_check : (t : Bool) (n : ℕ) (later : Outcome Message) → (t ≡ false → Every later) → Every (refuse_if t n later)
  every_check true n later h m e = absurd (not_accepted n m e)
  every_check false n later h m e = h refl m e

  every_cond : (t : Bool) (a b : Outcome Message) → (t ≡ true → Every a) → Every b → Every (cond t a b)
  every_cond true a b h k = h refl
  every_cond false a b h k = k

  pub every_mapped : {X : Type 0} (f : X → Message) (o : Outcome X) → ((x : X) → o ≡ accepted x → P (f x)) → Every (on_accepted f o)
  every_mapped f (refused n) h m e = absurd (not_accepted n m e)
  every_mapped f (accepted x) h m e = every_value (f x) (h x refl) m e

  -- type by type
  pub every_type : (kind : ℕ) (d : List ℕ) → ((f : Fixed) → fixed_frame f ≡ record { kind = kind; bytes = [] } → Every (read_plain f d)) → (kind ≡ 0x20 → Every (read_login d))
      → (kind ≡ 0x15 → Every (read_zone_request d)) → (kind ≡ zone_status_type → Every (read_zone_status d)) → (kind ≡ events_type → Every (read_events d))
      → (kind ≡ message_status_type → Every (read_message_status d)) → (kind ≡ 0x0E → Every (on_accepted (λ e. fixed (F.LogEntry e)) (read_log d)))
      → (kind ≡ 0x0F → Every (on_accepted (λ c. fixed (F.Command c)) (read_command d)))
      → Every (message_of kind d)
  unfolding message_of with_data
  every_type kind d plain login request zone event text log command =
      every_cond (eqb kind 0x05) _ _ (λ e. plain F.Acknowledge (blank 0x05 e))
      (every_cond (eqb kind 0x06) _ _ (λ e. plain F.NegativeAcknowledge (blank 0x06 e))
      (every_cond (eqb kind 0x0D) _ _ (λ e. plain F.UploadEventLog (blank 0x0D e))
      (every_cond (eqb kind 0x11) _ _ (λ e. plain F.RequestSystemInformation (blank 0x11 e))
      (every_cond (eqb kind 0x13) _ _ (λ e. plain F.RequestSystemStatus (blank 0x13 e))
      (every_cond (eqb kind 0x21) _ _ (λ e. plain F.Logout (blank 0x21 e))
      (every_cond (eqb kind 0x22) _ _ (λ e. plain F.RequestSystemEvents (blank 0x22 e))
      (every_cond (eqb kind 0x20) _ _ (λ e. login (eqb-true kind 0x20 e))
      (every_cond (eqb kind 0x15) _ _ (λ e. request (eqb-true kind 0x15 e))
      (every_cond (eqb kind zone_status_type) _ _ (λ e. zone (eqb-true kind zone_status_type e))
      (every_cond (eqb kind events_type) _ _ (λ e. event (eqb-true kind events_type e))
      (every_cond (eqb kind message_status_type) _ _ (λ e. text (eqb-true kind message_status_type e))
      (every_cond (eqb kind 0x0E) _ _ (λ e. log (eqb-true kind 0x0E e))
      (every_cond (eqb kind 0x0F) _ _ (λ e. command (eqb-true kind 0x0F e))
      (λ m e. absurd (not_accepted 6 m e)))))))))))))))
    where
      blank : (k : ℕ) → eqb kind k ≡ true → ◌≡◌ {A = Frame} (record { kind = k; bytes = [] }) (record { kind = kind; bytes = [] })
      blank k e = ap {B = Frame} (λ x. record { kind = x; bytes = [] }) (sym (eqb-true kind k e))

-- ---- each type's reader: what holds of its message

module _ (P : Message → Type 0) where
  pub every_plain : (f : Fixed) (d : List ℕ) → (length d ≡ 0 → P (fixed f)) → Every P (read_plain f d)
  unfolding read_plain
  every_plain f d h =
      every_check P (not (eqb (length d) 0)) 7 _ (λ e. every_value P _ (h (eqb-true (length d) 0 (not-false (eqb (length d) 0) e))))

  pub every_login : (d : List ℕ) → (length d ≡ 4 → P (fixed (F.Login (get_or d 0 0) (get_or d 1 0) (get_or d 2 0) (get_or d 3 0)))) → Every P (read_login d)
  unfolding read_login
  every_login d h =
      every_check P (not (eqb (length d) 4)) 7 _ (λ e.
      every_check P (not (digits_listed (get_or d 0 0) (get_or d 1 0) (get_or d 2 0) (get_or d 3 0))) 8 _ (λ _.
      every_value P _ (h (eqb-true (length d) 4 (not-false (eqb (length d) 4) e)))))

  pub every_request : (d : List ℕ) → (length d ≡ 2 → P (fixed (F.ZoneRequest (get_or d 0 0) (get_or d 1 0)))) → Every P (read_zone_request d)
  unfolding read_zone_request
  every_request d h =
      every_check P (not (eqb (length d) 2)) 7 _ (λ e.
      every_check P (not (order_listed (get_or d 0 0) (get_or d 1 0))) 8 _ (λ _.
      every_value P _ (h (eqb-true (length d) 2 (not-false (eqb (length d) 2) e)))))

  pub every-zones : (d : List ℕ) → (length d % 2 ≡ 0 → zones_listed d ≡ true → P (zone_status (zones d))) → Every P (read_zone_status d)
  unfolding read_zone_status
  every-zones d h =
      every_check P (not (eqb (length d % 2) 0)) 7 _ (λ e.
      every_check P (eqb (length d) 0) 7 _ (λ _.
      every_check P (ltb 64 (length d)) 7 _ (λ _.
      every_check P (not (zones_listed d)) 8 _ (λ l.
      every_value P _ (h (eqb-true (length d % 2) 0 (not-false (eqb (length d % 2) 0) e)) (not-false (zones_listed d) l))))))

  pub every-events : (d : List ℕ) → (length d % 2 ≡ 0 → P (events (words d))) → Every P (read_events d)
  unfolding read_events
  every-events d h =
      every_check P (not (eqb (length d % 2) 0)) 7 _ (λ e.
      every_check P (ltb 64 (length d)) 7 _ (λ _.
      every_value P _ (h (eqb-true (length d % 2) 0 (not-false (eqb (length d % 2) 0) e)))))

  pub every-texts : (d : List ℕ) → (status_length (length d) ≡ true → get_or d 0 0 ≡ 0 → P (message_status (texts (drop 1 d)))) → Every P (read_message_status d)
  unfolding read_message_status
  every-texts d h =
      every_check P (not (status_length (length d))) 7 _ (λ l.
      every_check P (not (eqb (get_or d 0 0) 0)) 8 _ (λ z.
      every_value P _ (h (not-false (status_length (length d)) l) (eqb-true (get_or d 0 0) 0 (not-false (eqb (get_or d 0 0) 0) z)))))

  pub every_log : (d : List ℕ) → ((e : LogEntry) → read_log d ≡ accepted e → P (fixed (F.LogEntry e))) → Every P (on_accepted (λ e. fixed (F.LogEntry e)) (read_log d))
  every_log d h = every_mapped P (λ e. fixed (F.LogEntry e)) (read_log d) h

  pub every_command : (d : List ℕ) → ((c : Command) → read_command d ≡ accepted c → P (fixed (F.Command c))) → Every P (on_accepted (λ c. fixed (F.Command c)) (read_command d))
  every_command d h = every_mapped P (λ c. fixed (F.Command c)) (read_command d) h
