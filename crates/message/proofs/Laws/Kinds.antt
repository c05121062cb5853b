-- What the reader makes of a type and data bytes that it accepts. Assumes nothing.
use mathlib.Core.Path.{◌≡◌, refl, sym, ap, ◌∙◌}
use mathlib.Core.Bool.{Bool, true, false, cond, not, ◌||◌}
use mathlib.Core.List.{List}
use Prim.Native.Nat.{ℕ}
use lib.Dec.{eqb}
use lib.ListN.{length}
use borrow.Author.Tests.{eqb-true, ne_eqb}
use Rattle.answer.specs.Answer.{Outcome, refused, accepted, refuse_if, on_accepted}
use Rattle.answer.proofs.Laws.Test.{not_accepted, same}
use Rattle.message.specs.Command.{read_command}
use Rattle.message.specs.Lists.{zone_status_type, events_type, message_status_type}
use Rattle.message.specs.Log.{log_of}
use Rattle.message.specs.Message.{Message, fixed, read_plain, message_of, with_data, counted}
use Rattle.message.specs.Parts.{nothing, is_plain, items_in, Taken, command_in}
use Rattle.message.specs.declared.command.Command.{Command}
use Rattle.message.specs.declared.log.LogEntry.{LogEntry}
use Rattle.message.specs.declared.message.Fixed.{Fixed}
use Rattle.message.specs.declared.message.Fixed.TheVariants as F
use Rattle.message.specs.declared.message.Message.{Message as Counted}
use Rattle.message.specs.declared.message.Message.TheVariants as C
use Rattle.message.proofs.Laws.Accepts.{Every, every_log, every_command}
use Rattle.message.proofs.Laws.Checked.{never}
use Rattle.message.proofs.Laws.Item.{log_taken}
use Rattle.message.proofs.Laws.Packed.{command_taken, command_carried}

module _ (kind : ℕ) (d : List ℕ) (taken : Taken (message_of kind d)) where
  module _ (k : ℕ) (is : kind ≡ k) where
    at_type : message_of k d ≡ accepted taken.0
    at_type = ap (λ (x : ℕ). message_of x d) (sym is) ∙ taken.1

    -- what holds of every message of a type holds of it
    pub of_type : (P : Message → Type 0) → Every P (message_of k d) → P taken.0
    of_type P every = every taken.0 at_type

    -- so it is what every message of the type is
    pub made : (x : Counted) → Every (λ m. x ≡ counted m) (message_of k d) → accepted x ≡ on_accepted counted (message_of kind d)
    made x every = ap accepted (of_type (λ m. x ≡ counted m) every) ∙ sym (ap (on_accepted counted) taken.1)

  -- a log entry
  module _ (is : kind ≡ 0x0E) where
    pub log_length : length d ≡ 10
    log_length = (log_taken d taken.0 (at_type 0x0E is)).0

    pub log_made : (e : LogEntry) → e ≡ log_of d → accepted (C.Fixed (F.LogEntry e)) ≡ on_accepted counted (message_of kind d)
    unfolding message_of with_data
    log_made e r =
        let l = log_taken d taken.0 (at_type 0x0E is) in
        made 0x0E is (C.Fixed (F.LogEntry e))
        (every_log (λ m. C.Fixed (F.LogEntry e) ≡ counted m) d (λ x q. ap (λ (y : LogEntry). C.Fixed (F.LogEntry y)) (r ∙ same (sym l.1 ∙ q))))

  -- a command
  module _ (is : kind ≡ 0x0F) where
    pub command_length : length d ≡ 4
    command_length = (command_carried d taken.0 (at_type 0x0F is)).0

    pub command_made : (c : Command) → c ≡ command_in d → accepted (C.Fixed (F.Command c)) ≡ on_accepted counted (message_of kind d)
    unfolding message_of with_data
    command_made c r =
        made 0x0F is (C.Fixed (F.Command c))
        (every_command (λ m. C.Fixed (F.Command c) ≡ counted m) d (λ x q. ap (λ (y : Command). C.Fixed (F.Command y)) (r ∙ same (command_taken d x q).2)))

  -- the last type
  pub last_type : (kind ≡ 0x05 → ⊥) → (kind ≡ 0x06 → ⊥) → (kind ≡ 0x0D → ⊥) → (kind ≡ 0x11 → ⊥) → (kind ≡ 0x13 → ⊥) → (kind ≡ 0x21 → ⊥) → (kind ≡ 0x22 → ⊥)
      → (kind ≡ 0x20 → ⊥) → (kind ≡ 0x15 → ⊥) → (kind ≡ zone_status_type → ⊥) → (kind ≡ events_type → ⊥) → (kind ≡ message_status_type → ⊥) → (kind ≡ 0x0E → ⊥)
      → kind ≡ 0x0F
  unfolding message_of with_data
  last_type a b c e f g h i j k l m n =
      by (eqb kind 0x0F) refl
      (sym (simp (ne_eqb kind 0x05 a, ne_eqb kind 0x06 b, ne_eqb kind 0x0D c, ne_eqb kind 0x11 e, ne_eqb kind 0x13 f, ne_eqb kind 0x21 g, ne_eqb kind 0x22 h, ne_eqb kind 0x20 i, ne_eqb kind 0x15 j, ne_eqb kind zone_status_type k, ne_eqb kind events_type l, ne_eqb kind message_status_type m, ne_eqb kind 0x0E n) refl)
      ∙ taken.1)
    where
      by : (t : Bool) → eqb kind 0x0F ≡ t → cond t (on_accepted (λ c. fixed (F.Command c)) (read_command d)) (refused 6) ≡ accepted taken.0 → kind ≡ 0x0F
      by true q r = eqb-true kind 0x0F q
      by false q r = absurd (not_accepted 6 taken.0 r)

-- ---- the types without data

module _ (kind : ℕ) (d : List ℕ) where
  abbrev checked : Outcome Message → Outcome (Unit {0})
  checked = on_accepted nothing

  plain_alike : (f g : Fixed) → checked (read_plain f d) ≡ checked (read_plain g d)
  unfolding read_plain
  plain_alike f g = by (eqb (length d) 0)
    where
      by : (t : Bool) → checked (refuse_if (not t) 7 (accepted (fixed f))) ≡ checked (refuse_if (not t) 7 (accepted (fixed g)))
      by true = refl
      by false = refl

  pub plain_type : is_plain kind ≡ true → checked (read_plain F.Acknowledge d) ≡ checked (message_of kind d)
  unfolding message_of
  plain_type =
      by F.Acknowledge (eqb kind 0x05) _ _ _ _ _ _
    where
      by : (f : Fixed) (a b c e g h i : Bool) → ((((((a || b) || c) || e) || g) || h) || i) ≡ true
          → checked (read_plain f d)
          ≡ checked (cond a (read_plain F.Acknowledge d) (cond b (read_plain F.NegativeAcknowledge d) (cond c (read_plain F.UploadEventLog d)
          (cond e (read_plain F.RequestSystemInformation d) (cond g (read_plain F.RequestSystemStatus d) (cond h (read_plain F.Logout d)
          (cond i (read_plain F.RequestSystemEvents d) (with_data kind d))))))))
      by f true b c e g h i q = plain_alike f F.Acknowledge
      by f false true c e g h i q = plain_alike f F.NegativeAcknowledge
      by f false false true e g h i q = plain_alike f F.UploadEventLog
      by f false false false true g h i q = plain_alike f F.RequestSystemInformation
      by f false false false false true h i q = plain_alike f F.RequestSystemStatus
      by f false false false false false true i q = plain_alike f F.Logout
      by f false false false false false false true q = plain_alike f F.RequestSystemEvents
      by f false false false false false false false q = never q

  pub data_type : is_plain kind ≡ false → message_of kind d ≡ with_data kind d
  unfolding message_of
  data_type = by (eqb kind 0x05) _ _ _ _ _ _
    where
      by : (a b c e g h i : Bool) → ((((((a || b) || c) || e) || g) || h) || i) ≡ false
          → cond a (read_plain F.Acknowledge d) (cond b (read_plain F.NegativeAcknowledge d) (cond c (read_plain F.UploadEventLog d)
          (cond e (read_plain F.RequestSystemInformation d) (cond g (read_plain F.RequestSystemStatus d) (cond h (read_plain F.Logout d)
          (cond i (read_plain F.RequestSystemEvents d) (with_data kind d)))))))
          ≡ with_data kind d
      by true b c e g h i q = never (sym q)
      by false true c e g h i q = never (sym q)
      by false false true e g h i q = never (sym q)
      by false false false true g h i q = never (sym q)
      by false false false false true h i q = never (sym q)
      by false false false false false true i q = never (sym q)
      by false false false false false false true q = never (sym q)
      by false false false false false false false q = refl

  -- they have no items
  pub plain_none : (n : ℕ) → is_plain kind ≡ true → 0 ≡ items_in kind n
  plain_none n = by (eqb kind 0x05) (eqb kind 0x06) (eqb kind 0x0D) (eqb kind 0x11) (eqb kind 0x13) (eqb kind 0x21) (eqb kind 0x22) refl refl refl refl refl refl refl
    where
      none : (k : ℕ) → eqb kind k ≡ true → 0 ≡ items_in k n → 0 ≡ items_in kind n
      none k e h = h ∙ ap (λ (x : ℕ). items_in x n) (sym (eqb-true kind k e))

      by : (a b c e g h i : Bool) → eqb kind 0x05 ≡ a → eqb kind 0x06 ≡ b → eqb kind 0x0D ≡ c → eqb kind 0x11 ≡ e → eqb kind 0x13 ≡ g → eqb kind 0x21 ≡ h → eqb kind 0x22 ≡ i
          → ((((((a || b) || c) || e) || g) || h) || i) ≡ true → 0 ≡ items_in kind n
      by true b c e g h i p q r s t u v w = none 0x05 p refl
      by false true c e g h i p q r s t u v w = none 0x06 q refl
      by false false true e g h i p q r s t u v w = none 0x0D r refl
      by false false false true g h i p q r s t u v w = none 0x11 s refl
      by false false false false true h i p q r s t u v w = none 0x13 t refl
      by false false false false false true i p q r s t u v w = none 0x21 u refl
      by false false false false false false true p q r s t u v w = none 0x22 v refl
      by false false false false false false false p q r s t u v w = never w
