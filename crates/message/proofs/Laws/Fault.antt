-- The number of a message's refusal: what it is where the message is accepted, and what where it is refused. Assumes nothing.
use mathlib.Core.Path.{◌≡◌, refl, sym, ap, ◌∙◌}
use mathlib.Core.Bool.{Bool, true, false, cond, not, ◌||◌}
use mathlib.Core.List.{List}
use Prim.Native.Nat.{ℕ, ◌+◌, ◌*◌, ◌%◌, ◌≤◌}
use native.Mathlib.Omega.{arith}
use lib.Dec.{eqb, ltb}
use lib.ListN.{length, get_or, drop, length-drop}
use borrow.Author.Tests.{eqb-true, eqb-false}
use Rattle.answer.specs.Answer.{Outcome, refused, accepted, refuse_if, and_then, on_accepted}
use Rattle.link.specs.Frame.{Frame}
use Rattle.message.specs.Command.{command_listed, command_of, checked_command, read_command}
use Rattle.message.specs.Lists.{zone_status_type, events_type, message_status_type, zone_of, word_of, zones, zones_listed, words, texts}
use Rattle.message.specs.Log.{log_listed, log_of, read_log}
use Rattle.message.specs.Message.{Message, fixed, zone_status, events, message_status, digits_listed, order_listed, status_length, read_plain, read_login, read_zone_request, read_zone_status, read_events, read_message_status, with_data, message_of, counted}
use Rattle.message.specs.Parts.{fault_of, fault_number, texts_in, items_in}
use Rattle.message.specs.Typed.{fixed_frame, count_of}
use Rattle.message.specs.declared.message.Fixed.{Fixed}
use Rattle.message.specs.declared.message.Fixed.TheVariants as F
use Rattle.message.proofs.Laws.Accepts.{every_type, every_plain, every_login, every_request, every-zones, every-events, every-texts, every_log, every_command}
use Rattle.message.proofs.Laws.Checked.{never}
use Rattle.message.proofs.Laws.Lists.{pairs-length, texts-length}

-- ---- the refusals behind the frame are 6, 7 and 8

abbrev Faults : {A : Type 0} → Outcome A → Type 0
Faults o = (n : ℕ) → o ≡ refused n → (6 ≤ n) × (n ≤ 8)

module _ {A : Type 0} where
  refuses : (m : ℕ) → 6 ≤ m → m ≤ 8 → Faults {A = A} (refused m)
  refuses m low high n e = let same : m ≡ n = cc in (omega arith, omega arith)

  accepts : (a : A) → Faults (accepted a)
  accepts a n e = let z : ◌≡◌ {A = ℕ} 0 1 = cc in let nothing : ⊥ = omega arith in absurd nothing

  checks : (t : Bool) (m : ℕ) (later : Outcome A) → 6 ≤ m → m ≤ 8 → Faults later → Faults (refuse_if t m later)
  checks true m later low high h = refuses m low high
  checks false m later low high h = h

  either : (t : Bool) (a b : Outcome A) → Faults a → Faults b → Faults (cond t a b)
  either true a b h k = h
  either false a b h k = k

makes : {A B : Type 0} (f : A → B) (o : Outcome A) → Faults o → Faults (on_accepted f o)
makes f (refused m) h n e = let same : m ≡ n = cc in h n (ap refused same)
makes f (accepted a) h n e = accepts (f a) n e

-- a check of the length, and behind it one of the fields
sized : {A : Type 0} (t u : Bool) (a : A) → Faults (refuse_if t 7 (refuse_if u 8 (accepted a)))
sized t u a = checks t 7 _ (omega arith) (omega arith) (checks u 8 _ (omega arith) (omega arith) (accepts a))

plain_faults : (f : Fixed) (d : List ℕ) → Faults (read_plain f d)
unfolding read_plain
plain_faults f d = checks (not (eqb (length d) 0)) 7 _ (omega arith) (omega arith) (accepts (fixed f))

zone_faults : (d : List ℕ) → Faults (read_zone_status d)
unfolding read_zone_status
zone_faults d =
    checks (not (eqb (length d % 2) 0)) 7 _ (omega arith) (omega arith)
    (checks (eqb (length d) 0) 7 _ (omega arith) (omega arith)
    (sized (ltb 64 (length d)) (not (zones_listed d)) (zone_status (zones d))))

event_faults : (d : List ℕ) → Faults (read_events d)
unfolding read_events
event_faults d =
    checks (not (eqb (length d % 2) 0)) 7 _ (omega arith) (omega arith)
    (checks (ltb 64 (length d)) 7 _ (omega arith) (omega arith) (accepts (events (words d))))

faults : (kind : ℕ) (d : List ℕ) → Faults (message_of kind d)
unfolding message_of with_data read_login read_zone_request read_message_status read_log read_command checked_command
faults kind d =
    either (eqb kind 0x05) _ _ (plain_faults F.Acknowledge d)
    (either (eqb kind 0x06) _ _ (plain_faults F.NegativeAcknowledge d)
    (either (eqb kind 0x0D) _ _ (plain_faults F.UploadEventLog d)
    (either (eqb kind 0x11) _ _ (plain_faults F.RequestSystemInformation d)
    (either (eqb kind 0x13) _ _ (plain_faults F.RequestSystemStatus d)
    (either (eqb kind 0x21) _ _ (plain_faults F.Logout d)
    (either (eqb kind 0x22) _ _ (plain_faults F.RequestSystemEvents d)
    (either (eqb kind 0x20) _ _ (sized (not (eqb (length d) 4)) (not (digits_listed (get_or d 0 0) (get_or d 1 0) (get_or d 2 0) (get_or d 3 0))) (fixed (F.Login (get_or d 0 0) (get_or d 1 0) (get_or d 2 0) (get_or d 3 0))))
    (either (eqb kind 0x15) _ _ (sized (not (eqb (length d) 2)) (not (order_listed (get_or d 0 0) (get_or d 1 0))) (fixed (F.ZoneRequest (get_or d 0 0) (get_or d 1 0))))
    (either (eqb kind zone_status_type) _ _ (zone_faults d)
    (either (eqb kind events_type) _ _ (event_faults d)
    (either (eqb kind message_status_type) _ _ (sized (not (status_length (length d))) (not (eqb (get_or d 0 0) 0)) (message_status (texts (drop 1 d))))
    (either (eqb kind 0x0E) _ _ (makes (λ e. fixed (F.LogEntry e)) (read_log d) (sized (not (eqb (length d) 10)) (not (log_listed (log_of d))) (log_of d)))
    (either (eqb kind 0x0F) _ _ (makes (λ c. fixed (F.Command c)) (read_command d) (sized (not (eqb (length d) 4)) (not (command_listed (get_or d 0 0) (get_or d 1 0) (word_of (get_or d 2 0) (get_or d 3 0)))) (command_of (get_or d 0 0) (get_or d 1 0) (word_of (get_or d 2 0) (get_or d 3 0)))))
    (refuses 6 (omega arith) (omega arith)))))))))))))))

-- ---- by the number

number_same : (n : ℕ) → 6 ≤ n → n ≤ 8 → fault_number n ≡ n
number_same n low high = by (eqb n 6) (eqb n 7) refl refl
  where
    by : (t u : Bool) → eqb n 6 ≡ t → eqb n 7 ≡ u → cond t 6 (cond u 7 8) ≡ n
    by true u e f = sym (eqb-true n 6 e)
    by false true e f = sym (eqb-true n 7 f)
    by false false e f = omega (arith, eqb-false n 6 e, eqb-false n 7 f)

module _ (kind : ℕ) (d : List ℕ) (fault : ℕ) (is : fault ≡ fault_of (message_of kind d)) where
  pub faultless : fault ≡ 0 → (m : Message) × (message_of kind d ≡ accepted m)
  faultless none = by (message_of kind d) refl is
    where
      by : (o : Outcome Message) → message_of kind d ≡ o → fault ≡ fault_of o → (m : Message) × (o ≡ accepted m)
      by (refused n) q e = let w = faults kind d n q in let nothing : ⊥ = omega arith in absurd nothing
      by (accepted m) q e = (m, refl)

  pub faulty : (fault ≡ 0 → ⊥) → (message_of kind d ≡ refused fault) × (fault_number fault ≡ fault)
  faulty some = by (message_of kind d) refl is
    where
      by : (o : Outcome Message) → message_of kind d ≡ o → fault ≡ fault_of o → (o ≡ refused fault) × (fault_number fault ≡ fault)
      by (refused n) q e =
          let w = faults kind d n q in
          (ap refused (sym e), number_same fault (omega arith) (omega arith))
      by (accepted m) q e = absurd (some e)

-- ---- how many items a message has, by its type and its count of data bytes

fixed_none : (f : Fixed) (n : ℕ) → items_in (fixed_frame f).kind n ≡ 0
fixed_none F.Acknowledge n = refl
fixed_none F.NegativeAcknowledge n = refl
fixed_none F.UploadEventLog n = refl
fixed_none F.RequestSystemInformation n = refl
fixed_none F.RequestSystemStatus n = refl
fixed_none F.Logout n = refl
fixed_none F.RequestSystemEvents n = refl
fixed_none (F.Login a b c e) n = refl
fixed_none (F.ZoneRequest a b) n = refl
fixed_none (F.LogEntry e) n = refl
fixed_none (F.Command c) n = refl

pub texts_in_lem : (d : List ℕ) → status_length (length d) ≡ true → length (texts (drop 1 d)) ≡ texts_in (length d)
unfolding status_length
texts_in_lem d listed = by (eqb (length d) 5) (eqb (length d) 17) (eqb (length d) 33) refl refl refl listed
  where
    size : (n k : ℕ) → eqb (length d) n ≡ true → 4 * n ≡ k + 4 → length (texts (drop 1 d)) ≡ k
    size n k e four = omega (arith, eqb-true (length d) n e, texts-length (drop 1 d), length-drop 1 d)

    by : (t u v : Bool) → eqb (length d) 5 ≡ t → eqb (length d) 17 ≡ u → eqb (length d) 33 ≡ v → ((t || u) || v) ≡ true
        → length (texts (drop 1 d)) ≡ cond t 16 (cond u 64 128)
    by true u v e f g h = size 5 16 e refl
    by false true v e f g h = size 17 64 f refl
    by false false true e f g h = size 33 128 g refl
    by false false false e f g h = never h

abbrev Right : ℕ → List ℕ → Message → Type 0
Right kind d m = count_of (counted m) ≡ items_in kind (length d)

pub count_of_lem : (kind : ℕ) (d : List ℕ) (m : Message) → message_of kind d ≡ accepted m → count_of (counted m) ≡ items_in kind (length d)
count_of_lem kind d =
    every_type (Right kind d) kind d
    (λ f is. every_plain (Right kind d) f d (λ _. sym (ap (λ (x : Frame). items_in x.kind (length d)) (sym is) ∙ fixed_none f (length d))))
    (λ is. every_login (Right kind d) d (λ _. at 0x20 is))
    (λ is. every_request (Right kind d) d (λ _. at 0x15 is))
    (λ is. every-zones (Right kind d) d (λ _ _. pairs-length zone_of d ∙ at zone_status_type is))
    (λ is. every-events (Right kind d) d (λ _. pairs-length word_of d ∙ at events_type is))
    (λ is. every-texts (Right kind d) d (λ listed _. texts_in_lem d listed ∙ at message_status_type is))
    (λ is. every_log (Right kind d) d (λ _ _. at 0x0E is))
    (λ is. every_command (Right kind d) d (λ _ _. at 0x0F is))
  where
    at : (k : ℕ) → kind ≡ k → items_in k (length d) ≡ items_in kind (length d)
    at k is = ap (λ (x : ℕ). items_in x (length d)) (sym is)

-- ---- what is answered by the number

module _ (kind : ℕ) (d : List ℕ) (fault : ℕ) (is : fault ≡ fault_of (message_of kind d)) where
  pub then_faulty : {A : Type 0} (g : Message → Outcome A) (n : ℕ) → (fault ≡ 0 → ⊥) → n ≡ fault_number fault → refused n ≡ and_then (message_of kind d) g
  then_faulty g n some e =
      let f = faulty kind d fault is some in
      ap refused (e ∙ f.1) ∙ sym (ap (λ (o : Outcome Message). and_then o g) f.0)
