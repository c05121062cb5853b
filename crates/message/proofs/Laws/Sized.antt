-- A message that is accepted fits a frame, so the writer refuses what the rules for messages refuse, and nothing else. Assumes nothing.
use mathlib.Core.Path.{◌≡◌, refl, sym, ap, ◌∙◌}
use mathlib.Core.Bool.{Bool, true, false, not, ◌||◌}
use mathlib.Core.List.{List}
use Prim.Native.Nat.{ℕ, ◌+◌, ◌%◌, ◌≤◌}
use native.Mathlib.Omega.{arith}
use lib.Dec.{eqb, ltb}
use lib.ListN.{length, get_or}
use borrow.Author.Tests.{eqb-true, eq-eqb, ltb-false}
use Rattle.answer.specs.Answer.{Outcome, refused, accepted, refuse_if, and_then, on_accepted}
use Rattle.answer.proofs.Laws.Test.{on_accepted_lem, then_accepted, passed_not}
use Rattle.link.specs.Frame.{write_frame}
use Rattle.link.proofs.Laws.RoundTrip.{size_written}
use Rattle.message.specs.Command.{read_command}
use Rattle.message.specs.Lists.{zones_listed}
use Rattle.message.specs.Log.{read_log}
use Rattle.message.specs.Message.{Message, fixed, digits_listed, status_length, read_login, read_zone_status, read_events, with_data, message_of, write_message}
use Rattle.message.specs.Parts.{nothing, fault_of, fault_number}
use Rattle.message.specs.declared.message.Fixed.TheVariants as F
use Rattle.message.proofs.Laws.Accepts.{Every, every_check, every_value, every_type, every_plain, every_login, every_request, every-texts, every_log, every_command}
use Rattle.message.proofs.Laws.Checked.{never, was_accepted, was_refused}
use Rattle.message.proofs.Laws.Fault.{faultless, then_faulty}

module _ (d : List ℕ) where
  abbrev Few : Message → Type 0
  Few m = length d ≤ 64

  zones_few : Every Few (read_zone_status d)
  unfolding read_zone_status
  zones_few =
      every_check Few (not (eqb (length d % 2) 0)) 7 _ (λ _.
      every_check Few (eqb (length d) 0) 7 _ (λ _.
      every_check Few (ltb 64 (length d)) 7 _ (λ small.
      every_check Few (not (zones_listed d)) 8 _ (λ _. every_value Few _ (ltb-false 64 (length d) small)))))

  events_few : Every Few (read_events d)
  unfolding read_events
  events_few =
      every_check Few (not (eqb (length d % 2) 0)) 7 _ (λ _.
      every_check Few (ltb 64 (length d)) 7 _ (λ small. every_value Few _ (ltb-false 64 (length d) small)))

  texts_few : status_length (length d) ≡ true → length d ≤ 64
  unfolding status_length
  texts_few listed = by (eqb (length d) 5) (eqb (length d) 17) (eqb (length d) 33) refl refl refl listed
    where
      by : (t u v : Bool) → eqb (length d) 5 ≡ t → eqb (length d) 17 ≡ u → eqb (length d) 33 ≡ v → ((t || u) || v) ≡ true → length d ≤ 64
      by true u v e f g h = omega (arith, eqb-true (length d) 5 e)
      by false true v e f g h = omega (arith, eqb-true (length d) 17 f)
      by false false true e f g h = omega (arith, eqb-true (length d) 33 g)
      by false false false e f g h = never h

  sized_few : {A : Type 0} (size : ℕ) (later : Outcome A) (a : A) → size ≤ 64 → refuse_if (not (eqb (length d) size)) 7 later ≡ accepted a → length d ≤ 64
  sized_few size later a small e = omega (arith, eqb-true (length d) size (passed_not (eqb (length d) size) 7 later a e).0)

  -- every type's data bytes fit a frame
  pub few : (kind : ℕ) (m : Message) → message_of kind d ≡ accepted m → length d ≤ 64
  unfolding read_log read_command
  few kind =
      every_type Few kind d
      (λ f is. every_plain Few f d (λ none. omega arith))
      (λ is. every_login Few d (λ four. omega arith))
      (λ is. every_request Few d (λ two. omega arith))
      (λ is. zones_few)
      (λ is. events_few)
      (λ is. every-texts Few d (λ listed _. texts_few listed))
      (λ is. every_log Few d (λ e r. sized_few 10 _ e (omega arith) r))
      (λ is. every_command Few d (λ c r. sized_few 4 _ c (omega arith) r))

module _ (kind : ℕ) (d : List ℕ) where
  -- what is accepted is written, and 5 bytes besides
  pub written_size : (m : Message) → message_of kind d ≡ accepted m → on_accepted length (write_message kind d) ≡ accepted (length d + 5)
  unfolding write_message
  written_size m e =
      ap (λ (o : Outcome Message). on_accepted length (and_then o (λ m. write_frame kind d))) e ∙ size_written kind d (few d kind m e)

  pub is_written : (m : Message) → message_of kind d ≡ accepted m → (s : List ℕ) × (write_message kind d ≡ accepted s)
  is_written m e = let w = on_accepted_lem length (write_message kind d) (length d + 5) (written_size m e) in (w.0, w.1)

  -- behind the check
  pub size_unchecked : (n : ℕ) → refused n ≡ on_accepted nothing (message_of kind d) → refused n ≡ on_accepted length (write_message kind d)
  unfolding write_message
  size_unchecked n e =
      sym (ap (λ (o : Outcome Message). on_accepted length (and_then o (λ m. write_frame kind d))) (was_refused nothing (message_of kind d) n e))

  module _ (e : accepted tt ≡ on_accepted nothing (message_of kind d)) where
    pub size_checked : accepted (length d + 5) ≡ on_accepted length (write_message kind d)
    size_checked = let m = was_accepted nothing (message_of kind d) tt e in sym (written_size m.0 m.1)

    pub few_checked : length d ≤ 64
    few_checked = let m = was_accepted nothing (message_of kind d) tt e in few d kind m.0 m.1

  -- by the number of the fault
  module _ (fault : ℕ) (is : fault ≡ fault_of (message_of kind d)) where
    pub size_faulty : (n : ℕ) → (fault ≡ 0 → ⊥) → n ≡ fault_number fault → refused n ≡ on_accepted length (write_message kind d)
    unfolding write_message
    size_faulty n some e = ap (on_accepted length) (then_faulty kind d fault is (λ m. write_frame kind d) n some e)

    pub size_faultless : fault ≡ 0 → accepted (length d + 5) ≡ on_accepted length (write_message kind d)
    size_faultless none = let m = faultless kind d fault is none in sym (written_size m.0 m.1)

    pub few_faultless : fault ≡ 0 → length d ≤ 64
    few_faultless none = let m = faultless kind d fault is none in few d kind m.0 m.1

-- four digits are written as a login
pub login_written : (d : List ℕ) → length d ≡ 4 → digits_listed (get_or d 0 0) (get_or d 1 0) (get_or d 2 0) (get_or d 3 0) ≡ true
    → (s : List ℕ) × (write_message 0x20 d ≡ accepted s)
unfolding message_of with_data read_login
login_written d four digits =
    is_written 0x20 d (fixed (F.Login (get_or d 0 0) (get_or d 1 0) (get_or d 2 0) (get_or d 3 0)))
    (ap (λ (t : Bool). refuse_if (not t) 7 (refuse_if (not (digits_listed (get_or d 0 0) (get_or d 1 0) (get_or d 2 0) (get_or d 3 0))) 8 (accepted (fixed (F.Login (get_or d 0 0) (get_or d 1 0) (get_or d 2 0) (get_or d 3 0)))))) (eq-eqb (length d) 4 four)
    ∙ ap (λ (t : Bool). refuse_if (not t) 8 (accepted (fixed (F.Login (get_or d 0 0) (get_or d 1 0) (get_or d 2 0) (get_or d 3 0))))) digits)

-- and a login that is written has four
pub login_length : (d : List ℕ) (n : ℕ) → accepted n ≡ on_accepted length (write_message 0x20 d) → length d ≡ 4
unfolding write_message message_of with_data read_login
login_length d n e =
    let w = on_accepted_lem length (write_message 0x20 d) n (sym e) in
    let m = then_accepted (read_login d) (λ m. write_frame 0x20 d) w.0 w.1 in
    eqb-true (length d) 4 (passed_not (eqb (length d) 4) 7 _ m.0 m.1).0
