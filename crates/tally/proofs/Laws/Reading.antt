-- A meter reply: its reading by what the host's reader says of it, what it is refused with, and that the bytes of a meter reply carry a word and
-- no others do. Assumes nothing.
use mathlib.Core.Path.{◌≡◌, refl, sym, ap, ◌∙◌}
use mathlib.Core.Bool.{Bool, true, false, not}
use mathlib.Core.List.{List, [], ◌∷◌}
use mathlib.Core.Logic.{◌⊎◌, inl, inr}
use Prim.Native.Nat.{ℕ, ◌≤◌}
use native.Mathlib.Omega.{arith}
use lib.Dec.{eqb, lit≤}
use lib.ListN.{length, get_or}
use borrow.Author.Tests.{eqb-true, eq-eqb, ne_eqb}
use Rattle.answer.specs.Answer.{Outcome, refused, accepted, refuse_if, and_then}
use Rattle.answer.proofs.Laws.AtMost.{refused_at_most}
use Rattle.answer.proofs.Laws.Test.{same, holds, fails, not_accepted, passed_not, then_accepted}
use Rattle.omnistat.specs.declared.frame.End.TheVariants.{Host}
use Rattle.omnistat.specs.Register.{run_allowed}
use Rattle.omnistat.specs.Frame.{total}
use Rattle.omnistat.specs.Message.{numbered, acknowledge, negative, data_from, group}
use Rattle.omnistat.specs.Omnistat.{Message, counted, text, Addressed, addressed, read}
use Rattle.omnistat.proofs.Laws.Data.{data_bytes, data_bytes_lem, data_read}
use Rattle.omnistat.proofs.Laws.Refusals.{read_refusals}
use Rattle.tally.specs.Cost.{cost_register, word_of}
use Rattle.tally.specs.Reading.{word_in, word_from, reading, meter_reply, Carries}

-- the reading, by what the host's reader says
pub reading_when : (reply : List ℕ) (o : Outcome (Addressed (Message Host))) → read Host reply ≡ o
    → reading reply ≡ and_then o (λ a. word_from a.message)
unfolding reading
reading_when reply o e = ap (λ (x : Outcome (Addressed (Message Host))). and_then x (λ a. word_from a.message)) e

same_number : (m n : ℕ) → ◌≡◌ {A = Outcome ℕ} (refused m) (refused n) → n ≡ m
same_number m n e = cc

-- a message without a word is 8
data_refused : (start : ℕ) (values : List ℕ) (n : ℕ) → word_in start values ≡ refused n → n ≡ 8
data_refused start [] n e = same_number 8 n e
data_refused start (high ∷ []) n e = same_number 8 n e
data_refused start (high ∷ low ∷ []) n e = by_test (not (eqb start cost_register)) e
  where
    by_test : (t : Bool) → refuse_if t 8 (accepted (word_of high low)) ≡ refused n → n ≡ 8
    by_test true e = same_number 8 n e
    by_test false e = absurd (not_accepted n (word_of high low) (sym e))
data_refused start (high ∷ low ∷ b ∷ values) n e = same_number 8 n e

message_refused : (m : Message Host) (n : ℕ) → word_from m ≡ refused n → n ≡ 8
message_refused (counted (data_from start values)) n e = data_refused start values n e
message_refused (counted acknowledge) n e = same_number 8 n e
message_refused (counted negative) n e = same_number 8 n e
message_refused (counted (group g values)) n e = same_number 8 n e
message_refused (text t) n e = same_number 8 n e

-- a reading is refused with what the reader refuses with, no number above 8; or with 8 where the reader accepts
pub reading-refused : (reply : List ℕ) (n : ℕ) → reading reply ≡ refused n
    → ((read Host reply ≡ refused n) × (n ≤ 8)) ⊎ ((a : Addressed (Message Host)) × (read Host reply ≡ accepted a) × (n ≡ 8))
reading-refused reply n e = by_reader (read Host reply) refl
  where
    by_reader : (o : Outcome (Addressed (Message Host))) → read Host reply ≡ o
        → ((read Host reply ≡ refused n) × (n ≤ 8)) ⊎ ((a : Addressed (Message Host)) × (read Host reply ≡ accepted a) × (n ≡ 8))
    by_reader (refused m) r =
        let s = r ∙ ap refused (sym (same_number m n (sym (reading_when reply (refused m) r) ∙ e))) in
        inl (s, refused_at_most 8 (read Host reply) n (read_refusals Host (numbered Host) reply) s)
    by_reader (accepted a) r = inr (a, r, message_refused a.message n (sym (reading_when reply (accepted a) r) ∙ e))

-- the word of data: another start or another count has none
pub other_count : (start : ℕ) (values : List ℕ) → (length values ≡ 2 → ⊥) → word_in start values ≡ refused 8
other_count start [] h = refl
other_count start (high ∷ []) h = refl
other_count start (high ∷ low ∷ []) h = absurd (h refl)
other_count start (high ∷ low ∷ b ∷ values) h = refl

pub other_start : (start : ℕ) (values : List ℕ) → (start ≡ 170 → ⊥) → word_in start values ≡ refused 8
other_start start [] h = refl
other_start start (high ∷ []) h = refl
other_start start (high ∷ low ∷ []) h = holds 8 (accepted (word_of high low)) (ap not (ne_eqb start 170 h))
other_start start (high ∷ low ∷ b ∷ values) h = refl

pub two_registers : (start : ℕ) (values : List ℕ) → start ≡ 170 → length values ≡ 2 → word_in start values ≡ accepted (word_of (get_or values 0 0) (get_or values 1 0))
two_registers start [] s h = let z : ◌≡◌ {A = ℕ} 0 2 = h in absurd (omega arith)
two_registers start (high ∷ []) s h = let z : ◌≡◌ {A = ℕ} 1 2 = h in absurd (omega arith)
two_registers start (high ∷ low ∷ []) s h = fails 8 (accepted (word_of high low)) (ap not (eq-eqb start 170 s))
two_registers start (high ∷ low ∷ b ∷ values) s h = absurd (omega (arith, h))

-- what carries a word has the bytes of a meter reply
carried_by : (reply : List ℕ) (word number : ℕ) (m : Message Host) → read Host reply ≡ accepted (addressed number m) → word_from m ≡ accepted word
    → Carries reply word
carried_by reply word number (counted (data_from start [])) r e = absurd (not_accepted 8 word e)
carried_by reply word number (counted (data_from start (high ∷ []))) r e = absurd (not_accepted 8 word e)
carried_by reply word number (counted (data_from start (high ∷ low ∷ []))) r e =
    let p = passed_not (eqb start cost_register) 8 (accepted (word_of high low)) word e in
    let w = data_bytes_lem number start (high ∷ low ∷ []) reply r in
    record {
      number = number;
      high = high;
      low = low;
      of_a_thermostat = w.0;
      its_bytes = w.1 ∙ ap (λ (n : ℕ). data_bytes number n (high ∷ low ∷ [])) (eqb-true start cost_register p.0);
      its_word = sym (same p.1);
    }
carried_by reply word number (counted (data_from start (high ∷ low ∷ b ∷ values))) r e = absurd (not_accepted 8 word e)
carried_by reply word number (counted acknowledge) r e = absurd (not_accepted 8 word e)
carried_by reply word number (counted negative) r e = absurd (not_accepted 8 word e)
carried_by reply word number (counted (group g values)) r e = absurd (not_accepted 8 word e)
carried_by reply word number (text t) r e = absurd (not_accepted 8 word e)

pub carried : (reply : List ℕ) (word : ℕ) → reading reply ≡ accepted word → Carries reply word
unfolding reading
carried reply word e =
    let p = then_accepted (read Host reply) (λ a. word_from a.message) word e in
    carried_by reply word p.0.address p.0.message p.1 p.2

-- the bytes of a meter reply carry their word, from every thermostat
pub meter_reply-read : (number high low : ℕ) → 1 ≤ number → number ≤ 127 → reading (meter_reply number high low) ≡ accepted (word_of high low)
unfolding run_allowed
meter_reply-read number high low l m =
    reading_when (meter_reply number high low) _ (data_read number cost_register (high ∷ low ∷ []) l m (lit≤ tt) (lit≤ tt) refl)

pub carries_read : (reply : List ℕ) (word : ℕ) → Carries reply word → reading reply ≡ accepted word
carries_read reply word c =
    ap reading c.its_bytes
    ∙ meter_reply-read c.number c.high c.low c.of_a_thermostat.0 c.of_a_thermostat.1
    ∙ ap accepted (sym c.its_word)

-- document 004's word 34567 as thermostat 1 sends it
pub reply_of_34567 : reading (0x81 ∷ 0x32 ∷ 0xAA ∷ 0x87 ∷ 0x07 ∷ 0xEB ∷ []) ≡ accepted 34567
unfolding total
reply_of_34567 = meter_reply-read 1 0x87 0x07 (lit≤ tt) (lit≤ tt)
