-- What is packed of a command, by its number and parameters. Assumes nothing.
use mathlib.Core.Path.{◌≡◌, refl, sym, subst, ◌∙◌}
use mathlib.Core.Bool.{Bool, true, false, cond, not}
use mathlib.Core.List.{List, [], ◌∷◌}
use Prim.Native.Nat.{ℕ, zero, suc, ◌+◌, ◌-◌, ◌/◌, ◌%◌, ◌<◌, ◌≤◌}
use native.Mathlib.Omega.{arith}
use lib.Dec.{eqb, ltb}
use lib.ListN.{length, get_or}
use borrow.Author.Tests.{eqb-true, ne_eqb, ltb-true, ltb-false}
use Rattle.answer.specs.Answer.{accepted, refuse_if}
use Rattle.answer.specs.Packed.{byte, word}
use Rattle.answer.proofs.Laws.Test.{passed_not, on_accepted_lem}
use Rattle.message.specs.Command.{duration_of, command_listed, command_of, checked_command, read_command}
use Rattle.message.specs.Fields.{duration_unit, duration_count, command_fields}
use Rattle.message.specs.Lists.{word_of}
use Rattle.message.specs.Message.{Message, fixed, message_of, with_data}
use Rattle.message.specs.Parts.{command_in}
use Rattle.message.specs.declared.message.Fixed.TheVariants as F
use Rattle.message.specs.declared.command.Command.{Command}
use Rattle.message.specs.declared.command.Duration.TheVariants.{None, Seconds, Minutes, Hours}
use Rattle.message.proofs.Laws.Encode.{command_cases}

-- the unit and the count of a duration, by its P1
pub unit_of_lem : (p : ℕ) → (p ≡ 0 → ⊥) → p < 256 → p / 100 + 1 ≡ duration_unit (duration_of p)
unit_of_lem p some h = by (ltb p 100) (ltb p 200) refl refl
  where
    by : (t u : Bool) → ltb p 100 ≡ t → ltb p 200 ≡ u
        → p / 100 + 1 ≡ duration_unit (cond (eqb p 0) None (cond t (Seconds p) (cond u (Minutes (p - 100)) (Hours (p - 200)))))
    by true u e f = simp (ne_eqb p 0 some) (omega (arith, ltb-true p 100 e))
    by false true e f = simp (ne_eqb p 0 some) (omega (arith, ltb-false p 100 e, ltb-true p 200 f))
    by false false e f = simp (ne_eqb p 0 some) (omega (arith, ltb-false p 100 e, ltb-false p 200 f))

pub count_of_duration : (p : ℕ) → p < 256 → p % 100 ≡ duration_count (duration_of p)
count_of_duration p h = by (eqb p 0) (ltb p 100) (ltb p 200) refl refl refl
  where
    by : (z t u : Bool) → eqb p 0 ≡ z → ltb p 100 ≡ t → ltb p 200 ≡ u
        → p % 100 ≡ duration_count (cond z None (cond t (Seconds p) (cond u (Minutes (p - 100)) (Hours (p - 200)))))
    by true t u d e f = omega (arith, eqb-true p 0 d)
    by false true u d e f = omega (arith, ltb-true p 100 e)
    by false false true d e f = omega (arith, ltb-false p 100 e, ltb-true p 200 f)
    by false false false d e f = omega (arith, ltb-false p 100 e, ltb-false p 200 f)

module _ (p1 p2 : ℕ) where
  -- commands 0 and 1 carry a duration
  pub timed-fields : (number : ℕ) → number < 2
      → command_fields (command_of number p1 p2)
      ≡ byte number ∷ byte (duration_unit (duration_of p1)) ∷ byte (duration_count (duration_of p1)) ∷ word p2 ∷ []
  unfolding command_of
  timed-fields zero h = refl
  timed-fields (suc zero) h = refl
  timed-fields (suc (suc n)) h = let z : ⊥ = omega arith in absurd z

  -- the others have P1 as their count
  abbrev Plain : ℕ → Type 0
  Plain number = 2 ≤ number → command_fields (command_of number p1 p2) ≡ byte number ∷ byte 0 ∷ byte p1 ∷ word p2 ∷ []

  zero_p1 : (number : ℕ) → command_fields (command_of number 0 p2) ≡ byte number ∷ byte 0 ∷ byte 0 ∷ word p2 ∷ [] → p1 ≡ 0 → Plain number
  zero_p1 number h e l =
      subst (λ (p : ℕ). command_fields (command_of number p p2) ≡ byte number ∷ byte 0 ∷ byte p ∷ word p2 ∷ []) (sym e) h

  pub plain_fields : (number : ℕ) → command_listed number p1 p2 ≡ true → Plain number
  unfolding command_of
  plain_fields =
      command_cases p1 p2 Plain (λ n h _ l. let z : ⊥ = omega arith in absurd z) (zero_p1 2 refl) (zero_p1 3 refl) (λ _. refl) (zero_p1 10 refl)
      (zero_p1 11 refl) (λ _. refl)

-- data bytes that carry a command
pub command_taken : (d : List ℕ) (c : Command) → read_command d ≡ accepted c
    → (length d ≡ 4) × (command_listed (get_or d 0 0) (get_or d 1 0) (word_of (get_or d 2 0) (get_or d 3 0)) ≡ true)
    × (accepted (command_of (get_or d 0 0) (get_or d 1 0) (word_of (get_or d 2 0) (get_or d 3 0))) ≡ accepted c)
unfolding read_command checked_command
command_taken d c e =
    let listed = command_listed (get_or d 0 0) (get_or d 1 0) (word_of (get_or d 2 0) (get_or d 3 0)) in
    let taken = accepted (command_of (get_or d 0 0) (get_or d 1 0) (word_of (get_or d 2 0) (get_or d 3 0))) in
    let p = passed_not (eqb (length d) 4) 7 (refuse_if (not listed) 8 taken) c e in
    let q = passed_not listed 8 taken c p.1 in
    (eqb-true (length d) 4 p.0, q.0, q.1)

pub command_carried : (d : List ℕ) (m : Message) → message_of 0x0F d ≡ accepted m → (length d ≡ 4) × (read_command d ≡ accepted (command_in d))
unfolding message_of with_data
command_carried d m e =
    let r = on_accepted_lem (λ c. fixed (F.Command c)) (read_command d) m e in
    let t = command_taken d r.0 r.1 in
    (t.0, r.1 ∙ sym t.2)
