-- What passes a check of data bytes, and the message that it then is. Assumes nothing.
use mathlib.Core.Path.{◌≡◌, refl, sym, ap, ◌∙◌}
use mathlib.Core.Bool.{Bool, true, false, not}
use mathlib.Core.List.{List, [], ◌∷◌}
use Prim.Native.Nat.{ℕ, zero, suc, ◌≤◌, ◌<◌}
use native.Mathlib.Omega.{arith}
use lib.Dec.{eqb}
use lib.ListN.{length}
use borrow.Author.Tests.{eqb-true}
use Rattle.answer.specs.Answer.{Outcome, accepted, refuse_if, on_accepted}
use Rattle.answer.proofs.Laws.Test.{not_accepted, passed_not, in_one}
use Rattle.omnistat.specs.Register.{within, run_allowed}
use Rattle.omnistat.specs.declared.frame.End.{End}
use Rattle.omnistat.specs.declared.frame.End.TheVariants.{Thermostat, Host}
use Rattle.omnistat.specs.declared.group.Group.{Group}
use Rattle.omnistat.specs.declared.group.Group.TheVariants.{First, Second, Third}
use Rattle.omnistat.specs.declared.habit.Habit.{Habit}
use Rattle.omnistat.specs.declared.habit.Habit.TheVariants.{Numbered, Printed}
use Rattle.omnistat.specs.Group.{reply_type, reply_length, replied_group}
use Rattle.omnistat.specs.Message.{Known, numbered, set_from, data_from, group, of_length, as_run, as_message, as_message_by}
use Rattle.omnistat.specs.Text.{text_type}
use Rattle.omnistat.specs.Parts.{passed}
use Rattle.omnistat.proofs.Laws.Message.{within_both, refuse_natural, run_natural, names_set, names_data, names_group}

-- what is made of a message tells whether it is accepted
pub whether : {A B : Type 0} (f : A → B) (o : Outcome A) (x : Outcome B) → x ≡ on_accepted f o → on_accepted passed x ≡ on_accepted passed o
whether f o x e = ap (on_accepted passed) e ∙ in_one f passed o

-- a start register and values
abbrev pub run_checked : List ℕ → Outcome (Unit {0})
run_checked d = as_run (λ start values. tt) d

pub run_sized : (d : List ℕ) → accepted tt ≡ run_checked d → (2 ≤ length d) × (length d ≤ 15)
run_sized [] e = absurd (not_accepted 7 tt (sym e))
run_sized (a ∷ d) e =
    let p = passed_not (within 1 14 (length d)) 7 (refuse_if (not (run_allowed a (length d))) 8 (accepted tt)) tt (sym e) in
    let w = within_both 1 14 (length d) p.0 in
    (omega (arith, w.0), omega (arith, w.1))

-- so many data bytes
abbrev pub length_checked : ℕ → List ℕ → Outcome (Unit {0})
length_checked n d = of_length n d tt

module _ {M : Type 0} (n : ℕ) (d : List ℕ) (m : M) where
  pub length-checked : length_checked n d ≡ on_accepted passed (of_length n d m)
  length-checked = sym (refuse_natural passed (not (eqb (length d) n)) 7 (accepted m))

pub length_same : {M : Type 0} (n : ℕ) (d : List ℕ) (f : ℕ → M) → of_length n d (f n) ≡ of_length n d (f (length d))
length_same n d f = go (eqb (length d) n) refl
  where
    go : (t : Bool) → eqb (length d) n ≡ t → refuse_if (not t) 7 (accepted (f n)) ≡ refuse_if (not t) 7 (accepted (f (length d)))
    go true e = ap (λ (k : ℕ). accepted (f k)) (sym (eqb-true (length d) n e))
    go false e = refl

-- what a typed writer checks is what is checked of its type and data bytes
pub set-checked : (d : List ℕ) → run_checked d ≡ on_accepted passed (as_message Thermostat 1 d)
set-checked d = sym (run_natural passed set_from d) ∙ ap (on_accepted passed) (sym (names_set 1 d refl))

pub data_checked : (d : List ℕ) → run_checked d ≡ on_accepted passed (as_message Host 2 d)
data_checked d = sym (run_natural passed data_from d) ∙ ap (on_accepted passed) (sym (names_data 2 d (numbered Host) refl))

-- a run is a set at the thermostat and data at the host
pub carried_run : (end : End) (d : List ℕ) → run_checked d ≡ on_accepted passed (as_message end (text_type end) d)
carried_run Thermostat d = set-checked d
carried_run Host d = data_checked d

pub empty_checked : (kind : ℕ) → kind ≤ 1 → accepted tt ≡ on_accepted passed (as_message Host kind [])
unfolding as_message_by
empty_checked zero h = refl
empty_checked (suc zero) h = refl
empty_checked (suc (suc kind)) h = absurd (omega arith)

-- the values of the reply with a group are checked by the length of the group that its type names
above_data : (habit : Habit) (g : Group) → 2 < reply_type habit g
above_data Numbered First = omega arith
above_data Numbered Second = omega arith
above_data Numbered Third = omega arith
above_data Printed g = omega arith

pub group-checked : (known : Known Host) (g carried : Group) (d : List ℕ) → accepted carried ≡ replied_group known.0 known.1 (reply_type known.0 g)
    → length_checked (reply_length carried) d ≡ on_accepted passed (as_message_by Host known (reply_type known.0 g) d)
group-checked known g carried d e =
    let kind = reply_type known.0 g in
    let above = above_data known.0 g in
    length-checked (reply_length carried) d (group carried d)
    ∙ ap (on_accepted passed) (sym (names_group kind d known (λ z. omega (arith, above)) (λ z. omega (arith, above)) (λ z. omega (arith, above)) (accepted carried) e))
