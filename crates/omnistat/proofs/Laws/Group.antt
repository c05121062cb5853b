-- The group that a type or a number names, decided test by test. Assumes nothing.
use mathlib.Core.Path.{◌≡◌, refl, sym, ap, ◌∙◌}
use mathlib.Core.Bool.{true}
use Prim.Native.Nat.{ℕ}
use borrow.Author.Tests.{eqb-true, eq-eqb, ne_eqb}
use Rattle.omnistat.specs.declared.group.Group.{Group}
use Rattle.omnistat.specs.declared.group.Group.TheVariants.{First, Second, Third}
use Rattle.answer.specs.Answer.{refused, accepted}
use Rattle.omnistat.specs.declared.habit.Habit.TheVariants.{Numbered, Printed}
use Rattle.omnistat.specs.Group.{reply_type, group_by, group_of, replied_group, group_number, group_at, same_group}
use Rattle.omnistat.specs.Host.{known_at}
use Rattle.answer.proofs.Laws.Test.{same}

none_has : (n : ℕ) (value_of : Group → ℕ) (value : ℕ) → (value ≡ value_of First → ⊥) → (value ≡ value_of Second → ⊥) → (value ≡ value_of Third → ⊥)
    → group_by n value_of value ≡ refused n
none_has n value_of value a b c = simp (ne_eqb value (value_of First) a, ne_eqb value (value_of Second) b, ne_eqb value (value_of Third) c)

module _ (type : Group → ℕ) (kind : ℕ) where
  pub names_first : kind ≡ type First → group_of type kind ≡ accepted First
  names_first h = simp (eq-eqb kind (type First) h)

  module _ (a : kind ≡ type First → ⊥) where
    pub names_second : kind ≡ type Second → group_of type kind ≡ accepted Second
    names_second h = simp (ne_eqb kind (type First) a, eq-eqb kind (type Second) h)

    module _ (b : kind ≡ type Second → ⊥) where
      pub names_third : kind ≡ type Third → group_of type kind ≡ accepted Third
      names_third h = simp (ne_eqb kind (type First) a, ne_eqb kind (type Second) b, eq-eqb kind (type Third) h)

      pub names_none : (kind ≡ type Third → ⊥) → group_of type kind ≡ refused 6
      names_none h = none_has 6 type kind a b h

-- as printed, type 3 names the polled group
module _ (polled : Group) (kind : ℕ) where
  pub names_polled : kind ≡ 3 → replied_group Printed polled kind ≡ accepted polled
  names_polled h = simp (eq-eqb kind 3 h)

  pub names_no_other : (kind ≡ 3 → ⊥) → replied_group Printed polled kind ≡ refused 6
  names_no_other h = simp (ne_eqb kind 3 h)

-- by number, a group's own type names it
pub names_itself : (g : Group) → group_of (reply_type Numbered) (reply_type Numbered g) ≡ accepted g
names_itself First = refl
names_itself Second = refl
names_itself Third = refl

-- any other number than 1 to 3 names no group, any other than 0 and 1 no habit
pub no_group : (n : ℕ) → (n ≡ 1 → ⊥) → (n ≡ 2 → ⊥) → (n ≡ 3 → ⊥) → group_at n ≡ refused 8
no_group = none_has 8 group_number

pub no_habit : (habit polled : ℕ) → (habit ≡ 0 → ⊥) → (habit ≡ 1 → ⊥) → known_at habit polled ≡ refused 8
no_habit habit polled a b = simp (ne_eqb habit 0 a, ne_eqb habit 1 b)

-- a number names the group that has it
number_back : (g : Group) → group_at (group_number g) ≡ accepted g
number_back First = refl
number_back Second = refl
number_back Third = refl

pub same_group_lem : (g h : Group) → same_group g h ≡ true → g ≡ h
same_group_lem g h e = same (sym (number_back g) ∙ ap group_at (eqb-true (group_number g) (group_number h) e) ∙ number_back h)

pub same_itself : (g h : Group) → g ≡ h → same_group g h ≡ true
same_itself g h e = eq-eqb (group_number g) (group_number h) (ap group_number e)
