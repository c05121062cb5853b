-- What a type and its data bytes say, decided check by check. Assumes nothing.
use mathlib.Core.Path.{◌≡◌, refl, ap, ◌∙◌, sym}
use mathlib.Core.Bool.{Bool, true, false, not, ◌&&◌, and-false}
use mathlib.Core.List.{List, [], ◌∷◌, ◌++◌}
use Prim.Native.Nat.{ℕ, suc, ◌-◌, ◌<◌, ◌≤◌}
use native.Mathlib.Omega.{arith}
use lib.ListN.{length, get_or, take, drop}
use lib.Seq.{take-append_seam}
use lib.Dec.{leb}
use borrow.Author.Tests.{le-leb, lt-leb, leb-true, eq-eqb, ne_eqb}
use Rattle.answer.specs.Answer.{Outcome, refused, accepted, refuse_if, on_accepted, and_then}
use Rattle.omnistat.specs.declared.group.Group.{Group}
use Rattle.omnistat.specs.declared.frame.End.TheVariants.{Thermostat, Host}
use Rattle.omnistat.specs.Register.{within, run_allowed, poll_allowed}
use Rattle.omnistat.specs.Group.{poll_type, reply_length, group_of, replied_group}
use Rattle.omnistat.specs.Message.{Known, poll, set_from, poll_group, acknowledge, negative, data_from, group, of_length, as_poll, as_run, as_message, as_message_by}

module _ (lo hi n : ℕ) where
  pub too_low : n < lo → within lo hi n ≡ false
  too_low h = simp (lt-leb lo n h)

  pub too_high : hi < n → within lo hi n ≡ false
  too_high h = simp (lt-leb n hi h, and-false)

  pub from_low : lo ≤ n → leb n hi ≡ within lo hi n
  from_low h = simp (le-leb lo n h)

  pub inside : lo ≤ n → n ≤ hi → within lo hi n ≡ true
  inside h k = simp (le-leb lo n h, le-leb n hi k)

-- a number between two others
pub and_parts : (a b : Bool) → (a && b) ≡ true → (a ≡ true) × (b ≡ true)
and_parts true b e = (refl, e)
and_parts false b e = let z : ◌≡◌ {A = ℕ} 0 1 = cc in absurd (omega arith)

pub within_both : (lo hi n : ℕ) → within lo hi n ≡ true → (lo ≤ n) × (n ≤ hi)
within_both lo hi n e =
    let p = and_parts (leb lo n) (leb n hi) e in
    (leb-true lo n p.0, leb-true n hi p.1)

-- so many data bytes
module _ {M : Type 0} (n : ℕ) (d : List ℕ) (m : M) where
  pub right_length : length d ≡ n → of_length n d m ≡ accepted m
  right_length h = simp (eq-eqb (length d) n h)

  pub wrong_length : (length d ≡ n → ⊥) → of_length n d m ≡ refused 7
  wrong_length h = simp (ne_eqb (length d) n h)

-- a poll
pub poll_of : (d : List ℕ) (t : Bool) → length d ≡ 2 → poll_allowed (get_or d 0 0) (get_or d 1 0) ≡ t
    → as_poll d ≡ refuse_if (not t) 8 (accepted (poll (get_or d 0 0) (get_or d 1 0)))
poll_of [] t h e = absurd (omega arith)
poll_of (a ∷ []) t h e = absurd (omega arith)
poll_of (a ∷ b ∷ []) t h e = ap (λ (x : Bool). refuse_if (not x) 8 (accepted (poll a b))) e
poll_of (a ∷ b ∷ c ∷ d) t h e = absurd (omega arith)

-- the values of a run, in a message
pub values_taken : (d rest : List ℕ) → 0 < length d → take (length d - 1) (drop 1 (d ++ rest)) ≡ drop 1 d
values_taken [] rest h = absurd (omega arith)
values_taken (a ∷ d) rest h =
    let n : suc (length d) - 1 ≡ length d = omega arith in
    ap (λ (k : ℕ). take k (d ++ rest)) n ∙ take-append_seam d rest

pub refuse_natural : {M N : Type 0} (f : M → N) (t : Bool) (n : ℕ) (o : Outcome M) → on_accepted f (refuse_if t n o) ≡ refuse_if t n (on_accepted f o)
refuse_natural f true n o = refl
refuse_natural f false n o = refl

-- what a run is made into is what is accepted
pub run_natural : {M N : Type 0} (f : M → N) (make : ℕ → List ℕ → M) (d : List ℕ)
    → on_accepted f (as_run make d) ≡ as_run (λ start values. f (make start values)) d
run_natural f make [] = refl
run_natural f make (a ∷ d) =
    refuse_natural f (not (within 1 14 (length d))) 7 (refuse_if (not (run_allowed a (length d))) 8 (accepted (make a d)))
    ∙ ap (λ o. refuse_if (not (within 1 14 (length d))) 7 o) (refuse_natural f (not (run_allowed a (length d))) 8 (accepted (make a d)))

-- which message a type names
module _ (kind : ℕ) (d : List ℕ) where
  pub names_poll : kind ≡ 0 → as_message Thermostat kind d ≡ as_poll d
  unfolding as_message_by
  names_poll h = ap (λ (k : ℕ). as_message Thermostat k d) h

  pub names_set : kind ≡ 1 → as_message Thermostat kind d ≡ as_run set_from d
  unfolding as_message_by
  names_set h = ap (λ (k : ℕ). as_message Thermostat k d) h

  pub names_group_poll : (kind ≡ 0 → ⊥) → (kind ≡ 1 → ⊥) → (o : Outcome Group) → o ≡ group_of poll_type kind
      → as_message Thermostat kind d ≡ and_then o (λ g. of_length 0 d (poll_group g))
  unfolding as_message_by
  names_group_poll a b o e =
      simp (ne_eqb kind 0 a, ne_eqb kind 1 b) (ap (λ (x : Outcome Group). and_then x (λ g. of_length 0 d (poll_group g))) (sym e))

  module _ (known : Known Host) where
    pub names_acknowledge : kind ≡ 0 → as_message_by Host known kind d ≡ of_length 0 d acknowledge
    unfolding as_message_by
    names_acknowledge h = ap (λ (k : ℕ). as_message_by Host known k d) h

    pub names_negative : kind ≡ 1 → as_message_by Host known kind d ≡ of_length 0 d negative
    unfolding as_message_by
    names_negative h = ap (λ (k : ℕ). as_message_by Host known k d) h

    pub names_data : kind ≡ 2 → as_message_by Host known kind d ≡ as_run data_from d
    unfolding as_message_by
    names_data h = ap (λ (k : ℕ). as_message_by Host known k d) h

    pub names_group : (kind ≡ 0 → ⊥) → (kind ≡ 1 → ⊥) → (kind ≡ 2 → ⊥) → (o : Outcome Group) → o ≡ replied_group known.0 known.1 kind
        → as_message_by Host known kind d ≡ and_then o (λ g. of_length (reply_length g) d (group g d))
    unfolding as_message_by
    names_group a b f o e =
        simp (ne_eqb kind 0 a, ne_eqb kind 1 b, ne_eqb kind 2 f)
        (ap (λ (x : Outcome Group). and_then x (λ g. of_length (reply_length g) d (group g d))) (sym e))
