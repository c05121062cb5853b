-- A message's type and data bytes name exactly that message. Assumes nothing.
use mathlib.Core.Path.{◌≡◌, refl, sym, ap, ◌∙◌, subst}
use mathlib.Core.Bool.{true, not, cond}
use mathlib.Core.List.{List, [], ◌∷◌}
use mathlib.Core.Logic.{⊎_elim}
use Prim.Native.Nat.{ℕ, ◌<◌, ◌≤◌}
use native.Mathlib.Omega.{arith}
use lib.Dec.{eqb}
use lib.ListN.{length}
use borrow.Author.Tests.{eqb-true}
use Rattle.answer.specs.Answer.{Outcome, refused, accepted, refuse_if}
use Rattle.omnistat.specs.declared.group.Group.{Group}
use Rattle.omnistat.specs.declared.group.Group.TheVariants.{First, Second, Third}
use Rattle.omnistat.specs.declared.habit.Habit.{Habit}
use Rattle.omnistat.specs.declared.habit.Habit.TheVariants.{Numbered, Printed}
use Rattle.omnistat.specs.declared.frame.End.{End}
use Rattle.omnistat.specs.declared.frame.End.TheVariants.{Thermostat, Host}
use Rattle.omnistat.specs.Register.{within, run_allowed, poll_allowed}
use Rattle.omnistat.specs.Group.{poll_type, reply_type, reply_length, group_of, replied_group}
use Rattle.omnistat.specs.Message.{Counted, Known, poll, set_from, poll_group, acknowledge, negative, data_from, group, of_length, as_poll, as_run, as_message_by, body_by, is_polled}
use Rattle.answer.proofs.Laws.Test.{not_accepted, same, passed_not, then_accepted, chosen}
use Rattle.omnistat.proofs.Laws.Group.{same_group_lem, same_itself}
use Rattle.omnistat.proofs.Laws.Message.{within_both}

-- a message that is read from a type and data bytes carries these, they fit the halves of the second byte, and it is of no group but the polled
-- one
abbrev pub Told : (end : End) → Known end → ℕ → List ℕ → Counted end → Type 0
Told end known t d m = ((body_by end known m).kind ≡ t) × (((body_by end known m).payload ≡ d) × (length d ≤ 15) × (is_polled end known m ≡ true))

-- a fixed length, a run, a poll
module _ (end : End) (known : Known end) (t : ℕ) where
  told_length : (d : List ℕ) (m b : Counted end) (n : ℕ) → n ≤ 15 → (body_by end known b).kind ≡ t
      → (length d ≡ n → (body_by end known b).payload ≡ d) → is_polled end known b ≡ true → of_length n d b ≡ accepted m → Told end known t d m
  told_length d m b n l k p i a =
      let q = passed_not (eqb (length d) n) 7 (accepted b) m a in
      let e : length d ≡ n = eqb-true (length d) n q.0 in
      let f : length d ≤ 15 = omega arith in
      subst (Told end known t d) (same q.1) (k, (p e, f, i))

  told_run : (d : List ℕ) (m : Counted end) (make : ℕ → List ℕ → Counted end)
      → ((s : ℕ) (v : List ℕ) → (body_by end known (make s v)).kind ≡ t) → ((s : ℕ) (v : List ℕ) → (body_by end known (make s v)).payload ≡ s ∷ v)
      → ((s : ℕ) (v : List ℕ) → is_polled end known (make s v) ≡ true) → as_run make d ≡ accepted m → Told end known t d m
  told_run [] m make k p i a = absurd (not_accepted 7 m a)
  told_run (x ∷ d) m make k p i a =
      let q = passed_not (within 1 14 (length d)) 7 (refuse_if (not (run_allowed x (length d))) 8 (accepted (make x d))) m a in
      let r = passed_not (run_allowed x (length d)) 8 (accepted (make x d)) m q.1 in
      let f : length (x ∷ d) ≤ 15 = omega (arith, (within_both 1 14 (length d) q.0).1) in
      subst (Told end known t (x ∷ d)) (same r.1) (k x d, (p x d, f, i x d))

told_poll : (d : List ℕ) (m : Counted Thermostat) → as_poll d ≡ accepted m → Told Thermostat tt 0 d m
told_poll [] m a = absurd (not_accepted 7 m a)
told_poll (x ∷ []) m a = absurd (not_accepted 7 m a)
told_poll (x ∷ y ∷ z ∷ d) m a = absurd (not_accepted 7 m a)
told_poll (x ∷ y ∷ []) m a =
    let q = passed_not (poll_allowed x y) 8 (accepted (poll x y)) m a in
    let f : length (x ∷ y ∷ []) ≤ 15 = omega arith in
    subst (Told Thermostat tt 0 (x ∷ y ∷ [])) (same q.1) (refl, (refl, f, refl))

no_bytes : (d : List ℕ) → length d ≡ 0 → [] ≡ d
no_bytes [] h = refl
no_bytes (x ∷ d) h = absurd (omega arith)

-- one type of the list: it is this one, or one of the later ones
one_of : {M P : Type 0} (t k : ℕ) (m : M) (x y : Outcome M) → (k ≡ t → x ≡ accepted m → P) → (y ≡ accepted m → P)
    → cond (eqb t k) x y ≡ accepted m → P
one_of t k m x y this later e =
    ⊎_elim (λ w. this (sym (eqb-true t k w.0)) w.1) (λ w. later w.1) (chosen (eqb t k) x y (accepted m) e)

-- a group that is found has this type
pub found_group : (type : Group → ℕ) (t : ℕ) (g : Group) → group_of type t ≡ accepted g → type g ≡ t
found_group type t g =
    one_of t (type First) g (accepted First) _ (found First)
    (one_of t (type Second) g (accepted Second) _ (found Second)
    (one_of t (type Third) g (accepted Third) (refused 6) (found Third) (λ e. absurd (not_accepted 6 g e))))
  where
    found : (x : Group) → type x ≡ t → accepted x ≡ accepted g → type g ≡ t
    found x p q = ap type (sym (same q)) ∙ p

-- a reply of no group is written whatever was polled; one that is read is of the group that its type names, and of no other
acknowledge_polled : (known : Known Host) → is_polled Host known acknowledge ≡ true
acknowledge_polled (Numbered, polled) = refl
acknowledge_polled (Printed, polled) = refl

negative_polled : (known : Known Host) → is_polled Host known negative ≡ true
negative_polled (Numbered, polled) = refl
negative_polled (Printed, polled) = refl

data_polled : (known : Known Host) (start : ℕ) (values : List ℕ) → is_polled Host known (data_from start values) ≡ true
data_polled (Numbered, polled) start values = refl
data_polled (Printed, polled) start values = refl

pub group_polled : (known : Known Host) (g : Group) (v w : List ℕ) → is_polled Host known (group g v) ≡ is_polled Host known (group g w)
group_polled (Numbered, polled) g v w = refl
group_polled (Printed, polled) g v w = refl

pub found_reply : (known : Known Host) (t : ℕ) (g : Group) (d : List ℕ) → replied_group known.0 known.1 t ≡ accepted g
    → (reply_type known.0 g ≡ t) × (is_polled Host known (group g d) ≡ true)
found_reply (Numbered, polled) t g d e = (found_group (reply_type Numbered) t g e, refl)
found_reply (Printed, polled) t g d e =
    one_of t 3 g (accepted polled) (refused 6) (λ k q. (k, same_itself g polled (sym (same q)))) (λ q. absurd (not_accepted 6 g q)) e

reply_length_fits : (g : Group) → reply_length g ≤ 15
reply_length_fits First = omega arith
reply_length_fits Second = omega arith
reply_length_fits Third = omega arith

-- what is accepted for a type and data bytes carries that type and those data bytes
pub told : (end : End) (known : Known end) (t : ℕ) (d : List ℕ) (m : Counted end) → as_message_by end known t d ≡ accepted m → Told end known t d m
unfolding as_message_by
told Thermostat known t d m =
    one_of t 0 m (as_poll d) _ (λ k a. subst (λ (n : ℕ). Told Thermostat tt n d m) k (told_poll d m a))
    (one_of t 1 m (as_run set_from d) _ (λ k a. told_run Thermostat tt t d m set_from (λ s v. k) (λ s v. refl) (λ s v. refl) a)
    (λ a.
    let p = then_accepted (group_of poll_type t) (λ g. of_length 0 d (poll_group g)) m a in
    let l : 0 ≤ 15 = omega arith in
    told_length Thermostat tt t d m (poll_group p.0) 0 l (found_group poll_type t p.0 p.1) (no_bytes d) refl p.2))
told Host known t d m =
    let l : 0 ≤ 15 = omega arith in
    one_of t 0 m (of_length 0 d acknowledge) _ (λ k a. told_length Host known t d m acknowledge 0 l k (no_bytes d) (acknowledge_polled known) a)
    (one_of t 1 m (of_length 0 d negative) _ (λ k a. told_length Host known t d m negative 0 l k (no_bytes d) (negative_polled known) a)
    (one_of t 2 m (as_run data_from d) _ (λ k a. told_run Host known t d m data_from (λ s v. k) (λ s v. refl) (data_polled known) a)
    (λ a.
    let p = then_accepted (replied_group known.0 known.1 t) (λ g. of_length (reply_length g) d (group g d)) m a in
    let f = found_reply known t p.0 d p.1 in
    told_length Host known t d m (group p.0 d) (reply_length p.0) (reply_length_fits p.0) f.0 (λ e. refl) f.1 p.2)))

-- every type fits its half of the second byte
poll_type_fits : (g : Group) → poll_type g < 16
poll_type_fits First = omega arith
poll_type_fits Second = omega arith
poll_type_fits Third = omega arith

reply_type_fits : (habit : Habit) (g : Group) → reply_type habit g < 16
reply_type_fits Numbered First = omega arith
reply_type_fits Numbered Second = omega arith
reply_type_fits Numbered Third = omega arith
reply_type_fits Printed g = omega arith

pub kind_fits : (end : End) (known : Known end) (m : Counted end) → (body_by end known m).kind < 16
kind_fits Thermostat known (poll start count) = omega arith
kind_fits Thermostat known (set_from start values) = omega arith
kind_fits Thermostat known (poll_group g) = poll_type_fits g
kind_fits Host known acknowledge = omega arith
kind_fits Host known negative = omega arith
kind_fits Host known (data_from start values) = omega arith
kind_fits Host known (group g values) = reply_type_fits known.0 g

-- a typed message's own type and data bytes are that message, where they are accepted and it is of no group but the polled one
again_run : {M : Type 0} (make : ℕ → List ℕ → M) (start : ℕ) (values : List ℕ) (n : M) → as_run make (start ∷ values) ≡ accepted n → make start values ≡ n
again_run make start values n e =
    let p = passed_not (within 1 14 (length values)) 7 (refuse_if (not (run_allowed start (length values))) 8 (accepted (make start values))) n e in
    same (passed_not (run_allowed start (length values)) 8 (accepted (make start values)) n p.1).1

again_group : (g : Group) (values : List ℕ) (n : Counted Host) → of_length (reply_length g) values (group g values) ≡ accepted n → group g values ≡ n
again_group g values n e = same (passed_not (eqb (length values) (reply_length g)) 7 (accepted (group g values)) n e).1

pub again : (end : End) (known : Known end) (m n : Counted end) → is_polled end known m ≡ true
    → as_message_by end known (body_by end known m).kind (body_by end known m).payload ≡ accepted n → m ≡ n
unfolding as_message_by
again Thermostat known (poll start count) n i e = same (passed_not (poll_allowed start count) 8 (accepted (poll start count)) n e).1
again Thermostat known (set_from start values) n i e = again_run set_from start values n e
again Thermostat known (poll_group First) n i e = same e
again Thermostat known (poll_group Second) n i e = same e
again Thermostat known (poll_group Third) n i e = same e
again Host known acknowledge n i e = same e
again Host known negative n i e = same e
again Host known (data_from start values) n i e = again_run data_from start values n e
again Host (Numbered, polled) (group First values) n i e = again_group First values n e
again Host (Numbered, polled) (group Second values) n i e = again_group Second values n e
again Host (Numbered, polled) (group Third values) n i e = again_group Third values n e
again Host (Printed, polled) (group g values) n i e =
    ap (λ (h : Group). group h values) (same_group_lem g polled i) ∙ again_group polled values n e
