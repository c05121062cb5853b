-- Habits and polled groups: what document 02, K9, claims of them. Assumes nothing.
use mathlib.Core.Path.{◌≡◌, refl, sym, ap, ◌∙◌}
use mathlib.Core.Bool.{Bool, true, false, not, cond}
use mathlib.Core.List.{List, [], ◌∷◌}
use mathlib.Core.Logic.{◌⊎◌, inl, inr, ⊎_elim}
use Prim.Native.Nat.{ℕ, zero, suc, ◌<◌, ◌≤◌}
use native.Mathlib.Omega.{arith}
use lib.Dec.{eqb}
use lib.ListN.{length}
use borrow.Author.Tests.{eqb-true}
use Rattle.answer.specs.Answer.{Outcome, refused, accepted, refuse_if, on_accepted, and_then}
use Rattle.answer.proofs.Laws.Test.{not_both, passed_not, then_accepted}
use Rattle.omnistat.specs.declared.frame.End.TheVariants.{Host}
use Rattle.omnistat.specs.declared.group.Group.{Group}
use Rattle.omnistat.specs.declared.group.Group.TheVariants.{First, Second, Third}
use Rattle.omnistat.specs.declared.habit.Habit.TheVariants.{Numbered, Printed}
use Rattle.omnistat.specs.Register.{within}
use Rattle.omnistat.specs.Group.{reply_type, reply_length, replied_group, group_at, same_group}
use Rattle.omnistat.specs.Frame.{Frame, frame, address_of, bytes_of, total}
use Rattle.omnistat.specs.Message.{Known, Counted, numbered, acknowledge, negative, data_from, group, of_length, as_message_by, as_message, body_by}
use Rattle.omnistat.specs.Omnistat.{Message, counted, text, Addressed, addressed, addressed_counted, addressed_text, read_by, read_counted_by, read, bytes_to, sent, write_bytes_by, write_bytes, write_by, write}
use Rattle.omnistat.specs.Text.{carries_text, read_text}
use Rattle.omnistat.specs.Answer.{fields_by}
use Rattle.omnistat.specs.Host.{known_at, read_at_host, write_to_host, write_group_to_host}
use Rattle.omnistat.specs.Claim.{OtherType, All8, ReadAs, Habits}
use Rattle.omnistat.proofs.Laws.Group as Group
use Rattle.omnistat.proofs.Laws.Heard.{message_read_lem, written_by_type}
use Rattle.omnistat.proofs.Laws.Message.{within_both, right_length, wrong_length, names_group}
use Rattle.omnistat.proofs.Laws.Omnistat.{read_after_write, read_after_write_bytes}
use Rattle.omnistat.proofs.Laws.Typed.{told}

-- ---- as printed

printed_3 : (polled : Group) (d : List ℕ) → as_message_by Host (Printed, polled) 3 d ≡ of_length (reply_length polled) d (group polled d)
unfolding as_message_by
printed_3 polled d = refl

printed_4 : (polled : Group) (d : List ℕ) → as_message_by Host (Printed, polled) 4 d ≡ refused 6
unfolding as_message_by
printed_4 polled d = refl

printed_5 : (polled : Group) (d : List ℕ) → as_message_by Host (Printed, polled) 5 d ≡ refused 6
unfolding as_message_by
printed_5 polled d = refl

printed-group : (polled : Group) (s : List ℕ) (number : ℕ) (g : Group) (values : List ℕ)
    → read_by Host (Printed, polled) s ≡ accepted (addressed_counted Host number (group g values)) → (g ≡ polled) × (length values ≡ reply_length polled)
printed-group polled s number g values e =
    let r = (message_read_lem Host (Printed, polled) number (group g values) s e).0 in
    let q = passed_not (eqb (length values) (reply_length polled)) 7 (accepted (group polled values)) (group g values) (sym (printed_3 polled values) ∙ r) in
    (Group.same_group_lem g polled (told Host (Printed, polled) 3 values (group g values) r).1.2, eqb-true (length values) (reply_length polled) q.0)

-- to write the reply with a group
module _ (polled g : Group) (number : ℕ) (values : List ℕ) where
  abbrev printed : Outcome (List ℕ)
  printed = write_by Host (Printed, polled) number (counted (group g values))

  decided : (o : Outcome (Counted Host)) → of_length (reply_length polled) values (group polled values) ≡ o
      → printed ≡ and_then o (λ m. refuse_if (not (same_group g polled)) 8 (bytes_to Host number 3 values))
  unfolding sent
  decided o e = ap (λ (x : Outcome (Counted Host)). and_then x (λ m. refuse_if (not (same_group g polled)) 8 (bytes_to Host number 3 values))) (printed_3 polled values ∙ e)

  unfitting : (length values ≡ reply_length polled → ⊥) → printed ≡ refused 7
  unfitting n = decided (refused 7) (wrong_length (reply_length polled) values (group polled values) n)

  another : (g ≡ polled → ⊥) → (b : Bool) → same_group g polled ≡ b → b ≡ false
  another n true e = absurd (n (Group.same_group_lem g polled e))
  another n false e = refl

  not_polled : length values ≡ reply_length polled → (g ≡ polled → ⊥) → printed ≡ refused 8
  not_polled l n =
      decided (accepted (group polled values)) (right_length (reply_length polled) values (group polled values) l)
      ∙ ap (λ (b : Bool). refuse_if (not b) 8 (bytes_to Host number 3 values)) (another n (same_group g polled) refl)

printed_fits : (polled : Group) (number : ℕ) (values : List ℕ) → length values ≡ reply_length polled
    → write_by Host (Printed, polled) number (counted (group polled values)) ≡ bytes_to Host number 3 values
printed_fits polled number values l =
    decided polled polled number values (accepted (group polled values)) (right_length (reply_length polled) values (group polled values) l)
    ∙ ap (λ (b : Bool). refuse_if (not b) 8 (bytes_to Host number 3 values)) (Group.same_itself polled polled refl)

-- ---- the numbers

-- a number of 1 to 3 is a group's, and no other
group_there : (n : ℕ) → within 1 3 n ≡ true → (g : Group) × (group_at n ≡ accepted g)
group_there zero w = absurd (not_both w refl)
group_there (suc zero) w = (First, refl)
group_there (suc (suc zero)) w = (Second, refl)
group_there (suc (suc (suc zero))) w = (Third, refl)
group_there (suc (suc (suc (suc n)))) w = let p = within_both 1 3 (suc (suc (suc (suc n)))) w in absurd (omega (arith, p.1))

group_missing : (n : ℕ) → within 1 3 n ≡ false → group_at n ≡ refused 8
group_missing n w = Group.no_group n (not_at 1 refl) (not_at 2 refl) (not_at 3 refl)
  where
    not_at : (k : ℕ) → within 1 3 k ≡ true → n ≡ k → ⊥
    not_at k there e = not_both (ap (within 1 3) e ∙ there) w

unknown_habit : (habit polled : ℕ) → 1 < habit → known_at habit polled ≡ refused 8
unknown_habit habit polled h = Group.no_habit habit polled (λ e. omega arith) (λ e. omega arith)

unknown_group : (habit polled : ℕ) → within 1 3 polled ≡ false → known_at habit polled ≡ refused 8
unknown_group zero polled w = ap (on_accepted (λ g. (Numbered, g))) (group_missing polled w)
unknown_group (suc zero) polled w = ap (on_accepted (λ g. (Printed, g))) (group_missing polled w)
unknown_group (suc (suc habit)) polled w = unknown_habit (suc (suc habit)) polled (omega arith)

-- what the host names is known, or refused with 8
known_or_8 : (habit polled : ℕ) → ((known : Known Host) × (known_at habit polled ≡ accepted known)) ⊎ (known_at habit polled ≡ refused 8)
known_or_8 habit polled = by habit (within 1 3 polled) refl
  where
    by : (habit : ℕ) (b : Bool) → within 1 3 polled ≡ b → ((known : Known Host) × (known_at habit polled ≡ accepted known)) ⊎ (known_at habit polled ≡ refused 8)
    by habit false w = inr (unknown_group habit polled w)
    by zero true w = let g = group_there polled w in inl ((Numbered, g.0), ap (on_accepted (λ x. (Numbered, x))) g.1)
    by (suc zero) true w = let g = group_there polled w in inl ((Printed, g.0), ap (on_accepted (λ x. (Printed, x))) g.1)
    by (suc (suc habit)) true w = inr (unknown_habit (suc (suc habit)) polled (omega arith))

no_group : (habit polled number g : ℕ) (values : List ℕ) → within 1 3 g ≡ false → write_group_to_host habit polled number g values ≡ refused 8
no_group habit polled number g values w =
    ap (λ (o : Outcome Group). and_then (known_at habit polled) (λ known. and_then o (λ carried. write_by Host known number (counted (group carried values)))))
    (group_missing g w)
    ∙ ⊎_elim (λ k. ap then_8 k.1) (λ e. ap then_8 e) (known_or_8 habit polled)
  where
    then_8 : Outcome (Known Host) → Outcome (List ℕ)
    then_8 o = and_then o (λ known. refused 8)

-- what is not known is 8 from each call
all_8 : (habit polled : ℕ) → known_at habit polled ≡ refused 8 → All8 habit polled
all_8 habit polled e = record {
  read = λ s. ap (λ (o : Outcome (Known Host)). and_then o (λ known. on_accepted (fields_by Host known) (read_by Host known s))) e;
  write = λ number kind d. ap (λ (o : Outcome (Known Host)). and_then o (λ known. write_bytes_by Host known number kind d)) e;
  write-group = λ number g values.
      ap (λ (o : Outcome (Known Host)). and_then o (λ known. and_then (group_at g) (λ carried. write_by Host known number (counted (group carried values))))) e;
}

seven : (number a b c d e f : ℕ) → write_group_to_host 1 3 number 1 (a ∷ b ∷ c ∷ d ∷ e ∷ f ∷ []) ≡ refused 7
unfolding sent as_message_by
seven number a b c d e f = refl

eight : (number a b c d e f : ℕ) → write_group_to_host 1 1 number 2 (a ∷ b ∷ c ∷ d ∷ e ∷ f ∷ []) ≡ refused 8
unfolding sent as_message_by
eight number a b c d e f = refl

as_numbered : write_group_to_host 0 2 1 2 (1 ∷ 2 ∷ 3 ∷ 4 ∷ 5 ∷ 6 ∷ []) ≡ accepted (0x81 ∷ 0x64 ∷ 1 ∷ 2 ∷ 3 ∷ 4 ∷ 5 ∷ 6 ∷ 0xFA ∷ [])
unfolding sent as_message_by bytes_of total
as_numbered = refl

as_printed : write_group_to_host 1 2 1 2 (1 ∷ 2 ∷ 3 ∷ 4 ∷ 5 ∷ 6 ∷ []) ≡ accepted (0x81 ∷ 0x63 ∷ 1 ∷ 2 ∷ 3 ∷ 4 ∷ 5 ∷ 6 ∷ 0xF9 ∷ [])
unfolding sent as_message_by bytes_of total
as_printed = refl

-- ---- the calls undo each other

module _ (habit polled number : ℕ) (known : Known Host) (named : known_at habit polled ≡ accepted known) where
  read_as : (c : Counted Host) (s : List ℕ) → read_by Host known s ≡ accepted (addressed_counted Host number c) → ReadAs habit polled number known c s
  read_as c s e = record {
    named = named;
    message = e;
    numbers = ap (λ (o : Outcome (Known Host)). and_then o (λ k. on_accepted (fields_by Host k) (read_by Host k s))) named ∙ ap (on_accepted (fields_by Host known)) e;
  }

bytes_back : (habit polled number kind : ℕ) (d s : List ℕ) → write_to_host habit polled number kind d ≡ accepted s
    → (known : Known Host) × (c : Counted Host) × (as_message_by Host known kind d ≡ accepted c) × ReadAs habit polled number known c s
bytes_back habit polled number kind d s e =
    let p = then_accepted (known_at habit polled) (λ known. write_bytes_by Host known number kind d) s e in
    let r = read_after_write_bytes Host p.0 number kind d s p.2 in
    (p.0, r.0, r.1, read_as habit polled number p.0 p.1 r.0 s r.2)

group_back : (habit polled number g : ℕ) (values s : List ℕ) → write_group_to_host habit polled number g values ≡ accepted s
    → (known : Known Host) × (carried : Group) × (group_at g ≡ accepted carried) × ReadAs habit polled number known (group carried values) s
group_back habit polled number g values s e =
    let p =
    then_accepted (known_at habit polled) (λ known. and_then (group_at g) (λ carried. write_by Host known number (counted (group carried values)))) s e in
    let q = then_accepted (group_at g) (λ carried. write_by Host p.0 number (counted (group carried values))) s p.2 in (
      p.0,
      q.0,
      q.1,
      read_as habit polled number p.0 p.1 (group q.0 values) s (read_after_write Host p.0 number (counted (group q.0 values)) s q.2),
    )

read_back : (habit polled number : ℕ) (known : Known Host) (c : Counted Host) (s : List ℕ) → known_at habit polled ≡ accepted known
    → read_by Host known s ≡ accepted (addressed_counted Host number c)
    → write_to_host habit polled number (body_by Host known c).kind (body_by Host known c).payload ≡ accepted s
read_back habit polled number known c s n e =
    ap (λ (o : Outcome (Known Host)). and_then o (λ k. write_bytes_by Host k number (body_by Host known c).kind (body_by Host known c).payload)) n
    ∙ written_by_type Host known number c s e

-- ---- by number

numbered_types : (polled g : Group) (d : List ℕ) → as_message_by Host (Numbered, polled) (reply_type Numbered g) d ≡ of_length (reply_length g) d (group g d)
unfolding as_message_by
numbered_types polled First d = refl
numbered_types polled Second d = refl
numbered_types polled Third d = refl

numbered_fits : (polled g : Group) (number : ℕ) (values : List ℕ) → length values ≡ reply_length g
    → write_by Host (Numbered, polled) number (counted (group g values)) ≡ bytes_to Host number (reply_type Numbered g) values
unfolding sent
numbered_fits polled g number values l =
    ap (λ (o : Outcome (Counted Host)). and_then o (λ m. bytes_to Host number (reply_type Numbered g) values))
    (numbered_types polled g values ∙ right_length (reply_length g) values (group g values) l)

-- what no polled group decides, none of 1 to 3 decides
whatever_polled : {A : Type 0} (call : Known Host → Outcome A) → ((g h : Group) → call (Numbered, g) ≡ call (Numbered, h))
    → (p q : ℕ) → within 1 3 p ≡ true → within 1 3 q ≡ true → and_then (known_at 0 p) call ≡ and_then (known_at 0 q) call
whatever_polled {A} call e p q a b =
    let g = group_there p a in
    let h = group_there q b in
    ap then g.1 ∙ e g.0 h.0 ∙ sym (ap then h.1)
  where
    then : Outcome Group → Outcome A
    then o = and_then (on_accepted (λ x. (Numbered, x)) o) call

whatever_read : (s : List ℕ) (g h : Group) → read_by Host (Numbered, g) s ≡ read_by Host (Numbered, h) s
unfolding read_by read_counted_by as_message_by
whatever_read s g h = refl

fields_whatever : (g h : Group) (o : Outcome (Addressed (Message Host))) → on_accepted (fields_by Host (Numbered, g)) o ≡ on_accepted (fields_by Host (Numbered, h)) o
fields_whatever g h (refused n) = refl
fields_whatever g h (accepted a) = ap accepted (of a.message)
  where
    of : (m : Message Host) → fields_by Host (Numbered, g) (addressed a.address m) ≡ fields_by Host (Numbered, h) (addressed a.address m)
    of (counted acknowledge) = refl
    of (counted negative) = refl
    of (counted (data_from start values)) = refl
    of (counted (group x values)) = refl
    of (text t) = refl

numbered-read : (p q : ℕ) (s : List ℕ) → within 1 3 p ≡ true → within 1 3 q ≡ true → read_at_host 0 p s ≡ read_at_host 0 q s
numbered-read p q s =
    whatever_polled (λ known. on_accepted (fields_by Host known) (read_by Host known s))
    (λ g h. ap (on_accepted (fields_by Host (Numbered, g))) (whatever_read s g h) ∙ fields_whatever g h (read_by Host (Numbered, h) s)) p q

whatever_write_bytes : (number kind : ℕ) (d : List ℕ) (g h : Group) → write_bytes_by Host (Numbered, g) number kind d ≡ write_bytes_by Host (Numbered, h) number kind d
unfolding sent as_message_by
whatever_write_bytes number kind d g h = refl

numbered-write : (p q number kind : ℕ) (d : List ℕ) → within 1 3 p ≡ true → within 1 3 q ≡ true → write_to_host 0 p number kind d ≡ write_to_host 0 q number kind d
numbered-write p q number kind d = whatever_polled (λ known. write_bytes_by Host known number kind d) (whatever_write_bytes number kind d) p q

whatever_write : (number : ℕ) (m : Message Host) (g h : Group) → write_by Host (Numbered, g) number m ≡ write_by Host (Numbered, h) number m
unfolding sent as_message_by
whatever_write number (counted acknowledge) g h = refl
whatever_write number (counted negative) g h = refl
whatever_write number (counted (data_from start values)) g h = refl
whatever_write number (counted (group x values)) g h = refl
whatever_write number (text t) g h = refl

group_whatever : (number n : ℕ) (values : List ℕ) (g h : Group)
    → and_then (group_at n) (λ carried. write_by Host (Numbered, g) number (counted (group carried values)))
    ≡ and_then (group_at n) (λ carried. write_by Host (Numbered, h) number (counted (group carried values)))
unfolding sent as_message_by
group_whatever number n values g h = refl

numbered-group : (p q number g : ℕ) (values : List ℕ) → within 1 3 p ≡ true → within 1 3 q ≡ true
    → write_group_to_host 0 p number g values ≡ write_group_to_host 0 q number g values
numbered-group p q number g values =
    whatever_polled (λ known. and_then (group_at g) (λ carried. write_by Host known number (counted (group carried values)))) (group_whatever number g values) p q

-- ---- with either habit

-- any other type than those of group replies
other_type : (known : Known Host) (kind : ℕ) (d : List ℕ) → OtherType kind → as_message_by Host known kind d ≡ as_message Host kind d
unfolding as_message_by
other_type (Numbered, polled) kind d h = refl
other_type (Printed, polled) zero d h = refl
other_type (Printed, polled) (suc zero) d h = refl
other_type (Printed, polled) (suc (suc zero)) d h = refl
other_type (Printed, polled) (suc (suc (suc k))) d h =
    unknown (Printed, polled) (Group.names_no_other polled kind (not_at 3 (omega arith)))
    ∙ sym (unknown (numbered Host) (Group.names_none (reply_type Numbered) kind (not_at 3 (omega arith)) (not_at 4 (omega arith)) (not_at 5 (omega arith))))
  where
    kind : ℕ
    kind = suc (suc (suc k))

    not_at : (n : ℕ) → n ≤ 5 → kind ≡ n → ⊥
    not_at n l e = ⊎_elim (λ b. omega arith) (λ b. omega arith) h

    unknown : (known : Known Host) → replied_group known.0 known.1 kind ≡ refused 6 → as_message_by Host known kind d ≡ refused 6
    unknown known e = names_group kind d known (not_at 0 (omega arith)) (not_at 1 (omega arith)) (not_at 2 (omega arith)) (refused 6) (sym e)

as_before : (known : Known Host) (s : List ℕ) → ((f : Frame) → frame Host s ≡ accepted f → OtherType f.kind) → read_by Host known s ≡ read Host s
unfolding read_by read_counted_by
as_before known s others =
    ap (λ (o : Outcome (Addressed (Message Host))). cond (carries_text Host s) (on_accepted (addressed_text Host) (read_text Host s)) o) (by (frame Host s) refl)
  where
    counted_by : Known Host → Frame → Outcome (Addressed (Message Host))
    counted_by k f = on_accepted (addressed_counted Host (address_of Host f.first)) (as_message_by Host k f.kind f.payload)

    by : (o : Outcome Frame) → frame Host s ≡ o → and_then o (counted_by known) ≡ and_then o (counted_by (numbered Host))
    by (refused n) e = refl
    by (accepted f) e = ap (on_accepted (addressed_counted Host (address_of Host f.first))) (other_type known f.kind f.payload (others f e))

bytes_as_before : (known : Known Host) (number kind : ℕ) (d : List ℕ) → OtherType kind → write_bytes_by Host known number kind d ≡ write_bytes Host number kind d
unfolding sent
bytes_as_before known number kind d h =
    ap (λ (o : Outcome (Counted Host)). and_then o (λ m. bytes_to Host number kind d)) (other_type known kind d h)

write_as_before : (known : Known Host) (number : ℕ) (m : Message Host) → ((g : Group) (values : List ℕ) → m ≡ counted (group g values) → ⊥)
    → write_by Host known number m ≡ write Host number m
write_as_before known number (text t) n = refl
write_as_before known number (counted (group g values)) n = absurd (n g values refl)
write_as_before (Numbered, polled) number (counted acknowledge) n = whatever_write number (counted acknowledge) polled First
write_as_before (Numbered, polled) number (counted negative) n = whatever_write number (counted negative) polled First
write_as_before (Numbered, polled) number (counted (data_from start values)) n = whatever_write number (counted (data_from start values)) polled First
write_as_before (Printed, polled) number (counted acknowledge) n = bytes_as_before (Printed, polled) number 0 [] (inl (omega arith))
write_as_before (Printed, polled) number (counted negative) n = bytes_as_before (Printed, polled) number 1 [] (inl (omega arith))
write_as_before (Printed, polled) number (counted (data_from start values)) n = bytes_as_before (Printed, polled) number 2 (start ∷ values) (inl (omega arith))

pub habits : Habits
habits = record {
  printed_3 = printed_3;
  printed_4 = printed_4;
  printed_5 = printed_5;
  printed_fits = printed_fits;
  printed-group = printed-group;
  numbered_types = numbered_types;
  numbered_fits = numbered_fits;
  whatever_read = whatever_read;
  whatever_write_bytes = whatever_write_bytes;
  whatever_write = whatever_write;
  numbered-read = numbered-read;
  numbered-write = numbered-write;
  numbered-group = numbered-group;
  as_before = as_before;
  bytes_as_before = bytes_as_before;
  write_as_before = write_as_before;
  unfitting = unfitting;
  not_polled = not_polled;
  no_habit = λ habit polled h. all_8 habit polled (unknown_habit habit polled h);
  no_polled_group = λ habit polled w. all_8 habit polled (unknown_group habit polled w);
  no_group = no_group;
  bytes_back = bytes_back;
  group_back = group_back;
  read_back = read_back;
  seven = seven;
  eight = eight;
  as_numbered = as_numbered;
  as_printed = as_printed;
}
