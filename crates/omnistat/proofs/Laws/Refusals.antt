-- The readers of both ends refuse with no number above 8. Assumes nothing.
use mathlib.Core.Bool.{not}
use mathlib.Core.List.{List, [], ◌∷◌}
use Prim.Native.Nat.{ℕ, suc, ◌+◌, ◌/◌}
use lib.Dec.{eqb, ltb, lit≤}
use lib.ListN.{length, get_or, take}
use Rattle.answer.proofs.Laws.AtMost.{AtMost, check, either, make, further}
use Rattle.omnistat.specs.declared.frame.End.{End}
use Rattle.omnistat.specs.declared.frame.End.TheVariants.{Thermostat, Host}
use Rattle.omnistat.specs.declared.group.Group.{Group}
use Rattle.omnistat.specs.declared.group.Group.TheVariants.{First, Second, Third}
use Rattle.omnistat.specs.declared.habit.Habit.{Habit}
use Rattle.omnistat.specs.declared.habit.Habit.TheVariants.{Numbered, Printed}
use Rattle.omnistat.specs.Register.{within, run_allowed, poll_allowed}
use Rattle.omnistat.specs.Frame.{frame, directed, address_of, sum_of}
use Rattle.omnistat.specs.Group.{poll_type, reply_type, reply_length, group_of, replied_group}
use Rattle.omnistat.specs.Message.{Known, as_poll, as_run, as_message_by, set_from, data_from, of_length}
use Rattle.omnistat.specs.Text.{Text, most_characters, until_end, are_characters, carries_text, ended, read_text}
use Rattle.omnistat.specs.Omnistat.{addressed_counted, addressed_text, read_counted_by, read_by}

frame_refusals : (end : End) (s : List ℕ) → AtMost 8 (frame end s)
unfolding frame
frame_refusals end [] = lit≤ tt
frame_refusals end (first ∷ []) = check 8 (not (directed end first)) 2 _ (lit≤ tt) (lit≤ tt)
frame_refusals end (first ∷ second ∷ rest) =
    check 8 (not (directed end first)) 2 _ (lit≤ tt)
    (check 8 (ltb (length (first ∷ second ∷ rest)) (second / 16 + 3)) 1 _ (lit≤ tt)
    (check 8 (ltb (second / 16 + 3) (length (first ∷ second ∷ rest))) 4 _ (lit≤ tt)
    (check 8 (not (eqb (get_or rest (second / 16) 0) (sum_of (first ∷ second ∷ take (second / 16) rest)))) 5 _ (lit≤ tt) tt)))

length_refusals : {M : Type 0} (n : ℕ) (payload : List ℕ) (m : M) → AtMost 8 (of_length n payload m)
length_refusals n payload m = check 8 (not (eqb (length payload) n)) 7 _ (lit≤ tt) tt

poll_refusals : (payload : List ℕ) → AtMost 8 (as_poll payload)
poll_refusals [] = lit≤ tt
poll_refusals (start ∷ []) = lit≤ tt
poll_refusals (start ∷ count ∷ []) = check 8 (not (poll_allowed start count)) 8 _ (lit≤ tt) tt
poll_refusals (start ∷ count ∷ b ∷ payload) = lit≤ tt

run_refusals : {M : Type 0} (made : ℕ → List ℕ → M) (payload : List ℕ) → AtMost 8 (as_run made payload)
run_refusals made [] = lit≤ tt
run_refusals made (start ∷ values) =
    check 8 (not (within 1 14 (length values))) 7 _ (lit≤ tt) (check 8 (not (run_allowed start (length values))) 8 _ (lit≤ tt) tt)

group_refusals : (type : Group → ℕ) (kind : ℕ) → AtMost 8 (group_of type kind)
group_refusals type kind =
    either 8 (eqb kind (type First)) _ _ tt (either 8 (eqb kind (type Second)) _ _ tt (either 8 (eqb kind (type Third)) _ _ tt (lit≤ tt)))

reply_refusals : (habit : Habit) (polled : Group) (kind : ℕ) → AtMost 8 (replied_group habit polled kind)
reply_refusals Numbered polled kind = group_refusals (reply_type Numbered) kind
reply_refusals Printed polled kind = either 8 (eqb kind 3) _ _ tt (lit≤ tt)

message_refusals : (end : End) (known : Known end) (kind : ℕ) (payload : List ℕ) → AtMost 8 (as_message_by end known kind payload)
unfolding as_message_by
message_refusals Thermostat known kind payload =
    either 8 (eqb kind 0) _ _ (poll_refusals payload)
    (either 8 (eqb kind 1) _ _ (run_refusals set_from payload)
    (further 8 (group_of poll_type kind) _ (group_refusals poll_type kind) (λ g. length_refusals 0 payload _)))
message_refusals Host (habit, polled) kind payload =
    either 8 (eqb kind 0) _ _ (length_refusals 0 payload _)
    (either 8 (eqb kind 1) _ _ (length_refusals 0 payload _)
    (either 8 (eqb kind 2) _ _ (run_refusals data_from payload)
    (further 8 (replied_group habit polled kind) _ (reply_refusals habit polled kind) (λ g. length_refusals (reply_length g) payload _))))

ended_refusals : (first second start : ℕ) (rest : List ℕ) (n : ℕ) → AtMost 8 (ended first second start rest n)
ended_refusals first second start rest n =
    check 8 (ltb most_characters n) 8 _ (lit≤ tt)
    (check 8 (ltb (length rest) (n + 2)) 1 _ (lit≤ tt)
    (check 8 (ltb (n + 2) (length rest)) 4 _ (lit≤ tt)
    (check 8 (not (eqb (get_or rest (n + 1) 0) (sum_of (first ∷ second ∷ start ∷ take (n + 1) rest)))) 5 _ (lit≤ tt)
    (check 8 (not (are_characters (take n rest))) 8 _ (lit≤ tt) tt))))

text_refusals : (end : End) (s : List ℕ) → AtMost 8 (read_text end s)
unfolding read_text
text_refusals end [] = lit≤ tt
text_refusals end (first ∷ []) = check 8 (not (directed end first)) 2 _ (lit≤ tt) (lit≤ tt)
text_refusals end (first ∷ second ∷ []) = check 8 (not (directed end first)) 2 _ (lit≤ tt) (lit≤ tt)
text_refusals end (first ∷ second ∷ start ∷ rest) =
    let addressed : Text → ℕ × Text = λ t. (address_of end first, t) in
    let n = until_end (take (suc most_characters) rest) in
    check 8 (not (directed end first)) 2 _ (lit≤ tt) (make 8 addressed (ended first second start rest n) (ended_refusals first second start rest n))

pub read_refusals : (end : End) (known : Known end) (s : List ℕ) → AtMost 8 (read_by end known s)
unfolding read_by read_counted_by
read_refusals end known s =
    either 8 (carries_text end s) _ _ (make 8 (addressed_text end) (read_text end s) (text_refusals end s))
    (further 8 (frame end s) _ (frame_refusals end s)
    (λ f. make 8 (addressed_counted end (address_of end f.first)) (as_message_by end known f.kind f.payload) (message_refusals end known f.kind f.payload)))
