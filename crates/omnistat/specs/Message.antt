-- Document 01, "Omnistat2 messages", and document 02, K9: messages of counted length, and what a type and its data bytes say. Refusals in the
-- order 6, 7, 8.
use Rattle.std.specs.Prelude.{ℕ, Bool, true, not, cond, List, [], ◌∷◌, length, eqb}
use Rattle.answer.specs.Answer.{Outcome, refused, accepted, refuse_if, and_then}
use Rattle.omnistat.specs.Register.{within, run_allowed, poll_allowed}
use Rattle.omnistat.specs.Group.{poll_type, reply_type, reply_length, group_of, replied_group, same_group}
use Rattle.omnistat.specs.declared.group.Group.{Group}
use Rattle.omnistat.specs.declared.group.Group.TheVariants.{First}
use Rattle.omnistat.specs.declared.habit.Habit.{Habit}
use Rattle.omnistat.specs.declared.habit.Habit.TheVariants.{Numbered, Printed}
use Rattle.omnistat.specs.declared.frame.End.{End}
use Rattle.omnistat.specs.declared.frame.End.TheVariants.{Thermostat, Host}

-- what the host sends: a poll of count registers from a start, a set of registers from a start to values, a poll of a group
pub data Request : Type 0 where
  poll : ℕ → ℕ → Request
  set_from : ℕ → List ℕ → Request
  poll_group : Group → Request

-- what a thermostat replies: acknowledge, negative, the contents of registers from a start, those of a group
pub data Reply : Type 0 where
  acknowledge : Reply
  negative : Reply
  data_from : ℕ → List ℕ → Reply
  group : Group → List ℕ → Reply

-- what has a counted length at each end
abbrev pub Counted : End → Type 0
Counted Thermostat = Request
Counted Host = Reply

-- what an end knows of the other: the thermostat nothing; the host the habit of the thermostat, and the group last polled
abbrev pub Known : End → Type 0
Known Thermostat = Unit {0}
Known Host = Habit × Group

-- with the numbered habit, as document 01 has it; which group the host polled last then decides nothing
abbrev pub numbered : (end : End) → Known end
numbered Thermostat = tt
numbered Host = (Numbered, First)

-- n data bytes, else 7
abbrev pub of_length : {M : Type 0} → ℕ → List ℕ → M → Outcome M
of_length n payload m = refuse_if (not (eqb (length payload) n)) 7 (accepted m)

-- N=2, else 7: start, and a count that is allowed there, else 8
abbrev pub as_poll : List ℕ → Outcome Request
as_poll [] = refused 7
as_poll (start ∷ []) = refused 7
as_poll (start ∷ count ∷ []) = refuse_if (not (poll_allowed start count)) 8 (accepted (poll start count))
as_poll (start ∷ count ∷ b ∷ payload) = refused 7

-- N=2-15, else 7: start and values, of a run that is allowed, else 8
abbrev pub as_run : {M : Type 0} → (ℕ → List ℕ → M) → List ℕ → Outcome M
as_run make [] = refused 7
as_run make (start ∷ values) =
    refuse_if (not (within 1 14 (length values))) 7
    (refuse_if (not (run_allowed start (length values))) 8
    (accepted (make start values)))

-- from the host: poll, set, the polls of the groups. Replies: acknowledge, negative, data, the groups. Every other type is 6
unfoldable pub as_message_by : (end : End) → Known end → ℕ → List ℕ → Outcome (Counted end)
as_message_by Thermostat known kind payload =
    cond (eqb kind 0) (as_poll payload)
    (cond (eqb kind 1) (as_run set_from payload)
    (and_then (group_of poll_type kind) (λ g. of_length 0 payload (poll_group g))))
as_message_by Host (habit, polled) kind payload =
    cond (eqb kind 0) (of_length 0 payload acknowledge)
    (cond (eqb kind 1) (of_length 0 payload negative)
    (cond (eqb kind 2) (as_run data_from payload)
    (and_then (replied_group habit polled kind) (λ g. of_length (reply_length g) payload (group g payload)))))

abbrev pub as_message : (end : End) → ℕ → List ℕ → Outcome (Counted end)
as_message end = as_message_by end (numbered end)

-- what a message carries: its type, its start register, the count of its registers or values, its data bytes; 0 for a start or count
-- that it does not have
pub record Body : Type 0 where
  pub kind : ℕ
  pub start : ℕ
  pub count : ℕ
  pub payload : List ℕ

abbrev pub body : ℕ → ℕ → ℕ → List ℕ → Body
body kind start count payload = record { kind = kind; start = start; count = count; payload = payload }

abbrev pub body_by : (end : End) → Known end → Counted end → Body
body_by Thermostat known (poll start count) = body 0 start count (start ∷ count ∷ [])
body_by Thermostat known (set_from start values) = body 1 start (length values) (start ∷ values)
body_by Thermostat known (poll_group g) = body (poll_type g) 0 0 []
body_by Host known acknowledge = body 0 0 0 []
body_by Host known negative = body 1 0 0 []
body_by Host known (data_from start values) = body 2 start (length values) (start ∷ values)
body_by Host (habit, polled) (group g values) = body (reply_type habit g) 0 (length values) values

abbrev pub body_of : (end : End) → Counted end → Body
body_of end = body_by end (numbered end)

-- whether a message may be written: as printed, of the replies with a group only the polled one's, as which its type would be read; every
-- other message may
abbrev pub is_polled : (end : End) → Known end → Counted end → Bool
is_polled Thermostat known c = true
is_polled Host (Numbered, polled) c = true
is_polled Host (Printed, polled) acknowledge = true
is_polled Host (Printed, polled) negative = true
is_polled Host (Printed, polled) (data_from start values) = true
is_polled Host (Printed, polled) (group g values) = same_group g polled
