-- Document 01, "Omnistat2 messages": the three groups of registers, with the types of their messages; document 02, K9: the two habits that
-- thermostats have in replying.
use Rattle.std.specs.Prelude.{ℕ, Bool, cond, eqb}
use Rattle.answer.specs.Answer.{Outcome, refused, accepted}
use Rattle.omnistat.specs.declared.group.Group.{Group}
use Rattle.omnistat.specs.declared.group.Group.TheVariants.{First, Second, Third}
use Rattle.omnistat.specs.declared.habit.Habit.{Habit}
use Rattle.omnistat.specs.declared.habit.Habit.TheVariants.{Numbered, Printed}

-- the type of the poll of a group
abbrev pub poll_type : Group → ℕ
poll_type First = 2
poll_type Second = 3
poll_type Third = 4

-- the type of the reply with a group: by number, each group has its own; as source document 004 prints it, all have 3
abbrev pub reply_type : Habit → Group → ℕ
reply_type Numbered First = 3
reply_type Numbered Second = 4
reply_type Numbered Third = 5
reply_type Printed g = 3

-- how many values the reply with a group has, with either habit
abbrev pub reply_length : Group → ℕ
reply_length First = 6
reply_length Second = 6
reply_length Third = 10

-- the group that has this value, else a refusal
abbrev pub group_by : (n : ℕ) → (Group → ℕ) → ℕ → Outcome Group
group_by n value_of value =
    cond (eqb value (value_of First)) (accepted First)
    (cond (eqb value (value_of Second)) (accepted Second)
    (cond (eqb value (value_of Third)) (accepted Third)
    (refused n)))

-- the group whose message has this type; every other type is 6
abbrev pub group_of : (Group → ℕ) → ℕ → Outcome Group
group_of type kind = group_by 6 type kind

-- the group that a reply of this type carries, with a habit and the group last polled: by number, the one whose type it is; as printed, the
-- one that was polled
abbrev pub replied_group : Habit → Group → ℕ → Outcome Group
replied_group Numbered polled kind = group_of (reply_type Numbered) kind
replied_group Printed polled kind = cond (eqb kind (reply_type Printed polled)) (accepted polled) (refused 6)

-- the host names habits and groups by numbers. 0 is the numbered habit, 1 the printed one, the groups are 1 to 3; any other number is 8
abbrev pub habit_at : ℕ → Outcome Habit
habit_at n = cond (eqb n 0) (accepted Numbered) (cond (eqb n 1) (accepted Printed) (refused 8))

-- the number of a group
abbrev pub group_number : Group → ℕ
group_number First = 1
group_number Second = 2
group_number Third = 3

-- the group with a number
abbrev pub group_at : ℕ → Outcome Group
group_at n = group_by 8 group_number n

-- whether two groups are the same
abbrev pub same_group : Group → Group → Bool
same_group g h = eqb (group_number g) (group_number h)
