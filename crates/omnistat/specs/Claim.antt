-- Document 02, K9: what holds of habits and polled groups, for all byte strings and numbers. That reading and writing undo each other with
-- either habit, whatever was polled, is a part of condition 2 (`Condition2` in crate acceptance); here, of the calls by their numbers.
use Rattle.std.specs.Prelude.{ℕ, ◌<◌, ◌≡◌, true, false, List, [], ◌∷◌, ◌⊎◌, length}
use Rattle.answer.specs.Answer.{refused, accepted}
use Rattle.omnistat.specs.declared.frame.End.TheVariants.{Host}
use Rattle.omnistat.specs.declared.group.Group.{Group}
use Rattle.omnistat.specs.declared.habit.Habit.TheVariants.{Numbered, Printed}
use Rattle.omnistat.specs.Register.{within}
use Rattle.omnistat.specs.Group.{reply_type, reply_length, group_at}
use Rattle.omnistat.specs.Frame.{Frame, frame}
use Rattle.omnistat.specs.Message.{Known, Counted, group, of_length, as_message_by, body_by}
use Rattle.omnistat.specs.Omnistat.{Message, counted, addressed_counted, read_by, read, bytes_to, write_bytes_by, write_bytes, write_by, write}
use Rattle.omnistat.specs.Answer.{fields_by}
use Rattle.omnistat.specs.Host.{known_at, read_at_host, write_to_host, write_group_to_host}

-- a type that no group's reply has with either habit
abbrev pub OtherType : ℕ → Type 0
OtherType kind = (kind < 3) ⊎ (5 < kind)

-- all three calls answer 8, whatever they are given besides
pub record All8 (habit polled : ℕ) : Type 0 where
  pub read : (s : List ℕ) → read_at_host habit polled s ≡ refused 8
  pub write : (number kind : ℕ) (d : List ℕ) → write_to_host habit polled number kind d ≡ refused 8
  pub write-group : (number g : ℕ) (values : List ℕ) → write_group_to_host habit polled number g values ≡ refused 8

-- bytes are read as this counted message of thermostat `number`: by the reader with what is known, and by the call with these numbers, which
-- answers its fields
pub record ReadAs (habit polled number : ℕ) (known : Known Host) (c : Counted Host) (s : List ℕ) : Type 0 where
  pub named : known_at habit polled ≡ accepted known
  pub message : read_by Host known s ≡ accepted (addressed_counted Host number c)
  pub numbers : read_at_host habit polled s ≡ accepted (fields_by Host known (addressed_counted Host number c))

pub record Habits : Type 0 where
  -- as printed, type 3 carries the polled group, with as many values as it has; types 4 and 5 are unknown
  pub printed_3 : (polled : Group) (d : List ℕ) → as_message_by Host (Printed, polled) 3 d ≡ of_length (reply_length polled) d (group polled d)
  pub printed_4 : (polled : Group) (d : List ℕ) → as_message_by Host (Printed, polled) 4 d ≡ refused 6
  pub printed_5 : (polled : Group) (d : List ℕ) → as_message_by Host (Printed, polled) 5 d ≡ refused 6
  pub printed_fits : (polled : Group) (number : ℕ) (values : List ℕ) → length values ≡ reply_length polled
      → write_by Host (Printed, polled) number (counted (group polled values)) ≡ bytes_to Host number 3 values
  pub printed-group : (polled : Group) (s : List ℕ) (number : ℕ) (g : Group) (values : List ℕ)
      → read_by Host (Printed, polled) s ≡ accepted (addressed_counted Host number (group g values)) → (g ≡ polled) × (length values ≡ reply_length polled)
  -- by number, each group's type carries it, with as many values as it has
  pub numbered_types : (polled g : Group) (d : List ℕ) → as_message_by Host (Numbered, polled) (reply_type Numbered g) d ≡ of_length (reply_length g) d (group g d)
  pub numbered_fits : (polled g : Group) (number : ℕ) (values : List ℕ) → length values ≡ reply_length g
      → write_by Host (Numbered, polled) number (counted (group g values)) ≡ bytes_to Host number (reply_type Numbered g) values
  -- and the polled group decides nothing, so that no polled number of 1 to 3 does
  pub whatever_read : (s : List ℕ) (p q : Group) → read_by Host (Numbered, p) s ≡ read_by Host (Numbered, q) s
  pub whatever_write_bytes : (number kind : ℕ) (d : List ℕ) (p q : Group) → write_bytes_by Host (Numbered, p) number kind d ≡ write_bytes_by Host (Numbered, q) number kind d
  pub whatever_write : (number : ℕ) (m : Message Host) (p q : Group) → write_by Host (Numbered, p) number m ≡ write_by Host (Numbered, q) number m
  pub numbered-read : (p q : ℕ) (s : List ℕ) → within 1 3 p ≡ true → within 1 3 q ≡ true → read_at_host 0 p s ≡ read_at_host 0 q s
  pub numbered-write : (p q number kind : ℕ) (d : List ℕ) → within 1 3 p ≡ true → within 1 3 q ≡ true → write_to_host 0 p number kind d ≡ write_to_host 0 q number kind d
  pub numbered-group : (p q number g : ℕ) (values : List ℕ) → within 1 3 p ≡ true → within 1 3 q ≡ true
      → write_group_to_host 0 p number g values ≡ write_group_to_host 0 q number g values
  -- with either habit, every other message is read and written as before, a text too
  pub as_before : (known : Known Host) (s : List ℕ) → ((f : Frame) → frame Host s ≡ accepted f → OtherType f.kind) → read_by Host known s ≡ read Host s
  pub bytes_as_before : (known : Known Host) (number kind : ℕ) (d : List ℕ) → OtherType kind → write_bytes_by Host known number kind d ≡ write_bytes Host number kind d
  pub write_as_before : (known : Known Host) (number : ℕ) (m : Message Host) → ((g : Group) (values : List ℕ) → m ≡ counted (group g values) → ⊥)
      → write_by Host known number m ≡ write Host number m
  -- to write as printed: 7 where the values do not fit the polled group, then 8 for another group
  pub unfitting : (polled g : Group) (number : ℕ) (values : List ℕ) → (length values ≡ reply_length polled → ⊥)
      → write_by Host (Printed, polled) number (counted (group g values)) ≡ refused 7
  pub not_polled : (polled g : Group) (number : ℕ) (values : List ℕ) → length values ≡ reply_length polled → (g ≡ polled → ⊥)
      → write_by Host (Printed, polled) number (counted (group g values)) ≡ refused 8
  -- another habit, or a group outside 1 to 3, polled or to write, is 8 before all else
  pub no_habit : (habit polled : ℕ) → 1 < habit → All8 habit polled
  pub no_polled_group : (habit polled : ℕ) → within 1 3 polled ≡ false → All8 habit polled
  pub no_group : (habit polled number g : ℕ) (values : List ℕ) → within 1 3 g ≡ false → write_group_to_host habit polled number g values ≡ refused 8
  -- what a call writes, the reading call with the same habit and polled group reads as the same message; what is read as a counted message, the
  -- writing call writes again by its type and data bytes
  pub bytes_back : (habit polled number kind : ℕ) (d s : List ℕ) → write_to_host habit polled number kind d ≡ accepted s
      → (known : Known Host) × (c : Counted Host) × (as_message_by Host known kind d ≡ accepted c) × ReadAs habit polled number known c s
  pub group_back : (habit polled number g : ℕ) (values s : List ℕ) → write_group_to_host habit polled number g values ≡ accepted s
      → (known : Known Host) × (carried : Group) × (group_at g ≡ accepted carried) × ReadAs habit polled number known (group carried values) s
  pub read_back : (habit polled number : ℕ) (known : Known Host) (c : Counted Host) (s : List ℕ) → known_at habit polled ≡ accepted known
      → read_by Host known s ≡ accepted (addressed_counted Host number c)
      → write_to_host habit polled number (body_by Host known c).kind (body_by Host known c).payload ≡ accepted s
  -- polled 3 and group 1 with six values is 7; polled 1 and group 2 with six values is 8; group 2 of thermostat 1 with each habit
  pub seven : (number a b c d e f : ℕ) → write_group_to_host 1 3 number 1 (a ∷ b ∷ c ∷ d ∷ e ∷ f ∷ []) ≡ refused 7
  pub eight : (number a b c d e f : ℕ) → write_group_to_host 1 1 number 2 (a ∷ b ∷ c ∷ d ∷ e ∷ f ∷ []) ≡ refused 8
  pub as_numbered : write_group_to_host 0 2 1 2 (1 ∷ 2 ∷ 3 ∷ 4 ∷ 5 ∷ 6 ∷ []) ≡ accepted (0x81 ∷ 0x64 ∷ 1 ∷ 2 ∷ 3 ∷ 4 ∷ 5 ∷ 6 ∷ 0xFA ∷ [])
  pub as_printed : write_group_to_host 1 2 1 2 (1 ∷ 2 ∷ 3 ∷ 4 ∷ 5 ∷ 6 ∷ []) ≡ accepted (0x81 ∷ 0x63 ∷ 1 ∷ 2 ∷ 3 ∷ 4 ∷ 5 ∷ 6 ∷ 0xF9 ∷ [])
