-- Document 02, K9: the calls at the host's end, which name a habit and the group last polled by their numbers. Another habit, and any group
-- outside 1 to 3, is 8, before all else.
use Rattle.std.specs.Prelude.{ℕ, List}
use Rattle.answer.specs.Answer.{Outcome, on_accepted, and_then}
use Rattle.answer.specs.Packed.{Field}
use Rattle.omnistat.specs.declared.frame.End.TheVariants.{Host}
use Rattle.omnistat.specs.Group.{habit_at, group_at}
use Rattle.omnistat.specs.Message.{Known, group}
use Rattle.omnistat.specs.Omnistat.{counted, read_by, write_bytes_by, write_by}
use Rattle.omnistat.specs.Answer.{fields_by}

-- the habit and the polled group
abbrev pub known_at : ℕ → ℕ → Outcome (Known Host)
known_at habit polled = and_then (habit_at habit) (λ h. on_accepted (λ g. (h, g)) (group_at polled))

-- the reader, with its fields for C
abbrev pub read_at_host : ℕ → ℕ → List ℕ → Outcome (List Field)
read_at_host habit polled bytes = and_then (known_at habit polled) (λ known. on_accepted (fields_by Host known) (read_by Host known bytes))

-- the writer of a type number and data bytes
abbrev pub write_to_host : ℕ → ℕ → ℕ → ℕ → List ℕ → Outcome (List ℕ)
write_to_host habit polled number kind payload = and_then (known_at habit polled) (λ known. write_bytes_by Host known number kind payload)

-- the writer of the reply with a group
abbrev pub write_group_to_host : ℕ → ℕ → ℕ → ℕ → List ℕ → Outcome (List ℕ)
write_group_to_host habit polled number g values =
    and_then (known_at habit polled)
    (λ known. and_then (group_at g)
    (λ carried. write_by Host known number (counted (group carried values))))
