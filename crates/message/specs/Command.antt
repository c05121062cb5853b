-- Document 01, "Omni-Link messages", type 0F: commands and their durations.
use Rattle.std.specs.Prelude.{ℕ, ◌-◌, Bool, cond, not, ◌&&◌, List, eqb, ltb, leb, length, get_or}
use Rattle.answer.specs.Answer.{Outcome, accepted, refuse_if}
use Rattle.message.specs.Lists.{word_of}
use Rattle.message.specs.declared.command.Duration.{Duration}
use Rattle.message.specs.declared.command.Duration.TheVariants.{None, Seconds, Minutes, Hours}
use Rattle.message.specs.declared.command.Command.{Command}
use Rattle.message.specs.declared.command.Command.TheVariants.{Off, On, AllOff, AllOn, Level, Decrement, Increment, SetCounter}

-- the P1 of a duration: 0, 1-99, 101-199, 201-218
abbrev pub duration_listed : ℕ → Bool
duration_listed p = not (eqb p 100) && not (eqb p 200) && ltb p 219

-- a duration: none, seconds, minutes or hours
abbrev pub duration_of : ℕ → Duration
duration_of p = cond (eqb p 0) None (cond (ltb p 100) (Seconds p) (cond (ltb p 200) (Minutes (p - 100)) (Hours (p - 200))))

-- 2 and 3: P1 0, any P2; the others P2 at least 1. 0 and 1: a duration. 9: P1 0-100. 10 and 11: P1 0. 12: any P1. No others
unfoldable pub command_listed : ℕ → ℕ → ℕ → Bool
command_listed number p1 p2 =
    cond (eqb number 2) (eqb p1 0)
    (cond (eqb number 3) (eqb p1 0)
    (leb 1 p2
    && cond (ltb number 2) (duration_listed p1)
    (cond (eqb number 9) (leb p1 100)
    (cond (eqb number 10) (eqb p1 0)
    (cond (eqb number 11) (eqb p1 0)
    (eqb number 12))))))

-- commands 0 (off), 1 (on), 2, 3, 9, 10, 11 and 12, in document 000's words
unfoldable pub command_of : ℕ → ℕ → ℕ → Command
command_of number p1 p2 =
    cond (eqb number 0) (Off (duration_of p1) p2)
    (cond (eqb number 1) (On (duration_of p1) p2)
    (cond (eqb number 2) (AllOff p2)
    (cond (eqb number 3) (AllOn p2)
    (cond (eqb number 9) (Level p1 p2)
    (cond (eqb number 10) (Decrement p2)
    (cond (eqb number 11) (Increment p2)
    (SetCounter p1 p2)))))))

-- outside the list 8
unfoldable pub checked_command : ℕ → ℕ → ℕ → Outcome Command
checked_command number p1 p2 = refuse_if (not (command_listed number p1 p2)) 8 (accepted (command_of number p1 p2))

-- command: L=5; command, P1, P2 high, P2 low
unfoldable pub read_command : List ℕ → Outcome Command
read_command d =
    refuse_if (not (eqb (length d) 4)) 7 (checked_command (get_or d 0 0) (get_or d 1 0) (word_of (get_or d 2 0) (get_or d 3 0)))
