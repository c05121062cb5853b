-- Document 01, "Omni-Link messages", type 0E: log entries.
use Rattle.std.specs.Prelude.{ℕ, Bool, not, ◌&&◌, ◌||◌, List, eqb, leb, length, get_or}
use Rattle.answer.specs.Answer.{Outcome, accepted, refuse_if}
use Rattle.message.specs.Lists.{word_of}
use Rattle.message.specs.declared.log.LogEntry.{LogEntry}

-- calendar ranges 1-12, 1-31, 0-23, 0-59
unfoldable pub calendar_listed : ℕ → ℕ → ℕ → ℕ → Bool
calendar_listed month day hour minute = leb 1 month && leb month 12 && leb 1 day && leb day 31 && leb hour 23 && leb minute 59

-- number at least 1; the calendar ranges hold only if the flag is nonzero
unfoldable pub log_listed : LogEntry → Bool
log_listed e = leb 1 e.number && (eqb e.time_valid 0 || calendar_listed e.month e.day e.hour e.minute)

-- number, time-valid flag, month, day, hour, minute, event type, parameter 1, parameter 2 high, low
unfoldable pub log_of : List ℕ → LogEntry
log_of d =
    record {
      number = get_or d 0 0;
      time_valid = get_or d 1 0;
      month = get_or d 2 0;
      day = get_or d 3 0;
      hour = get_or d 4 0;
      minute = get_or d 5 0;
      event_type = get_or d 6 0;
      parameter_1 = get_or d 7 0;
      parameter_2 = word_of (get_or d 8 0) (get_or d 9 0);
    }

-- log entry: L=0B
unfoldable pub read_log : List ℕ → Outcome LogEntry
read_log d = refuse_if (not (eqb (length d) 10)) 7 (refuse_if (not (log_listed (log_of d))) 8 (accepted (log_of d)))
