use lib.ListN.{get_or}
use Rattle.message.specs.Log.{log_of}
use Rattle.message.proofs.log.log_of.Goals as goal

pub returns : goal.returns
unfolding log_of
returns c =
    let d = c.args.«data».now in
    λ i. record {
      number = get_or d 0 0;
      time_valid = get_or d 1 0;
      month = get_or d 2 0;
      day = get_or d 3 0;
      hour = get_or d 4 0;
      minute = get_or d 5 0;
      event_type = get_or d 6 0;
      parameter_1 = get_or d 7 0;
      parameter_2 = c.word.ensures i;
    }
