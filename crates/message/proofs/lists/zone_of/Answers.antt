use Prim.Native.Nat.{◌/◌, ◌%◌}
use lib.Dec.{eqb}
use Rattle.message.proofs.lists.zone_of.Goals as goal

pub returns : goal.returns
returns c =
    λ i. record {
      condition = c.condition_of.ensures i;
      latched_alarm = c.latched_of.ensures i;
      arming = c.arming_of.ensures i;
      unacknowledged_trouble = eqb (c.args.status / 64 % 2) 1;
      loop_reading = c.args.reading;
    }
