use Rattle.std.proofs.Common.{◌≡◌, ◌-◌}
use Rattle.thermostat.specs.Map.{run}
use Rattle.thermostat.specs.Step.{all_listed}
use Rattle.thermostat.proofs.registers.are_listed.Given as goal

-- the registers before this one are listed
abbrev pub invariant-loop-r : goal.invariant-loop-r
invariant-loop-r l = all_listed (run l.start l.count) ≡ all_listed (run l.r (l.r-end - l.r))
