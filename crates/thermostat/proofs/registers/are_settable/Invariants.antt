use Rattle.std.proofs.Common.{◌≡◌, ◌+◌, drop}
use Rattle.thermostat.specs.Step.{all_settable}
use Rattle.thermostat.proofs.registers.are_settable.Given as goal

-- the registers before this one take their values
abbrev pub invariant-loop-i : goal.invariant-loop-i
invariant-loop-i l = all_settable l.start l.values ≡ all_settable (l.start + l.i) (drop l.i l.values)
