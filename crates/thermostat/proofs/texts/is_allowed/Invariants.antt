use Rattle.std.proofs.Common.{◌≡◌}
use Rattle.thermostat.proofs.Laws.Texts.{allowed_from}
use Rattle.thermostat.specs.Texts.{store_allowed}
use Rattle.thermostat.proofs.texts.is_allowed.Given as goal

-- the texts before this register's are texts
abbrev pub invariant-loop-r : goal.invariant-loop-r
invariant-loop-r l = store_allowed l.texts ≡ allowed_from l.texts l.r
