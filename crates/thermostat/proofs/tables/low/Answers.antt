use Rattle.thermostat.proofs.Laws.Rules.{states}
use Rattle.thermostat.specs.Registers.{allowed}
use Rattle.thermostat.specs.Parts.{low_of}
use Rattle.thermostat.specs.declared.tables.TheConstants.{LOW}
use Rattle.thermostat.proofs.tables.low.Goals as goal

pub returns : goal.returns
unfolding allowed
returns c = states low_of LOW tt c.args.r c.requires
