use Rattle.thermostat.proofs.Laws.Rules.{states}
use Rattle.thermostat.specs.Registers.{allowed}
use Rattle.thermostat.specs.Parts.{high_of}
use Rattle.thermostat.specs.declared.tables.TheConstants.{HIGH}
use Rattle.thermostat.proofs.tables.high.Goals as goal

pub returns : goal.returns
unfolding allowed
returns c = states high_of HIGH tt c.args.r c.requires
