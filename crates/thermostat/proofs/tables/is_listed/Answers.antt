use Rattle.thermostat.proofs.Laws.Rules.{flags}
use Rattle.thermostat.specs.Registers.{listed}
use Rattle.thermostat.specs.declared.tables.TheConstants.{LISTED}
use Rattle.thermostat.proofs.tables.is_listed.Goals as goal

pub returns : goal.returns
unfolding listed
returns c = flags listed LISTED tt c.args.r c.requires
