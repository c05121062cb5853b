use mathlib.Core.Bool.{not, ◌&&◌}
use Rattle.thermostat.proofs.Laws.Rules.{flags}
use Rattle.thermostat.specs.Registers.{listed, read_only}
use Rattle.thermostat.specs.declared.tables.TheConstants.{WRITABLE}
use Rattle.thermostat.proofs.tables.is_writable.Goals as goal

pub returns : goal.returns
unfolding listed read_only
returns c = flags (λ r. listed r && not (read_only r)) WRITABLE tt c.args.r c.requires
