use Rattle.thermostat.proofs.Laws.Temperature.{computed-celsius}
use Rattle.thermostat.proofs.temperature.celsius.Goals as goal

pub returns : goal.returns
returns c = computed-celsius c.args.byte c.ranges.byte.fits
