use Rattle.thermostat.proofs.Laws.Fahrenheit.{times_fits, tenths_fit, tenths}
use Rattle.thermostat.proofs.temperature.fahrenheit_tenths.Goals as goal

pub overflow_mul-result : goal.overflow_mul-result
overflow_mul-result c = times_fits c.args.byte c.ranges.byte.fits

pub overflow_sub-result : goal.overflow_sub-result
overflow_sub-result c = tenths_fit c.args.byte c.ranges.byte.fits

pub returns : goal.returns
returns c = tenths c.args.byte c.ranges.byte.fits
