use native.Mathlib.Omega.{arith}
use Rattle.listing.proofs.Laws.Numbers.{at_most_four, end-length}
use Rattle.listing.proofs.text.end_size.Goals as goal

pub overflow_add-result : goal.overflow_add-result
overflow_add-result c = omega (arith, at_most_four c.args.offset c.requires)

pub returns : goal.returns
returns c = omega (arith, end-length c.args.offset)
