use native.Mathlib.Omega.{arith}
use Rattle.message.proofs.Laws.Lists.{two_bits_lem}
use Rattle.message.proofs.item.two_bits.Goals as goal

pub returns : goal.returns
returns c = two_bits_lem c.args.b c.args.k (omega arith) c.requires
