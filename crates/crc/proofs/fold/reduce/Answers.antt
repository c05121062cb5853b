use Rattle.crc.proofs.Laws.Fold.{reduced, even_reduced}
use Rattle.crc.proofs.fold.reduce.Goals as goal

pub returns : goal.returns
unfolding reduced
returns c = even_reduced c.args.n c.requires
