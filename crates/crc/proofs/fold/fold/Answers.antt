use Rattle.crc.proofs.Laws.Fold.{folded, even_folded, low-folded}
use Rattle.crc.proofs.fold.fold.Goals as goal

pub returns : goal.returns
unfolding folded
returns c = (even_folded c.args.s c.ranges.s.fits, low-folded c.args.s c.ranges.s.fits)
