use mathlib.Core.Path.{sym}
use Rattle.x10.proofs.Laws.Pattern.{read_short}
use Rattle.x10.proofs.read.Goals as goal

pub returns-then-places-lt-STANDARD : goal.returns-then-places-lt-STANDARD
returns-then-places-lt-STANDARD c = sym (read_short c.args.places.now c.if-places-lt-STANDARD.true)
