use mathlib.Core.Path.{◌∙◌}
use Rattle.crc.proofs.Laws.Word.{eight_read}
use Rattle.crc.proofs.word.eight.Goals as goal

pub returns : goal.returns
returns c = c.from_le_bytes.ensures ∙ eight_read c.args.b.now c.args.i
