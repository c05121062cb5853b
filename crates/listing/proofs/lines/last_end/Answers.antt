use mathlib.Core.Path.{sym, ◌∙◌}
use native.Mathlib.Omega.{arith}
use Rattle.listing.proofs.Laws.FramesText.{unused, last_none, last_some}
use Rattle.listing.proofs.lines.last_end.Goals as goal

pub returns-in-empty : goal.returns-in-empty
returns-in-empty c = sym (last_none c.args.from c.args.found.now (omega arith))

pub returns-in-len1-up : goal.returns-in-len1-up
returns-in-len1-up c = c.end.ensures ∙ sym (last_some c.args.from c.args.found.now unused c.in-len1-up.len_at_least)
