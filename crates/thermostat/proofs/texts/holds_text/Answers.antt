use Rattle.std.proofs.Common.{arith}
use Rattle.thermostat.proofs.Laws.Texts.{text_at, too_many_held, held_within}
use Rattle.thermostat.proofs.texts.holds_text.Goals as goal

pub returns-then-count-le-MOST_CHARACTERS : goal.returns-then-count-le-MOST_CHARACTERS
returns-then-count-le-MOST_CHARACTERS c = grind (arith, c.place-at.ensures, text_at, held_within)

pub returns-else-count-le-MOST_CHARACTERS : goal.returns-else-count-le-MOST_CHARACTERS
returns-else-count-le-MOST_CHARACTERS c = grind (arith, c.place-at.ensures, too_many_held)
