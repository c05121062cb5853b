use mathlib.Core.Path.{sym, ap, ◌∙◌}
use Rattle.answer.proofs.Laws.Exit.{passed_up}
use Rattle.tally.specs.Total.{exact_sum}
use Rattle.tally.proofs.Laws.Total.{next_when}
use Rattle.tally.proofs.next_total.Goals as goal

pub returns-in_err-word : goal.returns-in_err-word
returns-in_err-word c =
    passed_up _ _ c.from_residual.ensures.1 ∙ sym (next_when _ _ _ (sym c.in_err-word.ensures))

pub returns : goal.returns
returns c =
    c.exact_sum.ensures
    ∙ ap (exact_sum c.args.total) c.convert.ensures
    ∙ sym (next_when _ _ _ (sym c.in_ok-word.ensures))
