use lib.ListN.{length}
use mathlib.Core.Path.{sym, ap}
use native.Mathlib.Omega.{arith}
use Rattle.listing.proofs.Laws.Numbers.{no_run, a_run, at_most_four, noise-length}
use Rattle.listing.proofs.text.run_size.Goals as goal

pub returns-then-count-eq0 : goal.returns-then-count-eq0
returns-then-count-eq0 c = sym (ap length (no_run c.args.offset c.args.count c.if-count-eq0.true))

pub overflow_add-result : goal.overflow_add-result
overflow_add-result c =
    let a = c.args in
    omega (arith, at_most_four a.offset c.requires.offset_bound, at_most_four a.count c.requires.count_bound)

pub overflow_add-result-2 : goal.overflow_add-result-2
overflow_add-result-2 c =
    let a = c.args in
    omega (arith, at_most_four a.offset c.requires.offset_bound, at_most_four a.count c.requires.count_bound)

pub returns : goal.returns
returns c =
    let a = c.args in
    omega (arith, noise-length a.offset a.count, ap length (a_run a.offset a.count c.if-count-eq0.false))
