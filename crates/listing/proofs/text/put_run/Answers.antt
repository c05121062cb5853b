use mathlib.Core.Path.{sym}
use native.Mathlib.Omega.{arith}
use Rattle.listing.proofs.Laws.Numbers.{no_run, a_run}
use Rattle.listing.proofs.Laws.Output.{nothing, same_bytes}
use Rattle.listing.proofs.text.put_run.Goals as goal

pub returns-then-count-eq0 : goal.returns-then-count-eq0
returns-then-count-eq0 c =
    let a = c.args in
    let none = no_run a.offset a.count c.if-count-eq0.true in
    same_bytes (sym none) (nothing a.out.now a.at (omega (arith, c.requires.count_in_bounds)))

pub put_noise-requires : goal.put_noise-requires
put_noise-requires c =
    let a = c.args in record {
      offset_bound = c.requires.offset_bound;
      count_bound = c.requires.count_bound;
      count_in_bounds = rw (a_run a.offset a.count c.if-count-eq0.false) at c.requires.count_in_bounds;
    }

pub returns : goal.returns
returns c =
    let a = c.args in
    same_bytes (sym (a_run a.offset a.count c.if-count-eq0.false)) c.put_noise.ensures
