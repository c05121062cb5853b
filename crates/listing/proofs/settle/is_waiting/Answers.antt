use Prim.Native.Nat.{◌+◌}
use borrow.Author.Tests.{ltb-true}
use lib.ListN.{length}
use native.Mathlib.Omega.{arith}
use Rattle.listing.proofs.Laws.Settled.{waiting}
use Rattle.listing.proofs.settle.is_waiting.Goals as goal

pub returns-in-len2-up : goal.returns-in-len2-up
returns-in-len2-up c = λ e stops piece is.
    let u = c.args.unread.now in
    waiting u piece stops c.in-len2-up.len_at_least (omega (arith, is, c.from.ensures, ltb-true (length u + c.args.more) (c.from.result + 4) e))
