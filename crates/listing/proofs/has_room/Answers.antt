use Prim.Native.Nat.{ℕ, ◌+◌, ◌*◌}
use borrow.Author.Tests.{le-leb}
use lib.Dec.{leb}
use lib.ListN.{length}
use mathlib.Core.Path.{sym, ap, ◌∙◌}
use native.Mathlib.Omega.{arith}
use Rattle.listing.specs.Parts.{found_text}
use Rattle.listing.proofs.has_room.Goals as goal

pub returns-then-len-room : goal.returns-then-len-room
returns-then-len-room c =
    let a = c.args in
    le-leb (8 * a.len + 25) a.room c.if-len-room.true ∙ sym (le-leb (length (found_text 0 a.found.now a.len)) a.room (omega (arith, c.if-len-room.true, c.requires.len_len_bound)))

pub returns-else-len-room : goal.returns-else-len-room
returns-else-len-room c = ap (λ (n : ℕ). leb n c.args.room) c.text_size.ensures
