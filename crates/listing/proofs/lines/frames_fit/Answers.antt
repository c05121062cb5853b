use Prim.Native.Nat.{ℕ, ◌*◌}
use borrow.Author.Tests.{le-leb}
use lib.Dec.{leb}
use lib.ListN.{length}
use mathlib.Core.Path.{sym, ap, ◌∙◌}
use native.Mathlib.Omega.{arith}
use Rattle.listing.proofs.Laws.FramesText.{frames_bound}
use Rattle.listing.specs.Parts.{frames_text}
use Rattle.listing.proofs.lines.frames_fit.Goals as goal

pub returns-then-found-room : goal.returns-then-found-room
returns-then-found-room c =
    let a = c.args in
    le-leb (37 * length a.found.now) a.room c.if-found-room.true ∙ sym (le-leb (length (frames_text a.from a.found.now)) a.room (omega (arith, c.if-found-room.true, frames_bound a.from a.found.now c.requires.within)))

pub returns-else-found-room : goal.returns-else-found-room
returns-else-found-room c = ap (λ (n : ℕ). leb n c.args.room) c.frames_size.ensures
