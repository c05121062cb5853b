use Prim.Native.Nat.{ℕ, ◌+◌, ◌*◌, ◌<◌, ◌≤◌, ◌-◌}
use lib.ListN.{length}
use mathlib.Core.List.{List}
use mathlib.Core.Path.{◌≡◌}
use Rattle.listing.specs.declared.place.FrameAt.{FrameAt}
use Rattle.listing.specs.Parts.{Stands, Found}
use Rattle.listing.proofs.scan.keep_joined.Given as goal

-- what holds before each frame is kept
pub record Keeping (s : List ℕ) (first : FrameAt) (kept₀ kept : List FrameAt) (taken : FrameAt) (count : ℕ) : Type 0 where
  pub found : Found s kept count taken.offset
  pub stands : Stands s taken
  pub forward : first.offset ≤ taken.offset
  pub same : length kept ≡ length kept₀
  pub long : length s < 5 * (length kept + 1)

abbrev pub invariant-loop-n : goal.invariant-loop-n
invariant-loop-n l = Keeping l.bytes l.fn.first l.initial.found l.found l.taken l.count

abbrev pub decreases-loop-n : goal.decreases-loop-n
decreases-loop-n l = length l.bytes - l.taken.offset
