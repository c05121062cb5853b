use Prim.Native.Nat.{ℕ, ◌+◌, ◌-◌, ◌*◌, ◌<◌, ◌≤◌}
use lib.ListN.{length, take}
use mathlib.Core.List.{List}
use mathlib.Core.Path.{◌≡◌}
use Rattle.listing.specs.declared.place.FrameAt.{FrameAt}
use Rattle.listing.specs.Parts.{Settles}
use Rattle.listing.proofs.settle.settle.Given as goal

-- the frames kept of the places judged
pub record Going (s : List ℕ) (base : ℕ) (kept₀ kept : List FrameAt) (at count : ℕ) : Type 0 where
  pub settles : (from : ℕ) → from ≤ base → Settles s base from (take count kept) at
  pub counted : count ≤ length kept
  pub same : length kept ≡ length kept₀
  pub long : length s < 5 * (length kept + 1)

abbrev pub invariant-loop-at : goal.invariant-loop-at
invariant-loop-at l = Going l.bytes l.base l.initial.found l.found l.at l.count

abbrev pub decreases-loop-at : goal.decreases-loop-at
decreases-loop-at l = l.limit - l.at
