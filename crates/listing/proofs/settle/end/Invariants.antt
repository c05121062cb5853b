use Prim.Native.Nat.{ℕ, ◌+◌, ◌-◌, ◌*◌, ◌<◌, ◌≤◌}
use lib.ListN.{length, take, drop}
use mathlib.Core.Bool.{false}
use mathlib.Core.List.{List}
use mathlib.Core.Path.{◌≡◌}
use Rattle.listing.specs.declared.place.FrameAt.{FrameAt}
use Rattle.listing.specs.Parts.{Ends}
use Rattle.listing.specs.State.{settled}
use Rattle.listing.proofs.settle.end.Given as goal

-- the frames kept of the places judged
pub record Going (s : List ℕ) (base : ℕ) (found₀ found : List FrameAt) (at n : ℕ) : Type 0 where
  pub ends : (from : ℕ) → from ≤ base → Ends s base from (take n found) at
  pub counted : n ≤ length found
  pub unsettled : at < length s → settled (drop at s) ≡ false
  pub same : length found ≡ length found₀
  pub long : length s < 5 * (length found + 1)

abbrev pub invariant-loop-at : goal.invariant-loop-at
invariant-loop-at l = Going l.bytes l.base l.initial.found l.found l.at l.n

abbrev pub decreases-loop-at : goal.decreases-loop-at
decreases-loop-at l = length l.bytes - l.at
