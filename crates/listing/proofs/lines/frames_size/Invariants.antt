use Prim.Native.Nat.{◌+◌}
use lib.ListN.{length, drop}
use mathlib.Core.Path.{◌≡◌}
use Rattle.listing.specs.Parts.{Within, frames_text}
use Rattle.listing.proofs.lines.frames_size.Given as goal

abbrev pub invariant-loop-frame : goal.invariant-loop-frame
invariant-loop-frame l = Within l.at (drop l.frame-index l.found) 4096 × (l.size + length (frames_text l.at (drop l.frame-index l.found)) ≡ length (frames_text l.from l.found))
