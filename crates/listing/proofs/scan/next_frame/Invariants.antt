use Rattle.listing.specs.Parts.{Quiet}
use Rattle.listing.proofs.scan.next_frame.Given as goal

abbrev pub invariant-loop-at : goal.invariant-loop-at
invariant-loop-at l = Quiet l.bytes l.from l.at
