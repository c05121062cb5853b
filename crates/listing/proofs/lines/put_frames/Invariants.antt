use Rattle.listing.proofs.Laws.FramesText.{Begun}
use Rattle.listing.proofs.lines.put_frames.Given as goal

abbrev pub invariant-loop-frame : goal.invariant-loop-frame
invariant-loop-frame l = Begun l.found l.from 4096 l.initial.out l.out l.place l.at l.frame-index
