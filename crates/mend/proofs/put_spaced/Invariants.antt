use lib.ListN.{take}
use Rattle.listing.specs.Parts.{Put}
use Rattle.mend.specs.Parts.{spaced}
use Rattle.mend.proofs.put_spaced.Given as goal

abbrev pub invariant-loop-b : goal.invariant-loop-b
invariant-loop-b l = Put l.at (spaced (take l.b-index l.bytes)) l.initial.out l.out l.next
