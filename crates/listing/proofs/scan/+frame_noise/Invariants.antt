-- The bytes that remain fall: twice their count for `frame`, and one more for `noise`, which hands over where it stands.
use Rattle.std.proofs.Common.{◌+◌, ◌-◌, ◌*◌, length}
use Rattle.listing.proofs.scan.+frame_noise.Given as goal

abbrev pub decreases-frame : goal.decreases-frame
decreases-frame l = (length l.bytes.now - l.first.offset) * 2

abbrev pub decreases-noise : goal.decreases-noise
decreases-noise l = (length l.bytes.now - l.from) * 2 + 1
