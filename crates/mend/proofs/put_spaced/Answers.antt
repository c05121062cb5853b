use lib.Seq.{take_all}
use mathlib.Core.Path.{ap}
use native.Mathlib.Omega.{arith}
use Rattle.listing.proofs.Laws.Output.{nothing, joined, same_bytes}
use Rattle.mend.proofs.Laws.Text.{hex_fits, spaced-step}
use Rattle.mend.specs.Parts.{spaced}
use Rattle.mend.proofs.put_spaced.Goals as goal

pub loop-b-init : goal.loop-b-init
unfolding spaced
loop-b-init c = nothing _ _ (omega (arith, c.requires))

pub put_hex-next-requires : goal.put_hex-next-requires
put_hex-next-requires c =
    let l = c.loop-b in
    hex_fits c.args.bytes.now l.b-index c.loop-b-test.true c.requires l.invariant

pub loop-b-preserved : goal.loop-b-preserved
loop-b-preserved c =
    let l = c.loop-b in
    let bytes = c.args.bytes.now in
    let taken = c.loop-b-test.true in
    same_bytes (spaced-step bytes l.b-index taken) (joined l.invariant c.put_hex-next.ensures)

pub returns : goal.returns
returns c =
    let bytes = c.args.bytes.now in
    same_bytes (ap spaced (take_all c.loop-b.b-index bytes c.loop-b-test.false)) c.loop-b.invariant
