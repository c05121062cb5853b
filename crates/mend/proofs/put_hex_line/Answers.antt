use Prim.Native.Nat.{◌-◌}
use lib.ListN.{length, length-take}
use native.Mathlib.Omega.{arith}
use Rattle.listing.proofs.Laws.Output.{joined, same_bytes}
use Rattle.mend.proofs.Laws.Text.{hex_fits, hex_line_split}
use Rattle.mend.proofs.put_hex_line.Goals as goal

pub put_spaced-next-requires : goal.put_spaced-next-requires
put_spaced-next-requires c = simp length-take (omega arith)

pub put_hex-requires : goal.put_hex-requires
put_hex-requires c =
    let put = c.put_spaced-next in
    let s = c.args.bytes.now in
    hex_fits s (length s - 1) ((omega (arith, c.requires.bytes_nonzero, c.requires.bytes_in_bounds))) c.requires.bytes_in_bounds put.ensures

pub returns : goal.returns
returns c =
    let put = c.put_spaced-next in
    same_bytes (hex_line_split c.args.bytes.now c.requires.bytes_nonzero) (joined put.ensures c.put_hex.ensures)
