use Rattle.listing.proofs.Laws.Output.{joined}
use Rattle.mend.proofs.Laws.Text.{frame_fits}
use Rattle.mend.proofs.put_mended.Goals as goal

pub put_hex_line-requires : goal.put_hex_line-requires
put_hex_line-requires c =
    let put = c.put_place-next in record {
      bytes_nonzero = c.requires.frame_nonzero;
      bytes_in_bounds = frame_fits {place = c.args.place} c.args.frame.now c.requires.place_bound c.requires.frame_in_bounds put.ensures;
    }

pub returns : goal.returns
returns c =
    joined c.put_place-next.ensures c.put_hex_line.ensures
