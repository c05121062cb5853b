use Prim.Native.Nat.{◌-◌}
use native.Mathlib.Omega.{arith}
use Rattle.listing.proofs.Laws.FramesText.{pair_size}
use Rattle.listing.proofs.Laws.Sizes.{run_bound, frame_line}
use Rattle.listing.proofs.lines.pair_size.Goals as goal

pub overflow_add-result : goal.overflow_add-result
overflow_add-result c =
    let a = c.args in
    omega (
      arith,
      c.run_size.ensures,
      c.frame_size.ensures,
      run_bound a.from (c.from-at.result - a.from) (omega arith) (omega arith),
      frame_line a.frame.offset a.frame.count a.frame.kind (omega arith) (omega arith) (omega arith),
    )

pub returns : goal.returns
returns c = let a = c.args in omega (arith, c.run_size.ensures, c.frame_size.ensures, pair_size a.from a.frame _ c.from-at.ensures)
