use Prim.Native.Nat.{ℕ}
use lib.ListN.{length}
use mathlib.Core.Path.{ap}
use native.Mathlib.Omega.{arith}
use Rattle.listing.proofs.Laws.Numbers.{at_most_four, frame-length}
use Rattle.listing.specs.Text.{number}
use Rattle.listing.proofs.text.frame_size.Goals as goal

pub overflow_add-result : goal.overflow_add-result
overflow_add-result c = omega (arith, at_most_four c.from.result (omega arith), at_most_four c.from-2.result (omega arith))

pub overflow_add-result-2 : goal.overflow_add-result-2
overflow_add-result-2 c = omega (arith, at_most_four c.from.result (omega arith), at_most_four c.from-2.result (omega arith), at_most_four c.from-3.result (omega arith))

pub overflow_add-result-3 : goal.overflow_add-result-3
overflow_add-result-3 c = omega (arith, at_most_four c.from.result (omega arith), at_most_four c.from-2.result (omega arith), at_most_four c.from-3.result (omega arith))

pub returns : goal.returns
returns c =
    let f = c.args.frame in
    omega (
      arith,
      frame-length f.offset f.count f.kind,
      ap (λ (n : ℕ). length (number n)) c.from.ensures,
      ap (λ (n : ℕ). length (number n)) c.from-2.ensures,
      ap (λ (n : ℕ). length (number n)) c.from-3.ensures,
    )
