use Prim.Native.Nat.{ℕ, ◌+◌, ◌*◌, ◌^◌, ◌<◌}
use lib.Bits.{bit_xor}
use lib.Dec.{lit<}
use mathlib.Core.Bool.{cond}
use mathlib.Core.Path.{sym, ap, ap₂, ◌∙◌, subst}
use native.Mathlib.Omega.{arith}
use Rattle.crc.proofs.Laws.Feed.{turns_below}
use Rattle.crc.proofs.Laws.Fold.{byte_turned}
use Rattle.crc.proofs.Laws.Linear.{left}
use Rattle.crc.proofs.Laws.Word.{crc_two}
use Rattle.crc.specs.Parts.{parity}
use Rattle.crc.proofs.fold.of_01_and.Goals as goal

pub returns : goal.returns
returns c =
    let byte = c.args.byte in
    let bound = c.ranges.byte.fits in
    ap₂ (λ (n first : ℕ). bit_xor (bit_xor first (left 6 n)) (left 7 n)) c.from-n.ensures
    (c.by_parity.ensures ∙ ap (λ (n : ℕ). cond (parity 64 n) 0x5000 0x9001) c.from-n.ensures)
    ∙ byte_turned byte bound
    ∙ crc_two 1 byte (lit< tt) bound

pub overflow_cast-result : goal.overflow_cast-result
overflow_cast-result c =
    let byte = c.args.byte in
    let bound : byte < 2 ^ 8 = c.ranges.byte.fits in
    record {
      fits = subst (λ (r : ℕ). r < 2 ^ 16) (sym (returns c ∙ sym (crc_two 1 byte (lit< tt) bound))) (turns_below 16 (1 + 2 ^ 8 * byte) (omega arith));
    }
