use Prim.Native.Nat.{ℕ}
use lib.Bits.{bit_xor}
use lib.Seq.{take_all}
use mathlib.Core.Path.{sym, ap, ◌∙◌}
use native.Mathlib.Omega.{arith}
use Rattle.crc.proofs.Laws.Parts.{whole}
use Rattle.crc.proofs.Laws.Word.{crc-word}
use Rattle.crc.specs.Crc.{crc}
use Rattle.crc.specs.Parts.{even_part, odd_part}
use Rattle.crc.proofs.crc16.Goals as goal

pub loop-i-init : goal.loop-i-init
loop-i-init c = (omega arith, omega arith, sym c.head-s.ensures ∙ sym (whole c.head-s.result))

pub eight-w-requires : goal.eight-w-requires
eight-w-requires c = omega arith

pub overflow_add-i : goal.overflow_add-i
overflow_add-i c = omega arith

pub loop-i-smaller : goal.loop-i-smaller
loop-i-smaller c = omega arith

pub loop-i-preserved : goal.loop-i-preserved
loop-i-preserved c =
    let s = c.args.bytes.now in
    let all = c.loop-i.all in (
      omega arith,
      omega arith,
      crc-word s (λ j. (c.type_inv.bytes j).fits) c.loop-i.i c.loop-i.s all c.advance.result (omega arith)
          c.loop-i.invariant.2 c.advance.ensures
          ∙ ap (λ (w : ℕ). bit_xor (even_part (bit_xor c.advance.result w)) (odd_part (bit_xor all w))) (sym c.eight-w.ensures),
    )

pub returns : goal.returns
returns c =
    let s = c.args.bytes.now in
    c.finish.ensures ∙ sym c.loop-i.invariant.2 ∙ ap crc (take_all c.loop-i.i s (omega arith))
