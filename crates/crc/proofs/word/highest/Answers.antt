use Prim.Native.Nat.{ℕ, ◌+◌, ◌-◌, ◌*◌, ◌^◌, ◌/◌}
use lib.ListN.{length}
use mathlib.Core.Path.{◌≡◌, refl, sym, ap, ap₂, ◌∙◌}
use native.Mathlib.Omega.{arith}
use Rattle.crc.proofs.Laws.Word.{word_one, head_more}
use Rattle.crc.specs.Parts.{word}
use Rattle.crc.proofs.word.highest.Goals as goal

pub loop-byte-init : goal.loop-byte-init
unfolding word
loop-byte-init c = (omega arith, refl)

pub overflow_mul-s : goal.overflow_mul-s
overflow_mul-s c = omega (arith, c.type_inv.bytes c.loop-byte.byte-index)

pub overflow_add-s : goal.overflow_add-s
overflow_add-s c = omega (arith, c.type_inv.bytes c.loop-byte.byte-index)

pub loop-byte-preserved : goal.loop-byte-preserved
loop-byte-preserved c =
    let bytes = c.args.bytes.now in
    let i = c.loop-byte.byte-index in (
      omega (arith, c.type_inv.bytes i),
      ap₂ (λ (s b : ℕ). s / 0x100 + b * 0x100000000000000) c.loop-byte.invariant.1 (c.from.ensures ∙ sym (word_one bytes i))
          ∙ head_more bytes 1 i (omega arith),
    )

pub returns : goal.returns
returns c =
    let bytes = c.args.bytes.now in
    let e : c.loop-byte.byte-index ≡ length bytes = omega arith in
    c.loop-byte.invariant.1 ∙ ap (λ (i : ℕ). word i bytes 0 * 2 ^ (64 - 8 * i)) e
