use Prim.Native.Nat.{ℕ, ◌+◌, ◌-◌, ◌*◌, ◌/◌, ◌%◌, ◌^◌}
use lib.ListN.{length, take}
use lib.Seq.{take_all}
use mathlib.Core.Path.{◌≡◌, ap, ap₂, ◌∙◌}
use native.Mathlib.Omega.{arith}
use Rattle.crc.proofs.Laws.Word.{head_more, crc_head, first_bytes, four_read}
use Rattle.crc.specs.Crc.{crc}
use Rattle.crc.specs.Parts.{word, turns}
use Rattle.crc.proofs.word.head.Goals as goal

pub returns-then-bytes-lt4 : goal.returns-then-bytes-lt4
returns-then-bytes-lt4 c =
    let s = c.args.bytes.now in
    let k = length s % 4 in
    let all : take k s ≡ s = take_all k s (omega arith) in
    ap (turns 64) (c.highest-s.ensures ∙ first_bytes s k (omega arith))
    ∙ crc_head s (λ j. (c.type_inv.bytes j).fits) k (omega arith) (omega arith)
    ∙ ap crc all

pub returns : goal.returns
returns c =
    let s = c.args.bytes.now in
    let k = length s % 4 in
    let e : k + 4 ≡ length s = omega arith in
    let all : take (length s) s ≡ s = take_all (length s) s (omega arith) in
    ap (turns 64)
    (ap₂ (λ (h w : ℕ). h / 0x100000000 + w * 0x100000000) (c.highest-s.ensures ∙ first_bytes s k (omega arith))
    (c.from.ensures ∙ c.from_le_bytes-four.ensures ∙ four_read s k)
    ∙ head_more s 4 k (omega arith)
    ∙ ap (λ (n : ℕ). word n s 0 * 2 ^ (64 - 8 * n)) e)
    ∙ crc_head s (λ j. (c.type_inv.bytes j).fits) (length s) (omega arith) (omega arith)
    ∙ ap crc all
