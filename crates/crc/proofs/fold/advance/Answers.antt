use Prim.Native.Nat.{ℕ, ◌*◌, ◌/◌, ◌^◌}
use mathlib.Core.Path.{◌≡◌, sym, ap, ◌∙◌}
use native.Mathlib.Omega.{arith}
use Rattle.crc.proofs.Laws.Fold.{advanced, even_advanced}
use Rattle.crc.specs.Parts.{turns, even_part}
use Rattle.crc.proofs.fold.advance.Goals as goal

pub returns : goal.returns
unfolding advanced
returns c =
    let q = c.fold-folded.result / 2 ^ 28 in
    let e : c.fold-folded.result ≡ q * 2 ^ 28 = omega arith in
    ap (λ (n : ℕ). even_part (advanced n)) e
    ∙ even_advanced q (omega arith)
    ∙ ap (λ (n : ℕ). turns 64 (even_part n)) (sym e)
    ∙ ap (turns 64) c.fold-folded.ensures.0
