use mathlib.Core.Path.{◌≡◌, sym, ap, ap₂, ◌∙◌}
use Prim.Native.Nat.{ℕ, suc, ◌+◌, ◌*◌, ◌-◌, ◌/◌, ◌%◌, ◌^◌}
use native.Mathlib.Omega.{arith}
use borrow.Author.Rules.{rules}
use lib.ListN.{set, length-set}
use lib.Seq.{sets}
use Rattle.x10.specs.Places.{paired, bits}
use Rattle.x10.proofs.Laws.Put.{put_pair}
use Rattle.x10.proofs.pairs.put.Goals as goal

pub loop-i-init : goal.loop-i-init
loop-i-init c =
    let a = c.args in
    let place : a.from + 2 * 0 ≡ a.from = omega arith in
    let left : a.width - 0 ≡ a.width = omega arith in
    (omega arith, search rules, ap₂ (λ (j k : ℕ). sets a.out.now j (paired (bits k a.n))) place left)

pub bounds-out-at-in-loop-i : goal.bounds-out-at-in-loop-i
bounds-out-at-in-loop-i c = simp length-set (omega arith)

pub loop-i-preserved : goal.loop-i-preserved
loop-i-preserved c =
    let l = c.loop-i in
    let a = c.args in
    let at : ℕ = a.from + 2 * l.i in
    let weight : ℕ = a.width - 1 - l.i in
    let bit : ℕ = a.n / 2 ^ weight % 2 in
    let left : a.width - l.i ≡ suc weight = omega arith in
    let later : a.width - (l.i + 1) ≡ weight = omega arith in
    let place : a.from + 2 * (l.i + 1) ≡ at + 2 = omega arith in (
      omega arith,
      simp length-set (omega arith),
      ap₂ (λ (j k : ℕ). sets (set (set l.out at bit) (at + 1) (1 - bit)) j (paired (bits k a.n))) place later
          ∙ sym (put_pair l.out at weight a.n)
          ∙ ap (λ (k : ℕ). sets l.out at (paired (bits k a.n))) (sym left)
          ∙ l.invariant.2,
    )

pub returns : goal.returns
returns c =
    let l = c.loop-i in
    let a = c.args in
    let none : a.width - l.i ≡ 0 = omega arith in
    ap (λ (k : ℕ). sets l.out (a.from + 2 * l.i) (paired (bits k a.n))) (sym none) ∙ l.invariant.2
