use mathlib.Core.Path.{ap, ◌∙◌}
use mathlib.Core.List.{List}
use Prim.Native.Nat.{ℕ}
use native.Mathlib.Omega.{arith}
use lib.ListN.{length-set}
use lib.Seq.{sets}
use Rattle.x10.specs.Places.{paired, bits}
use Rattle.x10.proofs.Laws.Put.{put-standard}
use Rattle.x10.proofs.parts.put_standard.Goals as goal

pub bounds-out-1 : goal.bounds-out-1
bounds-out-1 c = simp length-set (omega arith)

pub bounds-out-2 : goal.bounds-out-2
bounds-out-2 c = simp length-set (omega arith)

pub bounds-out-3 : goal.bounds-out-3
bounds-out-3 c = simp length-set (omega arith)

pub put-requires : goal.put-requires
put-requires c = simp length-set (omega arith)

pub put-requires-2 : goal.put-requires-2
put-requires-2 c = omega (arith, simp length-set at c.put.auto.out)

pub put-requires-3 : goal.put-requires-3
put-requires-3 c =
    omega (
      arith,
      c.put-2.auto.out,
      simp length-set at c.put.auto.out,
    )

pub shape_of-out : goal.shape_of-out
shape_of-out c =
    omega (
      arith,
      c.put-3.auto.out,
      c.put-2.auto.out,
      simp length-set at c.put.auto.out,
    )

pub returns : goal.returns
returns c =
    let a = c.args in
    let xs : List ℕ = paired (bits 4 a.house) in
    let ys : List ℕ = paired (bits 4 a.key) in
    let zs : List ℕ = paired (bits 1 a.d16) in
    c.put-3.ensures
    ∙ ap (λ (l : List ℕ). sets l 20 zs)
    (c.put-2.ensures ∙ ap (λ (l : List ℕ). sets l 12 ys) c.put.ensures)
    ∙ put-standard a.out.now a.house a.key a.d16
