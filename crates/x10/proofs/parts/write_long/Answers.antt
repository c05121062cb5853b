use mathlib.Core.Path.{ap, ◌∙◌}
use mathlib.Core.List.{List, ◌++◌}
use Prim.Native.Nat.{ℕ}
use native.Mathlib.Omega.{arith}
use lib.Seq.{sets}
use Rattle.x10.specs.Codes.{extended1}
use Rattle.x10.specs.Places.{paired, bits}
use Rattle.x10.specs.Pattern.{standard, extension}
use Rattle.x10.proofs.Laws.Put.{put-extended, length-extended, leaves, writes}
use Rattle.x10.proofs.parts.write_long.Goals as goal

pub returns-then-out-lt-EXTENDED : goal.returns-then-out-lt-EXTENDED
returns-then-out-lt-EXTENDED c =
    let a = c.args in
    let w = leaves a.out.now (standard a.house extended1 1 ++ extension a.key a.«data» a.command) 62
    (length-extended a.house a.key a.«data» a.command) c.if-out-lt-EXTENDED.true in
    record { result_value = w.0; out_after = w.1 }

pub returns : goal.returns
returns c =
    let a = c.args in
    let xs : List ℕ = paired (bits 4 a.key) in
    let ys : List ℕ = paired (bits 8 a.«data») in
    let zs : List ℕ = paired (bits 8 a.command) in
    let w = writes a.out.now (standard a.house extended1 1 ++ extension a.key a.«data» a.command) 62
    (length-extended a.house a.key a.«data» a.command) (omega (arith, c.if-out-lt-EXTENDED.false)) _
    (c.put-3.ensures
    ∙ ap (λ (l : List ℕ). sets l 46 zs)
    (c.put-2.ensures
    ∙ ap (λ (l : List ℕ). sets l 30 ys)
    (c.put.ensures ∙ ap (λ (l : List ℕ). sets l 22 xs) c.put_standard.ensures))
    ∙ put-extended a.out.now a.house a.key a.«data» a.command) in
    record { result_value = w.0; out_after = w.1 }
