use native.Mathlib.Omega.{arith}
use Rattle.x10.specs.Pattern.{standard}
use Rattle.x10.proofs.Laws.Put.{length-standard, leaves, writes}
use Rattle.x10.proofs.parts.write_standard.Goals as goal

pub returns-then-out-lt-STANDARD : goal.returns-then-out-lt-STANDARD
returns-then-out-lt-STANDARD c =
    let a = c.args in
    let w = leaves a.out.now (standard a.house a.key a.d16) 22 (length-standard a.house a.key a.d16) c.if-out-lt-STANDARD.true in
    record { result_value = w.0; out_after = w.1 }

pub returns : goal.returns
returns c =
    let a = c.args in
    let w = writes a.out.now (standard a.house a.key a.d16) 22 (length-standard a.house a.key a.d16) (omega arith) _
    c.put_standard.ensures in
    record { result_value = w.0; out_after = w.1 }
