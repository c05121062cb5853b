use lib.ListN.{length}
use Rattle.message.proofs.Laws.Framed.{leaves_another, leaves_equal}
use Rattle.message.specs.Typed.{write_fixed}
use Rattle.message.proofs.typed.write_alone.Goals as goal

pub returns-then-data-ne0 : goal.returns-then-data-ne0
returns-then-data-ne0 c =
    let a = c.args in
    let w = leaves_another (length a.out.now) (length a.«data».now) 0 7 (write_fixed a.f) a.out.now c.if-data-ne0.true in
    record { result_value = w.0; out_after = w.1 }

pub returns : goal.returns
returns c =
    let a = c.args in
    let w = leaves_equal (length a.out.now) (length a.«data».now) 0 7 (write_fixed a.f) a.out.now _ _ c.if-data-ne0.false
    c.write_fixed.ensures.result_value c.write_fixed.ensures.out_after in
    record { result_value = w.0; out_after = w.1 }
