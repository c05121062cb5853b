use Prim.Native.Nat.{◌+◌, ◌/◌, ◌%◌}
use lib.ListN.{length}
use Rattle.message.proofs.Laws.Framed.{leaves_another, leaves_equal}
use Rattle.message.specs.Lists.{message_status_type}
use Rattle.message.specs.Typed.{write_items}
use Rattle.message.proofs.typed.write_texts.Goals as goal

pub returns-then-count-ne0 : goal.returns-then-count-ne0
returns-then-count-ne0 c =
    let a = c.args in
    let w = leaves_another (length a.out.now) (a.count % 4) 0 7 (write_items message_status_type (1 + a.count / 4) a.«data».now) a.out.now c.if-count-ne0.true in
    record { result_value = w.0; out_after = w.1 }

pub returns : goal.returns
returns c =
    let a = c.args in
    let w = leaves_equal (length a.out.now) (a.count % 4) 0 7 (write_items message_status_type (1 + a.count / 4) a.«data».now) a.out.now _ _ c.if-count-ne0.false
    c.write_items.ensures.result_value c.write_items.ensures.out_after in
    record { result_value = w.0; out_after = w.1 }
