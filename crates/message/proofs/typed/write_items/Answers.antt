use lib.ListN.{length}
use Rattle.message.proofs.Laws.Framed.{leaves_another, leaves_equal}
use Rattle.message.specs.Message.{write_message}
use Rattle.message.specs.Typed.{write_items}
use Rattle.message.proofs.typed.write_items.Goals as goal

pub returns-then-data-size : goal.returns-then-data-size
unfolding write_items
returns-then-data-size c =
    let a = c.args in
    let d = a.«data».now in
    let w = leaves_another (length a.out.now) (length d) a.size 7 (write_message a.kind d) a.out.now c.if-data-size.true in
    record { result_value = w.0; out_after = w.1 }

pub returns : goal.returns
unfolding write_items
returns c =
    let a = c.args in
    let d = a.«data».now in
    let w = leaves_equal (length a.out.now) (length d) a.size 7 (write_message a.kind d) a.out.now _ _ c.if-data-size.false
    c.write.ensures.result_value c.write.ensures.out_after in
    record { result_value = w.0; out_after = w.1 }
