use lib.ListN.{length}
use Rattle.message.proofs.Laws.Framed.{leaves_same_case}
use Rattle.message.proofs.typed.write.Goals as goal

pub returns-in-Fixed : goal.returns-in-Fixed
returns-in-Fixed c =
    let a = c.args in
    let w = leaves_same_case (length a.out.now) a.m _ a.«data».now a.out.now _ _ c.in-Fixed.is
    c.write_alone.ensures.result_value c.write_alone.ensures.out_after in
    record { result_value = w.0; out_after = w.1 }

pub returns-in-ZoneStatus : goal.returns-in-ZoneStatus
returns-in-ZoneStatus c =
    let a = c.args in
    let w = leaves_same_case (length a.out.now) a.m _ a.«data».now a.out.now _ _ c.in-ZoneStatus.is
    c.write_items.ensures.result_value c.write_items.ensures.out_after in
    record { result_value = w.0; out_after = w.1 }

pub returns-in-Events : goal.returns-in-Events
returns-in-Events c =
    let a = c.args in
    let w = leaves_same_case (length a.out.now) a.m _ a.«data».now a.out.now _ _ c.in-Events.is
    c.write_items-in-Events.ensures.result_value c.write_items-in-Events.ensures.out_after in
    record { result_value = w.0; out_after = w.1 }

pub returns-in-MessageStatus : goal.returns-in-MessageStatus
returns-in-MessageStatus c =
    let a = c.args in
    let w = leaves_same_case (length a.out.now) a.m _ a.«data».now a.out.now _ _ c.in-MessageStatus.is
    c.write_texts.ensures.result_value c.write_texts.ensures.out_after in
    record { result_value = w.0; out_after = w.1 }
