use lib.Seq.{length-take-le}
use mathlib.Core.Path.{sym}
use native.Mathlib.Omega.{arith}
use Rattle.mend.proofs.Laws.Answer.{Told, told, told_refused, whole}
use Rattle.mend.proofs.report.Goals as goal

pub slice_bounds-frame-end : goal.slice_bounds-frame-end
slice_bounds-frame-end c =
    let known : Told c.args.bytes.now c.mend.new.out c.in-Ok.mended.place c.from-n.result =
    told c.args.bytes.now 69 (omega arith) c.from-n.result _ c.in-Ok.mended c.from-n.ensures c.in-Ok.ensures.result_value c.mend.ensures.out_after in
    known.within

pub slice_bounds-put_mended-end : goal.slice_bounds-put_mended-end
slice_bounds-put_mended-end c =
    let known : Told c.args.bytes.now c.mend.new.out c.in-Ok.mended.place c.from-n.result =
    told c.args.bytes.now 69 (omega arith) c.from-n.result _ c.in-Ok.mended c.from-n.ensures c.in-Ok.ensures.result_value c.mend.ensures.out_after in
    sym (length-take-le _ _ known.within)

pub put_mended-requires : goal.put_mended-requires
put_mended-requires c =
    let known : Told c.args.bytes.now c.mend.new.out c.in-Ok.mended.place c.from-n.result =
    told c.args.bytes.now 69 (omega arith) c.from-n.result _ c.in-Ok.mended c.from-n.ensures c.in-Ok.ensures.result_value c.mend.ensures.out_after in
    let k = known in
    let size = length-take-le _ c.mend.new.out k.within in
    record {
      place_bound = k.small;
      frame_nonzero = omega (arith, size, k.some);
      frame_in_bounds = omega (arith, size, k.few, c.requires);
    }

pub returns-in-Ok : goal.returns-in-Ok
returns-in-Ok c =
    let known : Told c.args.bytes.now c.mend.new.out c.in-Ok.mended.place c.from-n.result =
    told c.args.bytes.now 69 (omega arith) c.from-n.result _ c.in-Ok.mended c.from-n.ensures c.in-Ok.ensures.result_value c.mend.ensures.out_after in
    let w = whole known.text c.put_mended.ensures in
    record { value = w.0; out_after = w.1.0; upper_bound = w.1.1 }

pub returns-in-Err : goal.returns-in-Err
returns-in-Err c =
    let w = whole (told_refused c.args.bytes.now 69 (omega arith) _ c.in-Err.ensures.result_value) c.put_refusal.ensures in
    record { value = w.0; out_after = w.1.0; upper_bound = w.1.1 }
