use Rattle.std.proofs.Common.{◌≡◌, suc, sym, ◌+◌, ◌-◌, ◌*◌, ◌≤◌, length, arith}
use Rattle.answer.proofs.Laws.Fields.{none, below, whole, low-none, low-below, low-whole}
use Rattle.answer.proofs.pack.Goals as goal

pub loop-i-init : goal.loop-i-init
loop-i-init g c =
    let f = g.F.PackedField in
    let all : length c.args.fields ≡ g.row.N = c.well_formed.0.1.0.1 in record {
      fits = λ fit. none f.bits f.value c.args.fields g.row.N (sym all);
      low_bits = low-none f.bits f.value c.args.fields g.row.N (sym all);
    }

pub loop-i-preserved : goal.loop-i-preserved
loop-i-preserved g c =
    let f = g.F.PackedField in
    let all : length c.args.fields ≡ g.row.N = c.well_formed.0.1.0.1 in
    let next : suc (c.loop-i.i - 1) ≡ c.loop-i.i = omega arith in record {
      fits = λ fit.
          below f.bits f.value c.args.fields (c.loop-i.i - 1) c.index-fields-i.result c.loop-i.above c.below-above.result
          (omega arith) fit c.below-above.ensures.fits (rw next (c.loop-i.invariant.fits fit)) c.below-above.ensures.stacked;
      low_bits = low-below f.bits f.value c.args.fields (c.loop-i.i - 1) c.index-fields-i.result c.loop-i.above c.below-above.result
          (omega arith) (rw next c.loop-i.invariant.low_bits) c.below-above.ensures.low_bits;
    }

pub returns : goal.returns
returns g c =
    let f = g.F.PackedField in
    let all : length c.args.fields ≡ g.row.N = c.well_formed.0.1.0.1 in record {
      fits = λ fit.
          let fits : 8 + f.bits * length c.args.fields ≤ 64 = rw all fit in
          whole f.bits f.value c.args.fields c.loop-i.i c.loop-i.above c.below.result (omega arith) fits (c.loop-i.invariant.fits fits) c.below.ensures.stacked;
      low_bits = low-whole f.bits f.value c.args.fields c.loop-i.i c.loop-i.above c.below.result (omega arith) c.loop-i.invariant.low_bits c.below.ensures.low_bits;
    }
