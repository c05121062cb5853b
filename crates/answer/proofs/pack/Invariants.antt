use Rattle.std.proofs.Common.{◌+◌, ◌*◌, ◌≤◌, length}
use Rattle.answer.proofs.Laws.Fields.{Above, Low}
use Rattle.answer.proofs.pack.Given as goal

-- the fields from place i on are stacked, as far as they fit
abbrev pub invariant-loop-i : goal.invariant-loop-i
invariant-loop-i g l =
    let f = g.F.PackedField in record {
      fits : 8 + f.bits * length l.fields ≤ 64 → Above f.bits f.value l.fields l.i l.above;
      low_bits : Low f.bits f.value l.fields l.i l.above;
    }
