use mathlib.Core.Path.{◌≡◌, sym, ap, ◌∙◌}
use mathlib.Core.List.{List, ◌++◌}
use Prim.Native.Nat.{ℕ, ◌+◌, ◌%◌}
use native.Mathlib.Omega.{arith}
use lib.ListN.{length, length-append}
use lib.Seq.{paste}
use Rattle.omnistat.specs.Frame.{sum_of}
use Rattle.omnistat.proofs.Laws.Output.{placed, leaves_no_room, leaves_summed}
use Rattle.omnistat.proofs.Laws.Sum.{sum_both}
use Rattle.omnistat.proofs.frame.write.Goals as goal

pub returns-then-out-last : goal.returns-then-out-last
returns-then-out-last c =
    let a = c.args in
    let n : length (a.head.now ++ a.payload.now) ≡ length a.head.now + length a.payload.now = length-append a.head.now a.payload.now in
    let w = leaves_no_room a.out.now (a.head.now ++ a.payload.now) (omega arith) in
    record { result_value = w.0; out_after = w.1 }

pub returns : goal.returns
returns c =
    let a = c.args in
    let h = a.head.now in
    let p = a.payload.now in
    let w = leaves_summed a.out.now (h ++ p) (length h + length p) _ c.put.new.out (sym (length-append h p))
    (ap (λ (n : ℕ). (n + c.put.result) % 256) c.put-sum.ensures.value
    ∙ ap (λ (n : ℕ). (sum_of h + n) % 256) c.put.ensures.value
    ∙ sum_both h p)
    (omega arith)
    (c.put.ensures.out_after
    ∙ ap (λ (d : List ℕ). paste d (length h) p (length p)) c.put-sum.ensures.out_after
    ∙ placed h p a.out.now (omega arith)) in
    record { result_value = w.0; out_after = w.1 }
