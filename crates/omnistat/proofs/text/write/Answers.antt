use mathlib.Core.Path.{◌≡◌, ap, ◌∙◌}
use mathlib.Core.List.{List, [], ◌∷◌, ◌++◌}
use Prim.Native.Nat.{ℕ, ◌+◌, ◌%◌}
use native.Mathlib.Omega.{arith}
use lib.ListN.{length, set, length-append}
use lib.Seq.{paste}
use Rattle.answer.proofs.Laws.Output.{begun, put_next}
use Rattle.omnistat.specs.Frame.{total, sum_of}
use Rattle.omnistat.proofs.Laws.Output.{placed, leaves_no_room, leaves_summed}
use Rattle.omnistat.proofs.Laws.Sum.{sum_both}
use Rattle.omnistat.proofs.text.write.Goals as goal

pub returns : goal.returns
unfolding total
returns c =
    let a = c.args in
    let v = a.characters.now in
    let h : List ℕ = a.first ∷ a.second ∷ a.start ∷ [] in
    let old = a.out.now in
    let n : length (v ++ (3 ∷ [])) ≡ length v + 1 = length-append v (3 ∷ []) in
    let at : length v + 3 ≡ length (h ++ v) = omega arith in
    let put : c.put.new.out ≡ begun (h ++ v) old
    = c.put.ensures.out_after
    ∙ ap (λ (d : List ℕ). paste d 3 v (length v)) c.put-sum.ensures.out_after
    ∙ placed h v old (omega arith) in
    let ended : set c.put.new.out (length v + 3) 3 ≡ begun (h ++ (v ++ (3 ∷ []))) old
    = ap (λ (d : List ℕ). set d (length v + 3) 3) put
    ∙ ap (λ (k : ℕ). set (begun (h ++ v) old) k 3) at
    ∙ put_next (h ++ v) old 3 (omega arith) in
    let sum : ((c.put-sum.result + c.put.result) % 256 + 3) % 256 ≡ sum_of (h ++ (v ++ (3 ∷ [])))
    = ap (λ (k : ℕ). ((k + c.put.result) % 256 + 3) % 256) c.put-sum.ensures.value
    ∙ ap (λ (k : ℕ). ((sum_of h + k) % 256 + 3) % 256) c.put.ensures.value
    ∙ ap (λ (k : ℕ). (k + 3) % 256) (sum_both h v)
    ∙ sum_both (h ++ v) (3 ∷ []) in
    let w = leaves_summed old (h ++ (v ++ (3 ∷ []))) (length v + 3 + 1) _ _ (omega (arith, n)) sum (omega arith) ended in
    record { result_value = w.0; out_after = w.1 }

pub returns-then-out-last : goal.returns-then-out-last
returns-then-out-last c =
    let a = c.args in
    let v = a.characters.now in
    let n : length (v ++ (3 ∷ [])) ≡ length v + 1 = length-append v (3 ∷ []) in
    let w = leaves_no_room a.out.now (a.first ∷ a.second ∷ a.start ∷ (v ++ (3 ∷ []))) (omega (arith, n)) in
    record { result_value = w.0; out_after = w.1 }
