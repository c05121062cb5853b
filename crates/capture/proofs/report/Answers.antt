use Prim.Native.Nat.{ℕ, ◌≤◌}
use lib.ListN.{length, drop, length-append, length-drop}
use mathlib.Core.List.{List, ◌++◌}
use mathlib.Core.Path.{◌≡◌, sym, ap, ◌∙◌}
use native.Mathlib.Omega.{arith}
use Rattle.answer.specs.Answer.{Outcome, refused, accepted, on_accepted, in_room, out_after, outcome_of}
use Rattle.capture.proofs.Laws.{counted, left_there, is_refused, refusal}
use Rattle.capture.specs.Printed.{printed}
use Rattle.listing.proofs.Laws.Answers.{any_capture}
use Rattle.listing.specs.Text.{listing}
use Rattle.capture.proofs.report.Goals as goal

pub returns-in-Ok : goal.returns-in-Ok
returns-in-Ok c =
    let a = c.args in
    let s = c.args.bytes.now in
    let old = c.args.out.now in
    let call = c.write in
    let n = c.in-Ok.n in
    let known = c.type_inv.bytes in
    let same : in_room (length old) (listing s) ≡ listing s = any_capture s (length old) (λ i. omega (arith, known i)) c.requires in
    let e : accepted n ≡ on_accepted length (listing s) =
    ap outcome_of (sym c.in-Ok.is) ∙ call.ensures.result_value ∙ ap (on_accepted length) same in
    let size : n ≡ length (printed (listing s)) = counted (listing s) n e in
    let there : call.new.out ≡ printed (listing s) ++ drop (length (printed (listing s))) old =
    call.ensures.out_after ∙ ap (λ (o : Outcome (List ℕ)). out_after o old) same ∙ left_there (listing s) n old e in
    let long : length call.new.out ≡ length old = call.auto.out in
    let most : n ≤ length old =
    omega (
      arith,
      ap length there,
      length-append (printed (listing s)) (drop (length (printed (listing s))) old),
      length-drop (length (printed (listing s))) old,
    ) in record {
      value = size;
      out_after = there;
      upper_bound = most;
    }

pub returns-in-Err : goal.returns-in-Err
returns-in-Err c =
    let a = c.args in
    let s = c.args.bytes.now in
    let old = c.args.out.now in
    let call = c.write in
    let put = c.put_refusal in
    let known = c.type_inv.bytes in
    let same : in_room (length old) (listing s) ≡ listing s = any_capture s (length old) (λ i. omega (arith, known i)) c.requires in
    let e = ap outcome_of (sym c.in-Err.is) ∙ call.ensures.result_value ∙ ap (on_accepted length) same in
    let r : listing s ≡ refused 3 = is_refused s _ e in
    let kept : call.new.out ≡ old = call.ensures.out_after ∙ ap (λ (o : Outcome (List ℕ)). out_after o old) (same ∙ r) in
    let there : put.new.out ≡ printed (refused 3) ++ drop (length (printed (refused 3))) old =
    put.ensures.out_after ∙ ap (λ (x : List ℕ). printed (refused 3) ++ drop (length (printed (refused 3))) x) kept in
    let size : put.result ≡ length (printed (refused 3)) = put.ensures.value in
    let ten : length (printed (refused 3)) ≡ 10 = ap length refusal in record {
      value = size ∙ ap (λ (o : Outcome (List ℕ)). length (printed o)) (sym r);
      out_after = there ∙ ap (λ (o : Outcome (List ℕ)). printed o ++ drop (length (printed o)) old) (sym r);
      upper_bound = omega (arith, size, ten, c.requires);
    }
