use Prim.Native.Nat.{ℕ}
use lib.ListN.{drop}
use mathlib.Core.List.{List}
use mathlib.Core.Path.{sym, ap, ◌∙◌}
use Rattle.answer.specs.Answer.{on_accepted, outcome_of}
use Rattle.link.specs.Frame.{header, read_first}
use native.Mathlib.Omega.{arith}
use Rattle.listing.proofs.Laws.Output.{behind-all}
use Rattle.listing.proofs.Laws.Frames.{judged_other, judged-frame, judged-refused, judged-few}
use Rattle.listing.proofs.place.judge.Goals as goal

pub returns-then-bytes-at-ne-START : goal.returns-then-bytes-at-ne-START
returns-then-bytes-at-ne-START c =
    let a = c.args in
    judged_other a.bytes.now a.at c.if-bytes-at-ne-START.true

pub overflow_add-result : goal.overflow_add-result
overflow_add-result c =
    let few = judged-few _ _ _ (ap outcome_of (sym c.in-Ok.is) ∙ c.read_first.ensures) in
    omega arith

pub returns-in-Ok : goal.returns-in-Ok
returns-in-Ok c =
    let a = c.args in
    judged-frame a.at _ _ (read_first (drop a.at a.bytes.now))
    (ap outcome_of (sym c.in-Ok.is) ∙ c.read_first.ensures ∙ ap (λ (x : List ℕ). on_accepted header (read_first x)) (behind-all a.bytes.now a.at))

pub returns-in-Err : goal.returns-in-Err
returns-in-Err c =
    let a = c.args in
    judged-refused a.at _ (read_first (drop a.at a.bytes.now))
    (ap outcome_of (sym c.in-Err.is) ∙ c.read_first.ensures ∙ ap (λ (x : List ℕ). on_accepted header (read_first x)) (behind-all a.bytes.now a.at))
