use Prim.Native.Nat.{ℕ, ◌+◌, ◌-◌, ◌/◌, ◌%◌}
use lib.ListN.{length, take, drop, set, length-set, length-take, length-drop}
use mathlib.Core.List.{List, ◌++◌}
use mathlib.Core.Path.{◌≡◌, ap, ◌∙◌}
use native.Mathlib.Omega.{arith}
use Rattle.link.proofs.Laws.Copying.{all_copied}
use Rattle.listing.proofs.Laws.State.{headed, state_written}
use Rattle.listing.proofs.state.put.Goals as goal

pub returns : goal.returns
returns c =
    let a = c.args in
    let u = c.args.unread.now in
    let n = length u in
    let h = set c.put_word-2.new.state 4 n in
    let same : h ≡ headed a.came a.run u c.put_fresh.new.state =
    ap (λ (s : List ℕ). set s 4 n) (c.put_word-2.ensures ∙ ap (λ (s : List ℕ). set (set s 2 (a.run / 256)) 3 (a.run % 256)) c.put_word.ensures) in
    ap (λ (ys : List ℕ). take 5 h ++ (ys ++ drop (5 + n - 5) (drop 5 h))) (c.copy.ensures ∙ all_copied u _ (simp (length-take, length-drop, length-set) (omega arith)))
    ∙ ap (λ (s : List ℕ). take 5 s ++ ((take n u ++ drop n (take (5 + n - 5) (drop 5 s))) ++ drop (5 + n - 5) (drop 5 s))) same
    ∙ state_written a.came a.run u c.put_fresh.new.state c.put_fresh.ensures
