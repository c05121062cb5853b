use Prim.Native.Nat.{ℕ, ◌+◌, ◌-◌}
use lib.ListN.{length, get_or, take, drop, set, length-set, length-take, length-drop}
use mathlib.Core.List.{List, ◌++◌}
use mathlib.Core.Path.{◌≡◌, ap, ◌∙◌}
use native.Mathlib.Omega.{arith}
use Rattle.listing.proofs.Laws.State.{state_long, state_count}
use Rattle.listing.proofs.Laws.Taken.{unread_count, counted, state_appended}
use Rattle.link.proofs.Laws.Copying.{all_copied}
use Rattle.listing.specs.State.{State}
use Rattle.listing.proofs.state.append.Goals as goal

pub bounds-state-4 : goal.bounds-state-4
bounds-state-4 c =
    omega (arith, state_long c.args.state.now c.requires.state_value)

pub overflow_cast-count : goal.overflow_cast-count
overflow_cast-count c =
    omega (arith, state_count c.args.state.now c.requires.state_value)

pub overflow_add-from : goal.overflow_add-from
overflow_add-from c =
    omega (arith, state_count c.args.state.now c.requires.state_value)

pub overflow_add-end : goal.overflow_add-end
overflow_add-end c =
    omega (arith, state_count c.args.state.now c.requires.state_value, c.requires.piece_len_bound)

pub slice_bounds-copy-end : goal.slice_bounds-copy-end
slice_bounds-copy-end c =
    let long = state_long c.args.state.now c.requires.state_value in
    let count = unread_count c.args.state.now c.requires.state_value in
    simp length-set (omega arith)

pub returns : goal.returns
returns c =
    let b = c.args.state.now in
    let p = c.args.piece.now in
    let total = c.read.result.came + length p in
    let from = 5 + get_or b 4 0 in
    let n = length p in
    let long = state_long b c.requires.state_value in
    let count = unread_count b c.requires.state_value in
    let h = set c.put_word.new.state 4 (get_or b 4 0 + n) in
    let same : h ≡ counted p total b = ap (λ (s : List ℕ). set s 4 (get_or b 4 0 + n)) c.put_word.ensures in
    ap (λ (ys : List ℕ). take from h ++ (ys ++ drop (from + n - from) (drop from h))) (c.copy.ensures ∙ all_copied p _ (simp (length-take, length-drop, length-set) (omega arith)))
    ∙ ap (λ (s : List ℕ). take from s ++ ((take n p ++ drop n (take (from + n - from) (drop from s))) ++ drop (from + n - from) (drop from s))) same
    ∙ state_appended p total b (λ i. (c.slice_known-1.given i).fits) c.requires.state_value (ap (λ (n : ℕ). n + length p) (ap (λ (st : State). st.came) c.read.ensures))

pub put_word-requires-clause-at_in_bounds : goal.put_word-requires-clause-at_in_bounds
put_word-requires-clause-at_in_bounds c = omega (arith, state_long c.args.state.now c.requires.state_value)

pub overflow_cast-state : goal.overflow_cast-state
overflow_cast-state c =
    omega (arith, unread_count c.args.state.now c.requires.state_value, c.requires.piece_len_bound)

pub bounds-state-4-2 : goal.bounds-state-4-2
bounds-state-4-2 c = omega (arith, state_long c.args.state.now c.requires.state_value, c.put_word.auto.state)
