use Prim.Native.Nat.{ℕ, ◌+◌, ◌/◌, ◌%◌}
use lib.ListN.{set}
use mathlib.Core.List.{List}
use mathlib.Core.Path.{ap, ◌∙◌}
use native.Mathlib.Omega.{arith}
use Rattle.listing.proofs.Laws.State.{state_long}
use Rattle.listing.proofs.Laws.Taken.{run_came, state_passed}
use Rattle.listing.specs.State.{State}
use Rattle.listing.proofs.state.count_noise.Goals as goal

pub overflow_add-noise : goal.overflow_add-noise
overflow_add-noise c =
    omega (arith, run_came c.args.state.now c.requires.state_value, ap (λ (st : State). st.run) c.read-st.ensures, c.requires.count_bound)

pub returns : goal.returns
returns c =
    let b = c.args.state.now in
    let k = c.args.count in
    let noise = c.read-st.result.run + k in
    c.put_word-2.ensures
    ∙ ap (λ (s : List ℕ). set (set s 2 (noise / 256)) 3 (noise % 256)) c.put_word.ensures
    ∙ state_passed (c.read-st.result.came + k) noise b k
    (λ i. omega (arith, c.slice_known-1.given i))
    c.requires.state_value
    c.requires.state_value_2
    (ap (λ (n : ℕ). n + k) (ap (λ (st : State). st.came) c.read-st.ensures))
    (ap (λ (n : ℕ). n + k) (ap (λ (st : State). st.run) c.read-st.ensures))

pub put_word-requires-clause-at_in_bounds : goal.put_word-requires-clause-at_in_bounds
put_word-requires-clause-at_in_bounds c = omega (arith, state_long c.args.state.now c.requires.state_value)

pub put_word-requires-2 : goal.put_word-requires-2
put_word-requires-2 c = record {
  at_in_bounds = omega (arith, state_long c.args.state.now c.requires.state_value, c.put_word.auto.state);
  n_bound = omega (arith, run_came c.args.state.now c.requires.state_value, ap (λ (st : State). st.run) c.read-st.ensures, c.requires.count_bound);
}
