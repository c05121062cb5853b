use Prim.Native.Nat.{ℕ, ◌+◌, ◌≤◌}
use borrow.Author.Tests.{not-false, eqb-true}
use lib.Dec.{eqb}
use lib.ListN.{length}
use mathlib.Core.Bool.{Bool, true}
use mathlib.Core.List.{List, []}
use mathlib.Core.Path.{◌≡◌, sym, ap, ◌∙◌}
use native.Mathlib.Omega.{arith}
use Rattle.listing.proofs.Laws.Closing.{call-refused, call-accepted}
use Rattle.listing.proofs.Laws.Output.{nothing}
use Rattle.listing.proofs.Laws.Taken.{unread_few, unread_came, came_most, no_state, above_most, piece_waiting, waits, waiting_fits, none_unread, piece-noise}
use Rattle.listing.specs.State.{State, state_of, is_state}
use Rattle.listing.proofs.pieces.piece.Goals as goal

pub returns-then-not-is_state : goal.returns-then-not-is_state
returns-then-not-is_state c =
    let a = c.args in
    let w = call-refused a.out.now a.state.now
    (no_state (length a.out.now) a.state.now a.bytes.now (sym c.is_state.ensures ∙ c.if-not-is_state.true)) in
    record { result_value = w.0; out_after = w.1.0; state_after = w.1.1 }

pub read-st-requires : goal.read-st-requires
read-st-requires c =
    sym c.is_state.ensures ∙ not-false _ c.if-not-is_state.false-raw

pub overflow_sub-st : goal.overflow_sub-st
overflow_sub-st c =
    let a = c.args in
    let b = c.args.state.now in
    let known : is_state b ≡ true = sym c.is_state.ensures ∙ c.if-not-is_state.false in
    omega (arith, came_most b known, ap (λ (st : State). st.came) c.read-st.ensures)

pub returns-then-st-bytes : goal.returns-then-st-bytes
returns-then-st-bytes c =
    let a = c.args in
    let b = c.args.state.now in
    let known : is_state b ≡ true = sym c.is_state.ensures ∙ c.if-not-is_state.false in
    let w = call-refused a.out.now b
    (above_most (length a.out.now) b a.bytes.now known (omega (arith, came_most b known, ap (λ (st : State). st.came) c.read-st.ensures, c.if-st-bytes.true))) in
    record { result_value = w.0; out_after = w.1.0; state_after = w.1.1 }

pub is_waiting-requires : goal.is_waiting-requires
is_waiting-requires c =
    let a = c.args in
    let b = c.args.state.now in
    let known : is_state b ≡ true = sym c.is_state.ensures ∙ c.if-not-is_state.false in
    let most : (state_of b).came + length a.bytes.now ≤ 4096 = omega (arith, came_most b known, ap (λ (st : State). st.came) c.read-st.ensures, c.if-st-bytes.false) in record {
      unread_len_bound = omega (arith, unread_few b known, ap (λ (st : State). length st.unread) c.read-st.ensures);
      more_bound = omega arith;
    }

pub append-requires : goal.append-requires
append-requires c =
    let a = c.args in
    let b = c.args.state.now in
    let known : is_state b ≡ true = sym c.is_state.ensures ∙ c.if-not-is_state.false in
    let most : (state_of b).came + length a.bytes.now ≤ 4096 = omega (arith, came_most b known, ap (λ (st : State). st.came) c.read-st.ensures, c.if-st-bytes.false) in
    let stops = waits b a.bytes.now known c.read-st.result.unread.now (ap (λ (st : State). st.unread) c.read-st.ensures) (c.is_waiting.ensures c.if-is_waiting.true) in record {
      state_value = known;
      piece_bound = most;
      piece_len_bound = waiting_fits b a.bytes.now known stops;
    }

pub returns-then-is_waiting : goal.returns-then-is_waiting
returns-then-is_waiting c =
    let a = c.args in
    let b = c.args.state.now in
    let known : is_state b ≡ true = sym c.is_state.ensures ∙ c.if-not-is_state.false in
    let most : (state_of b).came + length a.bytes.now ≤ 4096 = omega (arith, came_most b known, ap (λ (st : State). st.came) c.read-st.ensures, c.if-st-bytes.false) in
    let stops = waits b a.bytes.now known c.read-st.result.unread.now (ap (λ (st : State). st.unread) c.read-st.ensures) (c.is_waiting.ensures c.if-is_waiting.true) in
    let w = call-accepted b (piece_waiting (length a.out.now) b a.bytes.now known most stops) (nothing a.out.now 0 (omega arith)) c.append.ensures in
    record { result_value = w.0; out_after = w.1.0; state_after = w.1.1 }

-- nothing is unread
none : (b : List ℕ) (u : List ℕ) → u ≡ (state_of b).unread → (answer : Bool) → answer ≡ eqb (length u) 0 → answer ≡ true → (state_of b).unread ≡ []
none b u is answer e so = none_unread b u is (eqb-true (length u) 0 (sym e ∙ so))

pub count_noise-requires : goal.count_noise-requires
count_noise-requires c =
    let a = c.args in
    let b = c.args.state.now in
    let known : is_state b ≡ true = sym c.is_state.ensures ∙ c.if-not-is_state.false in record {
      state_value = known;
      count_bound = omega (arith, came_most b known, ap (λ (st : State). st.came) c.read-st.ensures, c.if-st-bytes.false);
      state_value_2 = none b _ (ap (λ (st : State). st.unread) c.read-st.ensures) _ c.is_empty.ensures c.if-is_empty.true;
    }

pub returns-then-is_noise : goal.returns-then-is_noise
returns-then-is_noise c =
    let a = c.args in
    let b = c.args.state.now in
    let known : is_state b ≡ true = sym c.is_state.ensures ∙ c.if-not-is_state.false in
    let most : (state_of b).came + length a.bytes.now ≤ 4096 = omega (arith, came_most b known, ap (λ (st : State). st.came) c.read-st.ensures, c.if-st-bytes.false) in
    let w = call-accepted b
    (piece-noise (length a.out.now) b a.bytes.now known most (none b _ (ap (λ (st : State). st.unread) c.read-st.ensures) _ c.is_empty.ensures c.if-is_empty.true) (c.is_noise.ensures c.if-is_noise.true))
    (nothing a.out.now 0 (omega arith))
    c.count_noise.ensures in
    record { result_value = w.0; out_after = w.1.0; state_after = w.1.1 }

pub piece_in-requires : goal.piece_in-requires
piece_in-requires c =
    let a = c.args in
    let b = c.args.state.now in
    let known : is_state b ≡ true = sym c.is_state.ensures ∙ c.if-not-is_state.false in record {
      state_value = known;
      bytes_bound = omega (arith, came_most b known, ap (λ (st : State). st.came) c.read-st.ensures, c.if-st-bytes.false);
      bytes_len_bound = omega (arith, c.if-bytes-le-SHORT_PIECE.true, unread_few b known);
      frames_bound = omega arith;
    }

pub piece_in-requires-2 : goal.piece_in-requires-2
piece_in-requires-2 c =
    let a = c.args in
    let b = c.args.state.now in
    let known : is_state b ≡ true = sym c.is_state.ensures ∙ c.if-not-is_state.false in
    let most : (state_of b).came + length a.bytes.now ≤ 4096 = omega (arith, came_most b known, ap (λ (st : State). st.came) c.read-st.ensures, c.if-st-bytes.false) in record {
      state_value = known;
      bytes_bound = most;
      bytes_len_bound = omega (arith, unread_came b known);
      frames_bound = omega arith;
    }
