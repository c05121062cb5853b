use Prim.Native.Nat.{ℕ}
use borrow.Author.Tests.{not-false}
use lib.ListN.{length}
use mathlib.Core.Bool.{true}
use mathlib.Core.Path.{◌≡◌, sym, ap, ◌∙◌}
use Rattle.answer.specs.Answer.{refused, accepted, on_accepted}
use Rattle.std.proofs.lemmas.Result.{err_from_is_err_and}
use Rattle.message.proofs.Laws.Sized.{login_length}
use Rattle.message.specs.Message.{write_message}
use Rattle.door.specs.State.{is_secret, is_state, state_of}
use Rattle.door.specs.Door.{elapsed, judge}
use Rattle.door.proofs.Laws.State.{secret_digits, state_length}
use Rattle.door.proofs.Laws.Door.{leaves, no_secret, no_state, no_message, by_message}
use Rattle.door.proofs.step.Goals as goal

pub returns-then-not-is_secret : goal.returns-then-not-is_secret
returns-then-not-is_secret c =
    let a = c.args in
    let w = leaves a.secret.now a.state.now a.seconds a.kind a.«data».now (refused 8)
    (no_secret a.secret.now a.state.now a.seconds a.kind a.«data».now (sym c.is_secret.ensures ∙ c.if-not-is_secret.true)) in
    record { result_value = w.0; state_after = w.1 }

pub returns-then-not-is_state : goal.returns-then-not-is_state
returns-then-not-is_state c =
    let is_one : is_secret c.args.secret.now ≡ true = sym c.is_secret.ensures ∙ not-false _ c.if-not-is_secret.false-raw in
    let a = c.args in
    let w = leaves a.secret.now a.state.now a.seconds a.kind a.«data».now (refused 8)
    (no_state a.secret.now a.state.now a.seconds a.kind a.«data».now is_one (sym c.is_state.ensures ∙ c.if-not-is_state.true)) in
    record { result_value = w.0; state_after = w.1 }

pub state_of-requires : goal.state_of-requires
state_of-requires c =
    let taken : is_state c.args.state.now ≡ true = sym c.is_state.ensures ∙ not-false _ c.if-not-is_state.false-raw in
    state_length c.args.state.now taken

pub judge-judged-requires : goal.judge-judged-requires
judge-judged-requires c =
    let is_one : is_secret c.args.secret.now ≡ true = sym c.is_secret.ensures ∙ not-false _ c.if-not-is_secret.false-raw in
    let a = c.args in record {
      secret_len = (secret_digits a.secret.now is_one).0;
      data_len = λ is. login_length a.«data».now _ (c.in_ok-_size.ensures ∙ ap (λ (k : ℕ). on_accepted length (write_message k a.«data».now)) is);
    }

pub put-requires : goal.put-requires
put-requires c =
    let taken : is_state c.args.state.now ≡ true = sym c.is_state.ensures ∙ not-false _ c.if-not-is_state.false-raw in
    state_length c.args.state.now taken

pub returns-in_err-_size : goal.returns-in_err-_size
returns-in_err-_size c =
    let is_one : is_secret c.args.secret.now ≡ true = sym c.is_secret.ensures ∙ not-false _ c.if-not-is_secret.false-raw in
    let taken : is_state c.args.state.now ≡ true = sym c.is_state.ensures ∙ not-false _ c.if-not-is_state.false-raw in
    let a = c.args in
    let w = leaves a.secret.now a.state.now a.seconds a.kind a.«data».now (refused _)
    (no_message a.secret.now a.state.now a.seconds a.kind a.«data».now is_one taken _ c.in_err-_size.ensures) in
    let p = err_from_is_err_and c.from_residual.result c.from_residual.ensures.1 in
    record { result_value = rw (p.1, p.2) w.0; state_after = w.1 }

pub returns : goal.returns
returns c =
    let is_one : is_secret c.args.secret.now ≡ true = sym c.is_secret.ensures ∙ not-false _ c.if-not-is_secret.false-raw in
    let taken : is_state c.args.state.now ≡ true = sym c.is_state.ensures ∙ not-false _ c.if-not-is_state.false-raw in
    let a = c.args in
    let secret = c.args.secret.now in
    let lent = c.args.state.now in
    let d = a.«data».now in
    let same : c.judge-judged.result ≡ judge secret a.kind d (elapsed a.seconds (state_of lent)) =
    c.judge-judged.ensures ∙ ap (judge secret a.kind d) (c.elapsed-before.ensures ∙ ap (elapsed a.seconds) c.state_of.ensures) in
    let l = leaves secret lent a.seconds a.kind d (accepted c.judge-judged.result)
    (by_message secret lent a.seconds a.kind d is_one taken _ c.in_ok-_size.ensures ∙ ap accepted (sym same)) in record {
      result_value = l.0;
      state_after = c.put.ensures ∙ l.1;
    }
