-- Calls and runs of calls at the door: it keeps its secret, accepts the right login and no other, stays shut while seconds are left, and
-- leaves states that it takes. Assumes nothing.
use Prim.Native.Nat.{ℕ, zero, suc, ◌+◌, ◌-◌, ◌<◌, ◌≤◌}
use mathlib.Core.Path.{◌≡◌, refl, sym, ap, subst, ◌∙◌}
use mathlib.Core.Bool.{Bool, true, false, not}
use mathlib.Core.List.{List, [], ◌∷◌}
use native.Mathlib.Omega.{arith}
use lib.Dec.{ltb}
use lib.ListN.{length, take}
use borrow.Author.Tests.{le-ltb}
use Rattle.answer.specs.Answer.{Outcome, refused, accepted, refuse_if, and_then, on_accepted}
use Rattle.answer.proofs.Laws.Test.{not_accepted, same, on_accepted_lem}
use Rattle.message.specs.Message.{write_message}
use Rattle.message.proofs.Laws.Sized.{login_written, login_length}
use Rattle.door.specs.State.{is_secret, is_state, seconds_left, state_of, state_bytes}
use Rattle.door.specs.Door.{login_type, as_state, replied, elapsed, same_digits, judge, step, reply_by, state_after}
use Rattle.door.specs.Runs.{Sent, Call, call, run, Accepts, NoLogin, seconds_of, seconds_passed, state_found, KeepsSecret, Opens, OnlyTheSecret, StaysShut, CountsDown, LeavesAState, LoginDoor}
use Rattle.door.specs.declared.Reply.TheVariants.{Acknowledge}
use Rattle.door.specs.declared.judge.Judged.{Judged}
use Rattle.door.proofs.Laws.State.{left_back, secret_digits, state_ranges, ranges_state}
use Rattle.door.proofs.Laws.Door.{was_judged, by_message, elapsed_ranges, judged_ranges, negative_differs, shut_left, shut_reply, right_login, judged_alike, digits_same, own-digits}

-- ---- one call at two secrets

module _ (lent : List ℕ) (m : Sent) where
  abbrev seen : Outcome Judged → Call
  seen o = record { sent = m; answer = reply_by o; state = state_after o lent }

  -- behind the check of a secret, by what the message is judged
  abbrev behind : Judged → Outcome Judged
  behind j = refuse_if (not (is_state lent)) 8 (and_then (write_message m.kind m.bytes) (λ frame. accepted j))

  abbrev judged : List ℕ → Judged
  judged secret = judge secret m.kind m.bytes (elapsed m.seconds (state_of lent))

  at_secret : (secret : List ℕ) → is_secret secret ≡ true → call secret lent m ≡ seen (behind (judged secret))
  unfolding step
  at_secret secret e = ap (λ (t : Bool). seen (refuse_if (not t) 8 (behind (judged secret)))) e

  abbrev NoneAccepted : Call → Type 0
  NoneAccepted c = Accepts c → ⊥

  alike : (first second : List ℕ) → NoneAccepted (seen (behind (judged first))) → NoneAccepted (seen (behind (judged second))) → behind (judged first) ≡ behind (judged second)
  alike first second = by (is_state lent) (write_message m.kind m.bytes)
    where
      at : Bool → Outcome (List ℕ) → List ℕ → Outcome Judged
      at taken written secret = refuse_if (not taken) 8 (and_then written (λ frame. accepted (judged secret)))

      by : (taken : Bool) (written : Outcome (List ℕ)) → NoneAccepted (seen (at taken written first)) → NoneAccepted (seen (at taken written second)) → at taken written first ≡ at taken written second
      by false written none nor = refl
      by true (refused n) none nor = refl
      by true (accepted s) none nor =
          ap accepted (judged_alike first second m.kind m.bytes (elapsed m.seconds (state_of lent)) (λ is e. none (is, ap accepted e)) (λ is e. nor (is, ap accepted e)))

  same_call : (first second : List ℕ) → is_secret first ≡ true → is_secret second ≡ true → NoneAccepted (call first lent m) → NoneAccepted (call second lent m) → call first lent m ≡ call second lent m
  same_call first second a b none nor =
      let x = at_secret first a in
      let y = at_secret second b in
      x ∙ ap seen (alike first second (subst NoneAccepted x none) (subst NoneAccepted y nor)) ∙ sym y

pub keeps_secret : KeepsSecret
unfolding run NoLogin
keeps_secret first second lent [] n a b p q = refl
keeps_secret first second lent (m ∷ ms) zero a b p q = refl
keeps_secret first second lent (m ∷ ms) (suc n) a b p q =
    let same : call first lent m ≡ call second lent m = same_call lent m first second a b p.0 q.0 in
    let left : (call second lent m).state ≡ (call first lent m).state = ap (λ (c : Call). c.state) (sym same) in
    let later = keeps_secret first second (call first lent m).state ms n a b p.1 (subst (λ (s : List ℕ). NoLogin (take n (run second s ms))) left q.1) in
    let rest = later ∙ ap (λ (s : List ℕ). take n (run second s ms)) (sym left) in
    λ i. same i ∷ rest i

-- ---- the right login

module _ (secret lent : List ℕ) (seconds : ℕ) (few : seconds_left lent ≤ seconds) where
  none_left : ltb 0 (elapsed seconds (state_of lent)).left ≡ false
  unfolding state_of
  none_left = le-ltb 0 (seconds_left lent - seconds) (omega arith)

  judged_right : judge secret 0x20 secret (elapsed seconds (state_of lent)) ≡ replied Acknowledge (as_state true 0 0)
  judged_right = simp (none_left, own-digits secret)

logged_in : state_bytes (as_state true 0 0) ≡ 1 ∷ 0 ∷ 0 ∷ 0 ∷ []
unfolding state_bytes
logged_in = refl

pub opens : Opens
opens secret lent seconds a b few =
    let digits = secret_digits secret a in
    let sent = login_written secret digits.0 digits.1 in
    let e = by_message secret lent seconds 0x20 secret a b (length sent.0) (sym (ap (on_accepted length) sent.1))
    ∙ ap accepted (judged_right secret lent seconds few) in
    (ap reply_by e, ap (λ (o : Outcome Judged). state_after o lent) e ∙ logged_in)

-- and no other
pub only_the_secret : OnlyTheSecret
only_the_secret secret lent m a =
    let o = on_accepted_lem (λ (j : Judged). j.reply) (step secret lent m.seconds m.kind m.bytes) Acknowledge a.1 in
    let w = was_judged secret lent m.seconds m.kind m.bytes o.0 o.1 in
    let st = elapsed m.seconds (state_of lent) in
    let four = (secret_digits secret w.secret_is).0 in
    let written : accepted (length w.written.0) ≡ on_accepted length (write_message login_type m.bytes) =
    sym (ap (on_accepted length) w.written.1) ∙ ap (λ (k : ℕ). on_accepted length (write_message k m.bytes)) a.0 in
    let also = login_length m.bytes (length w.written.0) written in
    let reply : (judge secret login_type m.bytes st).reply ≡ Acknowledge =
    ap (λ (k : ℕ). (judge secret k m.bytes st).reply) (sym a.0) ∙ ap (λ (j : Judged). j.reply) w.is ∙ o.2 in
    (w.secret_is, digits_same secret m.bytes four also (right_login st (same_digits secret m.bytes) reply))

-- ---- a shut-out

-- one call during it: no login is accepted, and so many seconds are taken off
module _ (secret lent : List ℕ) (m : Sent) where
  abbrev outcome : Outcome Judged
  outcome = step secret lent m.seconds m.kind m.bytes

  abbrev Shut : Outcome Judged → Type 0
  Shut o = (((m.kind ≡ 0x20) × (reply_by o ≡ accepted Acknowledge)) → ⊥) × (seconds_left (state_after o lent) + seconds_of (reply_by o) m.seconds ≡ seconds_left lent)

  shut_call : seconds_of (call secret lent m).answer m.seconds < seconds_left lent → Shut outcome
  unfolding state_of
  shut_call few = by outcome refl few
    where
      by : (o : Outcome Judged) → outcome ≡ o → seconds_of (reply_by o) m.seconds < seconds_left lent → Shut o
      by (refused n) e few = (λ c. not_accepted n Acknowledge c.1, omega arith)
      by (accepted j) e few =
          let judged = (was_judged secret lent m.seconds m.kind m.bytes j e).is in
          let st = elapsed m.seconds (state_of lent) in
          let some : 0 < st.left = omega arith in
          let left : j.state.left ≡ seconds_left lent - m.seconds = ap (λ (x : Judged). x.state.left) (sym judged) ∙ shut_left st some secret m.kind m.bytes in
          (λ c. negative_differs (sym (shut_reply st some secret m.bytes) ∙ ap (λ (k : ℕ). (judge secret k m.bytes st).reply) (sym c.0) ∙ ap (λ (x : Judged). x.reply) judged ∙ same c.1), omega (arith, left_back j.state, left))

pub stays_shut : StaysShut
unfolding run NoLogin seconds_passed
stays_shut secret lent [] h = tt
stays_shut secret lent (m ∷ ms) h =
    let c = shut_call secret lent m (omega arith) in
    (c.0, stays_shut secret (call secret lent m).state ms (omega (arith, c.1)))

pub counts_down : CountsDown
unfolding run seconds_passed state_found
counts_down secret lent [] h = omega arith
counts_down secret lent (m ∷ ms) h =
    let c = shut_call secret lent m (omega arith) in
    omega (arith, c.1, counts_down secret (call secret lent m).state ms (omega (arith, c.1)))

-- ---- the state that is left

pub leaves_a_state : LeavesAState
leaves_a_state secret lent seconds kind d r e =
    let o = on_accepted_lem (λ (j : Judged). j.reply) (step secret lent seconds kind d) r e in
    let w = was_judged secret lent seconds kind d o.0 o.1 in
    let st = elapsed seconds (state_of lent) in
    ap (λ (x : Outcome Judged). is_state (state_after x lent)) o.1
    ∙ ap (λ (j : Judged). is_state (state_bytes j.state)) (sym w.is)
    ∙ ranges_state (judge secret kind d st).state (judged_ranges st (elapsed_ranges (state_of lent) (state_ranges lent w.state_is) seconds) secret kind d)

pub login_door : LoginDoor
login_door = record {
  keeps_secret = keeps_secret;
  opens = opens;
  only_the_secret = only_the_secret;
  stays_shut = stays_shut;
  counts_down = counts_down;
  leaves_a_state = leaves_a_state;
}
