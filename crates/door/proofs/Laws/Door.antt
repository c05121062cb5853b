-- One message at the door: by its checks, by the ways to judge it, during a shut-out, what a login shows, and its digits. Assumes nothing.
use Prim.Native.Nat.{ℕ, ◌+◌, ◌-◌, ◌<◌, ◌≤◌}
use mathlib.Core.Path.{◌≡◌, refl, sym, ap, ◌∙◌}
use mathlib.Core.Bool.{Bool, true, false, cond, not, ◌&&◌}
use mathlib.Core.List.{List}
use mathlib.Core.Logic.{◌⊎◌, inl, inr}
use native.Mathlib.Omega.{arith}
use lib.Dec.{eqb, ltb}
use lib.ListN.{length, get_or}
use mir.Val.{bool_byte}
use borrow.Author.Tests.{eqb-true, eq-eqb, ne_eqb, lt-ltb, le-ltb, ltb-true, ltb-false}
use Rattle.answer.specs.Answer.{Outcome, refused, accepted, and_then, on_accepted}
use Rattle.answer.proofs.Laws.Test.{same, passed_not, then_accepted, on_accepted_lem, still_refused}
use Rattle.message.specs.Message.{write_message}
use Rattle.message.proofs.Laws.Checked.{both}
use Rattle.door.specs.State.{most_wrong, shut_out, is_secret, is_state, state_of}
use Rattle.door.specs.Door.{login_type, as_state, replied, elapsed, same_digits, wrong_login, on_login, on_other, judge, step, reply_by, state_after}
use Rattle.door.specs.declared.Reply.{Reply}
use Rattle.door.specs.declared.Reply.TheVariants.{Acknowledge, NegativeAcknowledge, PassedOn}
use Rattle.door.specs.declared.judge.Judged.{Judged}
use Rattle.door.specs.declared.state.State.{State}
use Rattle.door.proofs.Laws.State.{Ranges, same_four}

-- ---- by its checks

module _ (secret lent : List ℕ) (seconds kind : ℕ) (d : List ℕ) where
  abbrev outcome : Outcome Judged
  outcome = step secret lent seconds kind d

  abbrev judged : Judged
  judged = judge secret kind d (elapsed seconds (state_of lent))

  -- what a call answers and leaves, where the outcome is known
  pub leaves : (o : Outcome Judged) → outcome ≡ o → (reply_by o ≡ reply_by outcome) × (state_after o lent ≡ state_after outcome lent)
  leaves o e = (ap reply_by (sym e), ap (λ (x : Outcome Judged). state_after x lent) (sym e))

  pub no_secret : is_secret secret ≡ false → outcome ≡ refused 8
  unfolding step
  no_secret e = simp e

  module _ (secret_is : is_secret secret ≡ true) where
    pub no_state : is_state lent ≡ false → outcome ≡ refused 8
    unfolding step
    no_state e = simp (secret_is, e)

    module _ (state_is : is_state lent ≡ true) where
      behind : outcome ≡ and_then (write_message kind d) (λ frame. accepted judged)
      unfolding step
      behind = simp (secret_is, state_is)

      -- by the size that the message's writer answers
      pub no_message : (n : ℕ) → refused n ≡ on_accepted length (write_message kind d) → outcome ≡ refused n
      no_message n e =
          behind ∙ ap (λ (o : Outcome (List ℕ)). and_then o (λ frame. accepted judged)) (still_refused length (write_message kind d) n (sym e))

      pub by_message : (n : ℕ) → accepted n ≡ on_accepted length (write_message kind d) → outcome ≡ accepted judged
      by_message n e =
          behind ∙ ap (λ (o : Outcome (List ℕ)). and_then o (λ frame. accepted judged)) (on_accepted_lem length (write_message kind d) n (sym e)).1

  -- and what is accepted passed them
  pub record WasJudged (j : Judged) : Type 0 where
    pub secret_is : is_secret secret ≡ true
    pub state_is : is_state lent ≡ true
    pub written : (s : List ℕ) × (write_message kind d ≡ accepted s)
    pub is : judged ≡ j

  pub was_judged : (j : Judged) → outcome ≡ accepted j → WasJudged j
  unfolding step
  was_judged j e =
      let p = passed_not (is_secret secret) 8 _ j e in
      let q = passed_not (is_state lent) 8 _ j p.1 in
      let w = then_accepted (write_message kind d) (λ frame. accepted judged) j q.1 in
      record { secret_is = p.0; state_is = q.0; written = (w.0, w.1); is = same w.2 }

-- ---- the ways to judge a message, for what holds of each

-- a login: during a shut-out, the right one, a wrong one
any_login : (P : Bool → Judged → Type 0) (st : State) → ((right : Bool) → 0 < st.left → P right (replied NegativeAcknowledge st))
    → (st.left ≡ 0 → P true (replied Acknowledge (as_state true 0 0))) → (st.left ≡ 0 → P false (replied NegativeAcknowledge (wrong_login st)))
    → (right : Bool) → P right (on_login right st)
any_login P st shut opens counts right = by (ltb 0 st.left) refl right
  where
    by : (t : Bool) → ltb 0 st.left ≡ t → (right : Bool)
        → P right (cond t (replied NegativeAcknowledge st) (cond right (replied Acknowledge (as_state true 0 0)) (replied NegativeAcknowledge (wrong_login st))))
    by true e right = shut right (ltb-true 0 st.left e)
    by false e true = opens (omega (arith, ltb-false 0 st.left e))
    by false e false = counts (omega (arith, ltb-false 0 st.left e))

module _ (P : Judged → Type 0) where
  either_way : (t : Bool) (x y : Judged) → P x → P y → P (cond t x y)
  either_way true x y p q = p
  either_way false x y p q = q

  module _ (st : State) where
    -- another message leaves the state, or ends the session
    abbrev ended : Judged
    ended = replied Acknowledge (as_state false st.wrong st.left)

    any_other : (kind : ℕ) → ((r : Reply) → P (replied r st)) → P ended → P (on_other kind st)
    any_other kind stays ends =
        either_way (not st.logged_in) (replied NegativeAcknowledge st) (cond (eqb kind 0x05) (replied Acknowledge st) (cond (eqb kind 0x21) ended (replied PassedOn st)))
        (stays NegativeAcknowledge)
        (either_way (eqb kind 0x05) (replied Acknowledge st) (cond (eqb kind 0x21) ended (replied PassedOn st))
        (stays Acknowledge)
        (either_way (eqb kind 0x21) ended (replied PassedOn st) ends (stays PassedOn)))

    -- a login or another message
    any_message : (secret : List ℕ) (kind : ℕ) (d : List ℕ) → ((right : Bool) → P (on_login right st)) → P (on_other kind st) → P (judge secret kind d st)
    any_message secret kind d login other = either_way (eqb kind login_type) (on_login (same_digits secret d) st) (on_other kind st) (login (same_digits secret d)) other

-- ---- the ranges of the state that is left

module _ (st : State) (r : Ranges st) where
  pub elapsed_ranges : (seconds : ℕ) → Ranges (elapsed seconds st)
  elapsed_ranges seconds = record { few = r.few; short = omega (arith, r.short); one = by r.one }
    where
      by : (st.wrong ≡ 0) ⊎ (st.left ≡ 0) → (st.wrong ≡ 0) ⊎ (st.left - seconds ≡ 0)
      by (inl none) = inl none
      by (inr none) = inr (omega arith)

  -- a wrong login where nothing is left of a shut-out
  wrong_ranges : st.left ≡ 0 → Ranges (wrong_login st)
  wrong_ranges none = by (ltb st.wrong most_wrong) refl
    where
      by : (t : Bool) → ltb st.wrong most_wrong ≡ t → Ranges (cond t (as_state st.logged_in (st.wrong + 1) st.left) (as_state st.logged_in 0 shut_out))
      by true e = record { few = omega (arith, ltb-true st.wrong most_wrong e); short = omega arith; one = inr none }
      by false e = record { few = omega arith; short = omega arith; one = inl refl }

  login_ranges : (right : Bool) → Ranges (on_login right st).state
  login_ranges = any_login (λ right j. Ranges j.state) st (λ right shut. r) (λ none. record { few = omega arith; short = omega arith; one = inl refl }) wrong_ranges

  pub judged_ranges : (secret : List ℕ) (kind : ℕ) (d : List ℕ) → Ranges (judge secret kind d st).state
  judged_ranges secret kind d =
      any_message (λ j. Ranges j.state) st secret kind d login_ranges
      (any_other (λ j. Ranges j.state) st kind (λ _. r) (record { few = r.few; short = r.short; one = r.one }))

-- ---- during a shut-out

module _ (st : State) (shut : 0 < st.left) where
  shut_login : (right : Bool) → on_login right st ≡ replied NegativeAcknowledge st
  shut_login right = simp (lt-ltb 0 st.left shut)

  -- the seconds left stay, whatever comes
  pub shut_left : (secret : List ℕ) (kind : ℕ) (d : List ℕ) → (judge secret kind d st).state.left ≡ st.left
  shut_left secret kind d =
      any_message (λ j. j.state.left ≡ st.left) st secret kind d (λ right. ap (λ (j : Judged). j.state.left) (shut_login right))
      (any_other (λ j. j.state.left ≡ st.left) st kind (λ _. refl) refl)

  -- and a login is answered 06
  pub shut_reply : (secret d : List ℕ) → (judge secret login_type d st).reply ≡ NegativeAcknowledge
  shut_reply secret d = ap (λ (j : Judged). j.reply) (shut_login (same_digits secret d))

-- ---- what a login shows

pub negative_differs : NegativeAcknowledge ≡ Acknowledge → ⊥
negative_differs e = let z : ◌≡◌ {A = ℕ} 0 1 = cc in omega arith

-- it is answered 05 only where it is right
pub right_login : (st : State) (right : Bool) → (on_login right st).reply ≡ Acknowledge → right ≡ true
right_login st =
    any_login (λ right j. j.reply ≡ Acknowledge → right ≡ true) st (λ right shut e. absurd (negative_differs e)) (λ none e. refl) (λ none e. absurd (negative_differs e))

-- else it is answered, and leaves the state, as a wrong one
as_wrong : (st : State) (right : Bool) → ((on_login right st).reply ≡ Acknowledge → ⊥) → on_login right st ≡ on_login false st
as_wrong st =
    any_login (λ right j. (j.reply ≡ Acknowledge → ⊥) → j ≡ on_login false st) st
    (λ right shut no_more. sym (shut_login st shut false))
    (λ none no_more. absurd (no_more refl))
    (λ none no_more. simp (le-ltb 0 st.left (omega arith)))

-- so two secrets show the same, where neither accepts
pub judged_alike : (first second : List ℕ) (kind : ℕ) (d : List ℕ) (st : State) → (kind ≡ login_type → (judge first kind d st).reply ≡ Acknowledge → ⊥)
    → (kind ≡ login_type → (judge second kind d st).reply ≡ Acknowledge → ⊥) → judge first kind d st ≡ judge second kind d st
judged_alike first second kind d st = by (eqb kind login_type) refl
  where
    at : Bool → List ℕ → Judged
    at t secret = cond t (on_login (same_digits secret d) st) (on_other kind st)

    by : (t : Bool) → eqb kind login_type ≡ t → (kind ≡ login_type → (at t first).reply ≡ Acknowledge → ⊥) → (kind ≡ login_type → (at t second).reply ≡ Acknowledge → ⊥)
        → at t first ≡ at t second
    by true e none nor =
        let is = eqb-true kind login_type e in
        as_wrong st (same_digits first d) (none is) ∙ sym (as_wrong st (same_digits second d) (nor is))
    by false e none nor = refl

-- ---- digits

-- a truth value counts at most one
pub at_most_one : (t : Bool) → bool_byte t ≤ 1
at_most_one true = omega arith
at_most_one false = omega arith

none_differs : (a b c d : Bool) → eqb (bool_byte (not a) + bool_byte (not b) + bool_byte (not c) + bool_byte (not d)) 0 ≡ (a && (b && (c && d)))
none_differs true true true true = refl
none_differs true true true false = refl
none_differs true true false true = refl
none_differs true true false false = refl
none_differs true false c d = ne_eqb (1 + bool_byte (not c) + bool_byte (not d)) 0 (omega arith)
none_differs false b c d = ne_eqb (1 + bool_byte (not b) + bool_byte (not c) + bool_byte (not d)) 0 (omega arith)

-- counted, no digit differs
pub same_digits_lem : (s d : List ℕ)
    → eqb (bool_byte (not (eqb (get_or s 0 0) (get_or d 0 0))) + bool_byte (not (eqb (get_or s 1 0) (get_or d 1 0))) + bool_byte (not (eqb (get_or s 2 0) (get_or d 2 0))) + bool_byte (not (eqb (get_or s 3 0) (get_or d 3 0)))) 0 ≡ same_digits s d
unfolding same_digits
same_digits_lem s d = none_differs (eqb (get_or s 0 0) (get_or d 0 0)) (eqb (get_or s 1 0) (get_or d 1 0)) (eqb (get_or s 2 0) (get_or d 2 0)) (eqb (get_or s 3 0) (get_or d 3 0))

-- a right login's are the secret's
pub digits_same : (s d : List ℕ) → length s ≡ 4 → length d ≡ 4 → same_digits s d ≡ true → d ≡ s
unfolding same_digits
digits_same s d four also e =
    let p = both e in
    let q = both p.1 in
    let r = both q.1 in
    same_four s d four also (eqb-true _ _ p.0) (eqb-true _ _ q.0) (eqb-true _ _ r.0) (eqb-true _ _ r.1)

-- the secret's own
pub own-digits : (s : List ℕ) → same_digits s s ≡ true
unfolding same_digits
own-digits s =
    simp (eq-eqb (get_or s 0 0) (get_or s 0 0) refl, eq-eqb (get_or s 1 0) (get_or s 1 0) refl, eq-eqb (get_or s 2 0) (get_or s 2 0) refl, eq-eqb (get_or s 3 0) (get_or s 3 0) refl)
