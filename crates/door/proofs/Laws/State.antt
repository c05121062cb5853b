-- The secret and the lent state: what their bytes say, and the bytes of a state. Assumes nothing.
use Prim.Native.Nat.{ℕ, ◌≤◌}
use mathlib.Core.Path.{◌≡◌, refl, sym, ap, ◌∙◌}
use mathlib.Core.Bool.{Bool, true, false, ◌&&◌, ◌||◌}
use mathlib.Core.List.{List, [], ◌∷◌}
use mathlib.Core.Logic.{◌⊎◌, inl, inr}
use native.Mathlib.Omega.{arith}
use lib.Dec.{eqb, leb}
use lib.ListN.{length, get_or, set}
use borrow.Author.Tests.{eqb-true, eq-eqb, leb-true, le-leb}
use Rattle.answer.specs.Bit.{bit}
use Rattle.message.specs.Message.{digits_listed}
use Rattle.message.proofs.Laws.Checked.{both}
use Rattle.door.specs.State.{most_wrong, shut_out, is_secret, seconds_left, is_state, state_of, state_bytes}
use Rattle.door.specs.declared.state.State.{State}

-- the four digits of a secret
pub secret_digits : (s : List ℕ) → is_secret s ≡ true
    → (length s ≡ 4) × (digits_listed (get_or s 0 0) (get_or s 1 0) (get_or s 2 0) (get_or s 3 0) ≡ true)
unfolding is_secret
secret_digits s e = let p = both e in (eqb-true (length s) 4 p.0, p.1)

-- four digits that are the same, one by one
pub same_four : (s d : List ℕ) → length s ≡ 4 → length d ≡ 4 → get_or s 0 0 ≡ get_or d 0 0 → get_or s 1 0 ≡ get_or d 1 0 → get_or s 2 0 ≡ get_or d 2 0 → get_or s 3 0 ≡ get_or d 3 0
    → d ≡ s
same_four s d four also a b c e = four_listed d also ∙ (λ i. sym a i ∷ sym b i ∷ sym c i ∷ sym e i ∷ []) ∙ sym (four_listed s four)
  where
    four_listed : (s : List ℕ) → length s ≡ 4 → s ≡ get_or s 0 0 ∷ get_or s 1 0 ∷ get_or s 2 0 ∷ get_or s 3 0 ∷ []
    four_listed [] h = let z : ⊥ = omega arith in absurd z
    four_listed (p ∷ []) h = let z : ⊥ = omega arith in absurd z
    four_listed (p ∷ q ∷ []) h = let z : ⊥ = omega arith in absurd z
    four_listed (p ∷ q ∷ r ∷ []) h = let z : ⊥ = omega arith in absurd z
    four_listed (p ∷ q ∷ r ∷ s ∷ []) h = refl
    four_listed (p ∷ q ∷ r ∷ s ∷ t ∷ l) h = let z : ⊥ = omega arith in absurd z

-- ---- what is left in the lent bytes

pub four_written : (s : List ℕ) (a b c d : ℕ) → length s ≡ 4 → set (set (set (set s 0 a) 1 b) 2 c) 3 d ≡ a ∷ b ∷ c ∷ d ∷ []
four_written [] a b c d h = let z : ⊥ = omega arith in absurd z
four_written (p ∷ []) a b c d h = let z : ⊥ = omega arith in absurd z
four_written (p ∷ q ∷ []) a b c d h = let z : ⊥ = omega arith in absurd z
four_written (p ∷ q ∷ r ∷ []) a b c d h = let z : ⊥ = omega arith in absurd z
four_written (p ∷ q ∷ r ∷ s ∷ []) a b c d h = refl
four_written (p ∷ q ∷ r ∷ s ∷ t ∷ l) a b c d h = let z : ⊥ = omega arith in absurd z

-- ---- the bytes of a state say that state

pub left_back : (st : State) → seconds_left (state_bytes st) ≡ st.left
unfolding state_bytes
left_back st = omega arith

bit_back : (t : Bool) → eqb (bit t) 1 ≡ t
bit_back true = refl
bit_back false = refl

pub state_back : (st : State) → state_of (state_bytes st) ≡ st
unfolding state_of state_bytes
state_back st = λ i. record { logged_in = bit_back st.logged_in i; wrong = st.wrong; left = left_back st i }

-- ---- the ranges of a state

pub record Ranges (st : State) : Type 0 where
  pub few : st.wrong ≤ most_wrong
  pub short : st.left ≤ shut_out
  pub one : (st.wrong ≡ 0) ⊎ (st.left ≡ 0)

either_none : (a b : ℕ) → (eqb a 0 || eqb b 0) ≡ true → (a ≡ 0) ⊎ (b ≡ 0)
either_none a b h = by (eqb a 0) refl h
  where
    by : (t : Bool) → eqb a 0 ≡ t → (t || eqb b 0) ≡ true → (a ≡ 0) ⊎ (b ≡ 0)
    by true e h = inl (eqb-true a 0 e)
    by false e h = inr (eqb-true b 0 h)

none_either : (a b : ℕ) → (a ≡ 0) ⊎ (b ≡ 0) → (eqb a 0 || eqb b 0) ≡ true
none_either a b (inl e) = ap (λ (t : Bool). t || eqb b 0) (eq-eqb a 0 e)
none_either a b (inr e) = by (eqb a 0)
  where
    by : (t : Bool) → (t || eqb b 0) ≡ true
    by true = refl
    by false = eq-eqb b 0 e

-- the last two tests of a state, where the ones before them hold
pub by_seconds : (lent : List ℕ) → length lent ≡ 4 → get_or lent 0 0 ≤ 1 → get_or lent 1 0 ≤ most_wrong
    → is_state lent ≡ (leb (seconds_left lent) shut_out && (eqb (get_or lent 1 0) 0 || eqb (seconds_left lent) 0))
unfolding is_state
by_seconds lent four first few = simp (eq-eqb (length lent) 4 four, le-leb (get_or lent 0 0) 1 first, le-leb (get_or lent 1 0) most_wrong few)

pub state_length : (lent : List ℕ) → is_state lent ≡ true → length lent ≡ 4
unfolding is_state
state_length lent e = eqb-true (length lent) 4 (both e).0

module _ (lent : List ℕ) where
  abbrev one_alone : Bool
  one_alone = eqb (get_or lent 1 0) 0 || eqb (seconds_left lent) 0

  abbrev timed : Bool
  timed = leb (seconds_left lent) shut_out && one_alone

  abbrev counts : Bool
  counts = leb (get_or lent 1 0) most_wrong && timed

  abbrev logs : Bool
  logs = leb (get_or lent 0 0) 1 && counts

  pub state_ranges : is_state lent ≡ true → Ranges (state_of lent)
  unfolding is_state state_of
  state_ranges e =
      let l = (both {a = eqb (length lent) 4} {b = logs} e).1 in
      let c = (both {a = leb (get_or lent 0 0) 1} {b = counts} l).1 in
      let t = both {a = leb (get_or lent 1 0) most_wrong} {b = timed} c in
      let o = both {a = leb (seconds_left lent) shut_out} {b = one_alone} t.1 in
      record {
        few = leb-true (get_or lent 1 0) most_wrong t.0;
        short = leb-true (seconds_left lent) shut_out o.0;
        one = either_none (get_or lent 1 0) (seconds_left lent) o.1;
      }

bit_small : (t : Bool) → leb (bit t) 1 ≡ true
bit_small true = refl
bit_small false = refl

pub ranges_state : (st : State) → Ranges st → is_state (state_bytes st) ≡ true
unfolding is_state state_bytes
ranges_state st r =
    simp (bit_small st.logged_in, le-leb st.wrong most_wrong r.few)
    (ap (λ (n : ℕ). leb n shut_out && (eqb st.wrong 0 || eqb n 0)) (left_back st)
    ∙ simp (le-leb st.left shut_out r.short) (none_either st.wrong st.left r.one))
