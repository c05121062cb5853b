-- The map's registers: what a store leaves in each, and runs of registers taken one by one. Assumes nothing.
use mathlib.Core.Path.{◌≡◌, refl, sym, ap, ◌∙◌}
use mathlib.Core.Bool.{true, ◌&&◌}
use mathlib.Core.List.{List, [], ◌∷◌, append_assoc}
use Prim.Native.Nat.{ℕ, zero, suc, ◌+◌, ◌-◌, ◌<◌, ◌≤◌}
use native.Mathlib.Nat.{add-zero, add-suc, suc-add, le_of_suc-le-suc, not-suc-le-zero}
use native.Mathlib.Numerals.{add-one}
use native.Mathlib.Omega.{arith}
use lib.ListN.{length, get_or, take, drop, set, length-set, drop_of_length-le}
use lib.Seq.{paste, paste-zero, take-suc-set, drop-set-lt, drop-cons, get_or-set_same, get_or-set_other}
use Rattle.thermostat.specs.Registers.{listed, settable}
use Rattle.thermostat.specs.Map.{content, put, contents, run, stored}
use Rattle.thermostat.specs.Step.{all_settable, all_listed}

-- ---- the content of a register

module _ (m : List ℕ) (r v : ℕ) where
  pub put_same : r < length m → content (put m r v) r ≡ v
  unfolding content put
  put_same h = get_or-set_same m r v 0 h

  pub put_other : (q : ℕ) → (q ≡ r → ⊥) → content (put m r v) q ≡ content m q
  unfolding content put
  put_other q n = get_or-set_other m r q v 0 n

  pub put-length : length (put m r v) ≡ length m
  unfolding put
  put-length = length-set m r v

-- ---- values in registers from a start

-- a register before the start, or past the last value, is as it was
pub stored_before : (m : List ℕ) (r : ℕ) (vs : List ℕ) (q : ℕ) → q < r → content (stored m r vs) q ≡ content m q
unfolding stored
stored_before m r [] q h = refl
stored_before m r (v ∷ vs) q h =
    let n : q ≡ r → ⊥ = λ e. omega arith in
    let l : q < suc r = omega arith in
    stored_before (put m r v) (suc r) vs q l ∙ put_other m r v q n

pub stored_past : (m : List ℕ) (r : ℕ) (vs : List ℕ) (q : ℕ) → r + length vs ≤ q → content (stored m r vs) q ≡ content m q
unfolding stored
stored_past m r [] q h = refl
stored_past m r (v ∷ vs) q h =
    let n : q ≡ r → ⊥ = λ e. omega arith in
    let l : suc r + length vs ≤ q = omega arith in
    stored_past (put m r v) (suc r) vs q l ∙ put_other m r v q n

-- a register of the run holds its value
pub stored_in : (m : List ℕ) (r : ℕ) (vs : List ℕ) (i : ℕ) → r + length vs ≤ length m → i < length vs
    → content (stored m r vs) (r + i) ≡ get_or vs i 0
unfolding stored
stored_in m r [] i h k = absurd (not-suc-le-zero k)
stored_in m r (v ∷ vs) zero h k =
    let l : r < suc r = omega arith in
    let b : r < length m = omega arith in
    ap (λ (q : ℕ). content (stored (put m r v) (suc r) vs) q) (add-zero r) ∙ stored_before (put m r v) (suc r) vs r l ∙ put_same m r v b
stored_in m r (v ∷ vs) (suc i) h k =
    let l : suc r + length vs ≤ length (put m r v) = omega (arith, put-length m r v) in
    ap (λ (q : ℕ). content (stored (put m r v) (suc r) vs) q) (add-suc r i ∙ sym (suc-add r i))
    ∙ stored_in (put m r v) (suc r) vs i l (le_of_suc-le-suc k)

-- ---- one register after the other

up_one : (r i : ℕ) → suc (r + i) ≡ r + (i + 1)
up_one r i = omega arith

module _ (r : ℕ) (vs : List ℕ) (i : ℕ) where
  pub settable_next : i < length vs
      → all_settable (r + i) (drop i vs) ≡ (settable (r + i) (get_or vs i 0) && all_settable (r + (i + 1)) (drop (i + 1) vs))
  unfolding all_settable
  settable_next h =
      ap (λ (l : List ℕ). all_settable (r + i) l) (drop-cons vs i 0 h)
      ∙ ap (λ (q : ℕ). settable (r + i) (get_or vs i 0) && all_settable q (drop (suc i) vs)) (up_one r i)
      ∙ ap (λ (n : ℕ). settable (r + i) (get_or vs i 0) && all_settable (r + (i + 1)) (drop n vs)) (sym (add-one i))

  pub settable_ended : length vs ≤ i → all_settable (r + i) (drop i vs) ≡ true
  unfolding all_settable
  settable_ended h = ap (λ (l : List ℕ). all_settable (r + i) l) (drop_of_length-le vs h)

-- values stored one after the other are copied
pub stored_paste : (m : List ℕ) (r : ℕ) (vs : List ℕ) → r + length vs ≤ length m → stored m r vs ≡ paste m r vs (length vs)
unfolding stored put
stored_paste m r [] h = paste-zero m r []
stored_paste m r (v ∷ vs) h =
    let l : r < length m = omega arith in
    let n : r < r + suc (length vs) = omega arith in
    let k : suc r + length vs ≤ length (set m r v) = omega (arith, length-set m r v) in
    let e : suc r + length vs ≡ r + suc (length vs) = omega arith in
    stored_paste (set m r v) (suc r) vs k
    ∙ simp (take-suc-set m r v l, e, drop-set-lt (r + suc (length vs)) m r v n, append_assoc)

module _ (r past : ℕ) where
  pub listed_next : r < past → all_listed (run r (past - r)) ≡ (listed r && all_listed (run (r + 1) (past - (r + 1))))
  unfolding all_listed run
  listed_next h =
      let k : past - r ≡ suc (past - (r + 1)) = omega arith in
      ap (λ (n : ℕ). all_listed (run r n)) k ∙ ap (λ (q : ℕ). listed r && all_listed (run q (past - (r + 1)))) (sym (add-one r))

  pub listed_ended : past ≤ r → all_listed (run r (past - r)) ≡ true
  unfolding all_listed run
  listed_ended h = let k : past - r ≡ 0 = omega arith in ap (λ (n : ℕ). all_listed (run r n)) k

-- ---- the contents of a run are a part of the map

pub contents-run : (m : List ℕ) (r count : ℕ) → r + count ≤ length m → contents m (run r count) ≡ take count (drop r m)
unfolding content run
contents-run m r zero h = refl
contents-run m r (suc count) h =
    let l : r < length m = omega arith in
    let k : suc r + count ≤ length m = omega arith in
    ap (λ (s : List ℕ). get_or m r 0 ∷ s) (contents-run m (suc r) count k)
    ∙ sym (ap (λ (s : List ℕ). take (suc count) s) (drop-cons m r 0 l))
