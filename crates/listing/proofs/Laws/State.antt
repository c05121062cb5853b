-- The lent state: what it says, and the bytes that say it. Assumes nothing.
use mathlib.Core.Path.{◌≡◌, refl, sym, ap, ap₂, ◌∙◌}
use mathlib.Core.Bool.{Bool, true, false, not, ◌&&◌, ◌||◌, and-true, and_assoc, false≢true}
use mathlib.Core.List.{List, [], ◌∷◌, ◌++◌, append-nil}
use Prim.Native.Nat.{ℕ, zero, suc, ◌+◌, ◌-◌, ◌*◌, ◌/◌, ◌%◌, ◌<◌, ◌≤◌}
use native.Mathlib.Nat.{add-sub_cancel_left}
use native.Mathlib.Numerals.{add-one}
use native.Mathlib.Omega.{arith}
use lib.Bits.{bit_or, or_add_and, and_le_r}
use lib.Dec.{eqb, leb, eqb-suc-zero}
use lib.ListN.{length, get_or, take, drop, set, length-append, length-take, length-drop, take-append-drop, drop_of_length-le}
use lib.Seq.{take-length, drop-cons, length-take-le, take-append_seam, drop-append_seam}
use borrow.Author.Tests.{eqb-true, leb-true, eq-eqb, ne_eqb, le-leb, not-true}
use Rattle.listing.proofs.Laws.Output.{behind-all}
use Rattle.listing.proofs.Laws.Settled.{unsettled_few}
use Rattle.listing.specs.State.{State, as_state, settled, possible, zeros, all_zero, word, state_bytes, state_of, is_state, fresh}

and_parts : (a b : Bool) → (a && b) ≡ true → (a ≡ true) × (b ≡ true)
and_parts true b e = (refl, e)
and_parts false b e = absurd (false≢true e)

-- ---- zero bytes

pub zeros-length : (n : ℕ) → length (zeros n) ≡ n
unfolding zeros
zeros-length zero = refl
zeros-length (suc n) = ap suc (zeros-length n)

pub zeros-drop : (n m : ℕ) → drop n (zeros m) ≡ zeros (m - n)
unfolding zeros
zeros-drop zero m = let e : m ≡ m - 0 = omega arith in ap zeros e
zeros-drop (suc n) zero = let e : 0 ≡ 0 - suc n = omega arith in ap zeros e
zeros-drop (suc n) (suc m) = let e : m - n ≡ suc m - suc n = omega arith in zeros-drop n m ∙ ap zeros e

pub zeros_zero : (n : ℕ) → all_zero (zeros n) ≡ true
unfolding zeros all_zero
zeros_zero zero = refl
zeros_zero (suc n) = zeros_zero n

-- bytes that are all zero
pub zero_zeros : (s : List ℕ) → all_zero s ≡ true → s ≡ zeros (length s)
unfolding zeros all_zero
zero_zeros [] e = refl
zero_zeros (b ∷ s) e =
    let p = and_parts (eqb b 0) (all_zero s) e in
    ap₂ (λ (x : ℕ) (y : List ℕ). x ∷ y) (eqb-true b 0 p.0) (zero_zeros s p.1)

-- the bits of two numbers together are zero where both numbers are
or_zero : (m n : ℕ) → eqb (bit_or m n) 0 ≡ (eqb m 0 && eqb n 0)
or_zero zero n = refl
or_zero (suc m) n =
    let h : bit_or (suc m) n ≡ 0 → ⊥ = λ e. omega (arith, or_add_and (suc m) n, and_le_r (suc m) n) in
    ne_eqb (bit_or (suc m) n) 0 h ∙ sym (ap (λ (t : Bool). t && eqb n 0) (eqb-suc-zero m))

module _ (s : List ℕ) (i : ℕ) (h : i < length s) where
  -- one byte more is looked at
  pub zero_more : (all : ℕ) → (eqb all 0 && all_zero (drop i s)) ≡ (eqb (bit_or all (get_or s i 0)) 0 && all_zero (drop (i + 1) s))
  unfolding all_zero
  zero_more all =
      ap (λ (x : List ℕ). eqb all 0 && all_zero x) (drop-cons s i 0 h)
      ∙ sym (and_assoc (eqb all 0) (eqb (get_or s i 0) 0) (all_zero (drop (suc i) s)))
      ∙ ap₂ (λ (t : Bool) (k : ℕ). t && all_zero (drop k s)) (sym (or_zero all (get_or s i 0))) (sym (add-one i))

pub zero_ended : (s : List ℕ) (i : ℕ) → length s ≤ i → (t : Bool) → (t && all_zero (drop i s)) ≡ t
unfolding all_zero
zero_ended s i h t = ap (λ (x : List ℕ). t && all_zero x) (drop_of_length-le s {i = i} h) ∙ and-true t

-- ---- a state that pieces lead to

module _ (came run : ℕ) (s : List ℕ) where
  module _ (most : came ≤ 4096) where
    module _ (late : run + length s ≤ came) where
      pub by_nothing : came - (run + length s) ≡ 0 → possible (as_state came run s) ≡ not (settled s)
      unfolding possible
      by_nothing none =
          simp (le-leb came 4096 most, le-leb (run + length s) came late, eq-eqb (came - (run + length s)) 0 none)

      pub by_frame : (came - (run + length s) ≡ 0 → ⊥) → 5 ≤ came - (run + length s) → possible (as_state came run s) ≡ not (settled s)
      unfolding possible
      by_frame some h =
          simp (
            le-leb came 4096 most,
            le-leb (run + length s) came late,
            ne_eqb (came - (run + length s)) 0 some,
            le-leb 5 (came - (run + length s)) h,
          )

-- what is known of such a state, and that no more is asked
pub record Possible (st : State) : Type 0 where
  pub most : st.came ≤ 4096
  pub late : st.run + length st.unread ≤ st.came
  pub early : (st.came - (st.run + length st.unread) ≡ 0 → ⊥) → 5 ≤ st.came - (st.run + length st.unread)
  pub unsettled : settled st.unread ≡ false

pub possible_facts : (st : State) → possible st ≡ true → Possible st
unfolding possible
possible_facts st e =
    let late = st.run + length st.unread in
    let early = st.came - late in
    let p = and_parts (leb st.came 4096) _ e in
    let q = and_parts (leb late st.came) _ p.1 in
    let r = and_parts (eqb early 0 || leb 5 early) (not (settled st.unread)) q.1 in
    record {
      most = leb-true st.came 4096 p.0;
      late = leb-true late st.came q.0;
      early = λ some. leb-true 5 early (ap (λ (t : Bool). t || leb 5 early) (sym (ne_eqb early 0 some)) ∙ r.0);
      unsettled = not-true (settled st.unread) r.1;
    }

pub possible_by : (st : State) → Possible st → possible st ≡ true
possible_by st p = go (st.came - (st.run + length st.unread)) refl
  where
    go : (early : ℕ) → st.came - (st.run + length st.unread) ≡ early → possible st ≡ true
    go zero k = by_nothing st.came st.run st.unread p.most p.late k ∙ ap not p.unsettled
    go (suc n) k =
        let some : st.came - (st.run + length st.unread) ≡ 0 → ⊥ = λ z. omega arith in
        by_frame st.came st.run st.unread p.most p.late some (p.early some) ∙ ap not p.unsettled

-- ---- bytes that are a state

module _ (b : List ℕ) (e : is_state b ≡ true) where
  pub state_long : length b ≡ 74
  unfolding is_state
  state_long = eqb-true (length b) 74 (and_parts (eqb (length b) 74) _ e).0

  state_zero : all_zero (drop (5 + get_or b 4 0) b) ≡ true
  unfolding is_state
  state_zero = (and_parts (all_zero (drop (5 + get_or b 4 0) b)) _ (and_parts (eqb (length b) 74) _ e).1).0

  pub state_possible : possible (state_of b) ≡ true
  unfolding is_state
  state_possible = (and_parts (all_zero (drop (5 + get_or b 4 0) b)) _ (and_parts (eqb (length b) 74) _ e).1).1

  -- the count of unread bytes
  pub state_count : get_or b 4 0 ≤ 68
  unfolding state_of
  state_count =
      let few = unsettled_few (take (get_or b 4 0) (drop 5 b)) (possible_facts (state_of b) state_possible).unsettled in
      omega (arith, state_long, length-take (get_or b 4 0) (drop 5 b), length-drop 5 b)

module _ (b : List ℕ) where
  -- a law for each answer
  pub wrong_size : (length b ≡ 74 → ⊥) → is_state b ≡ false
  unfolding is_state
  wrong_size h = simp (ne_eqb (length b) 74 h)

  pub wrong_count : 68 < get_or b 4 0 → is_state b ≡ false
  wrong_count h = go (is_state b) refl
    where
      go : (t : Bool) → is_state b ≡ t → is_state b ≡ false
      go true e = let z : ⊥ = omega (arith, state_count b e) in absurd z
      go false e = e

  module _ (long : length b ≡ 74) where
    pub not_zero : all_zero (take (length b - (5 + get_or b 4 0)) (drop (5 + get_or b 4 0) b)) ≡ false → is_state b ≡ false
    unfolding is_state
    not_zero h = let z = ap all_zero (sym (behind-all b (5 + get_or b 4 0))) ∙ h in simp (eq-eqb (length b) 74 long, z)

    pub by_possible : all_zero (take (length b - (5 + get_or b 4 0)) (drop (5 + get_or b 4 0) b)) ≡ true → is_state b ≡ possible (state_of b)
    unfolding is_state
    by_possible h = let z = ap all_zero (sym (behind-all b (5 + get_or b 4 0))) ∙ h in simp (eq-eqb (length b) 74 long, z)

  -- the numbers and the unread bytes, as the code hands them on
  pub state_of_lem : (came run : ℕ) → came ≡ word b 0 → run ≡ word b 2 → as_state came run (take (5 + get_or b 4 0 - 5) (drop 5 b)) ≡ state_of b
  unfolding state_of
  state_of_lem came run c r =
      ap₂ (λ (x y : ℕ). as_state x y (take (5 + get_or b 4 0 - 5) (drop 5 b))) c r
      ∙ ap (λ (n : ℕ). as_state (word b 0) (word b 2) (take n (drop 5 b))) (add-sub_cancel_left 5 (get_or b 4 0))

-- ---- the bytes of a state

-- the stores of its first five bytes and of its unread bytes, into zeros
module _ (came run : ℕ) (u : List ℕ) where
  abbrev pub headed : List ℕ → List ℕ
  headed s = set (set (set (set (set s 0 (came / 256)) 1 (came % 256)) 2 (run / 256)) 3 (run % 256)) 4 (length u)

  pub state_written : (s : List ℕ) → s ≡ fresh
      → take 5 (headed s) ++ ((take (length u) u ++ drop (length u) (take (5 + length u - 5) (drop 5 (headed s)))) ++ drop (5 + length u - 5) (drop 5 (headed s)))
      ≡ state_bytes (as_state came run u)
  unfolding state_bytes zeros
  state_written s e =
      let n = length u in
      let none : drop n (take n (zeros 69)) ≡ [] = drop_of_length-le (take n (zeros 69)) {i = n} (simp length-take (omega arith)) in
      let head : List ℕ → List ℕ = λ x. came / 256 ∷ came % 256 ∷ run / 256 ∷ run % 256 ∷ n ∷ x in
      ap (λ (x : List ℕ). take 5 (headed x) ++ ((take n u ++ drop n (take (5 + n - 5) (drop 5 (headed x)))) ++ drop (5 + n - 5) (drop 5 (headed x)))) e
      ∙ ap (λ (k : ℕ). head ((take n u ++ drop n (take k (zeros 69))) ++ drop k (zeros 69))) (add-sub_cancel_left 5 n)
      ∙ ap₂ (λ (x y : List ℕ). head ((x ++ y) ++ drop n (zeros 69))) (take-length u) none
      ∙ ap₂ (λ (x y : List ℕ). head (x ++ y)) (append-nil u) (zeros-drop n 69)

-- what its bytes say is the state
pub state_of_bytes : (st : State) → possible st ≡ true → state_of (state_bytes st) ≡ st
unfolding state_of state_bytes
state_of_bytes st p =
    let c : st.came / 256 * 256 + st.came % 256 ≡ st.came = omega arith in
    let r : st.run / 256 * 256 + st.run % 256 ≡ st.run = omega arith in
    let s = st.unread ++ zeros (69 - length st.unread) in
    ap₂ (λ (x y : ℕ). as_state x y (take (length st.unread) s)) c r
    ∙ ap (as_state st.came st.run) (take-append_seam st.unread (zeros (69 - length st.unread)))

-- so many zeros behind the unread bytes make 74
module _ (st : State) (few : length st.unread ≤ 69) where
  pub bytes_long : length (state_bytes st) ≡ 74
  unfolding state_bytes
  bytes_long =
      let n = 69 - length st.unread in
      omega (arith, length-append st.unread (zeros n), zeros-length n)

  bytes_zero : all_zero (drop (5 + length st.unread) (state_bytes st)) ≡ true
  unfolding state_bytes
  bytes_zero =
      let n = length st.unread in
      let five : 5 + n ≡ suc (suc (suc (suc (suc n)))) = omega arith in
      ap (λ (k : ℕ). all_zero (drop k (state_bytes st))) five
      ∙ ap all_zero (drop-append_seam st.unread (zeros (69 - n)))
      ∙ zeros_zero (69 - n)

pub bytes_are_state : (st : State) → possible st ≡ true → is_state (state_bytes st) ≡ true
unfolding state_bytes is_state
bytes_are_state st p =
    let few = unsettled_few st.unread (possible_facts st p).unsettled in
    let fits : length st.unread ≤ 69 = omega arith in
    let same = ap possible (state_of_bytes st p) ∙ p in
    simp (eq-eqb (length (state_bytes st)) 74 (bytes_long st fits), bytes_zero st fits, same)

-- a state's bytes again, from what they say
module _ (x y z w n : ℕ) (s : List ℕ) (low : y < 256) (low' : w < 256) (long : length s ≡ 69) (few : n ≤ 68) where
  unread_again : all_zero (drop (5 + n) (x ∷ y ∷ z ∷ w ∷ n ∷ s)) ≡ true → take n s ++ zeros (69 - n) ≡ s
  unread_again clean =
      let five : 5 + n ≡ suc (suc (suc (suc (suc n)))) = omega arith in
      let rest : length (drop n s) ≡ 69 - n = omega (arith, length-drop n s) in
      let behind = ap (λ (k : ℕ). all_zero (drop k (x ∷ y ∷ z ∷ w ∷ n ∷ s))) (sym five) ∙ clean in
      ap (λ (k : ℕ). take n s ++ zeros k) (sym rest)
      ∙ ap (λ (t : List ℕ). take n s ++ t) (sym (zero_zeros (drop n s) behind))
      ∙ take-append-drop n s

  five_and : all_zero (drop (5 + n) (x ∷ y ∷ z ∷ w ∷ n ∷ s)) ≡ true
      → state_bytes (state_of (x ∷ y ∷ z ∷ w ∷ n ∷ s)) ≡ x ∷ y ∷ z ∷ w ∷ n ∷ s
  unfolding state_bytes state_of
  five_and clean =
      let a : (x * 256 + y) / 256 ≡ x = omega arith in
      let b : (x * 256 + y) % 256 ≡ y = omega arith in
      let c : (z * 256 + w) / 256 ≡ z = omega arith in
      let d : (z * 256 + w) % 256 ≡ w = omega arith in
      let m : length (take n s) ≡ n = length-take-le n s (omega arith) in
      ap₂ (λ (p q : ℕ). p ∷ q ∷ (z * 256 + w) / 256 ∷ (z * 256 + w) % 256 ∷ length (take n s) ∷ (take n s ++ zeros (69 - length (take n s)))) a b
      ∙ ap₂ (λ (p q : ℕ). x ∷ y ∷ p ∷ q ∷ length (take n s) ∷ (take n s ++ zeros (69 - length (take n s)))) c d
      ∙ ap (λ (k : ℕ). x ∷ y ∷ z ∷ w ∷ k ∷ (take n s ++ zeros (69 - k))) m
      ∙ ap (λ (t : List ℕ). x ∷ y ∷ z ∷ w ∷ n ∷ t) (unread_again clean)

pub bytes_of_state : (b : List ℕ) → ((i : ℕ) → get_or b i 0 < 256) → is_state b ≡ true → state_bytes (state_of b) ≡ b
bytes_of_state b small e = go b small (state_long b e) (state_count b e) (state_zero b e)
  where
    short : (k : ℕ) → k ≡ 74 → k < 5 → ⊥
    short k e h = omega arith

    go : (b : List ℕ) → ((i : ℕ) → get_or b i 0 < 256) → length b ≡ 74 → get_or b 4 0 ≤ 68 → all_zero (drop (5 + get_or b 4 0) b) ≡ true
        → state_bytes (state_of b) ≡ b
    go [] small long few clean = absurd (short 0 long (omega arith))
    go (x ∷ []) small long few clean = absurd (short 1 long (omega arith))
    go (x ∷ y ∷ []) small long few clean = absurd (short 2 long (omega arith))
    go (x ∷ y ∷ z ∷ []) small long few clean = absurd (short 3 long (omega arith))
    go (x ∷ y ∷ z ∷ w ∷ []) small long few clean = absurd (short 4 long (omega arith))
    go (x ∷ y ∷ z ∷ w ∷ n ∷ s) small long few clean = five_and x y z w n s (small 1) (small 3) (omega arith) few clean

-- ---- a fresh state

pub fresh-is_state : is_state fresh ≡ true
unfolding is_state all_zero possible state_of settled zeros
fresh-is_state = refl

pub fresh_of : state_of fresh ≡ as_state 0 0 []
unfolding state_of zeros
fresh_of = refl

pub fresh_bytes : state_bytes (as_state 0 0 []) ≡ fresh
unfolding state_bytes zeros
fresh_bytes = refl
