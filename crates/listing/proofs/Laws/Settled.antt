-- When a place is settled, and that it stays so, with the same judgement, whatever follows. Assumes nothing.
use mathlib.Core.Path.{◌≡◌, refl, sym, ap, ◌∙◌}
use mathlib.Core.Bool.{Bool, true, false, false≢true}
use mathlib.Core.List.{List, ◌++◌}
use Prim.Native.Nat.{ℕ, min, ◌+◌, ◌<◌, ◌≤◌}
use native.Mathlib.Omega.{arith}
use lib.Dec.{eqb, ltb, leb}
use lib.ListN.{length, get_or, take, length-append, length-take, get_or-append}
use lib.Seq.{get_or-take, take-append-le}
use borrow.Author.Tests.{eqb-true, eqb-false, ltb-true, ltb-false, leb-true, leb-false, eq-eqb, ne_eqb, lt-ltb, le-ltb, le-leb, lt-leb}
use Rattle.answer.specs.Answer.{refused, accepted}
use Rattle.link.specs.Frame.{Frame, read_body, read_frame, read_first, size}
use Rattle.link.proofs.Laws.First.{Starting, starting, only_one}
use Rattle.link.proofs.Laws.Ladder.{empty, wrong_start, start_alone, by_length, length_zero, length_above, too_short, whole_not_short}
use Rattle.listing.specs.State.{settled}

-- a place, settled or not, a law for each answer
module _ (s : List ℕ) where
  pub none_unsettled : length s ≡ 0 → settled s ≡ false
  unfolding settled
  none_unsettled none = simp (eq-eqb (length s) 0 none)

  module _ (some : length s ≡ 0 → ⊥) where
    pub other_settled : (get_or s 0 0 ≡ 0x5A → ⊥) → settled s ≡ true
    unfolding settled
    other_settled other = simp (ne_eqb (length s) 0 some, ne_eqb (get_or s 0 0) 0x5A other)

    module _ (start : get_or s 0 0 ≡ 0x5A) where
      pub start_unsettled : length s ≡ 1 → settled s ≡ false
      unfolding settled
      start_unsettled one = simp (ne_eqb (length s) 0 some, eq-eqb (get_or s 0 0) 0x5A start, eq-eqb (length s) 1 one)

      module _ (more : length s ≡ 1 → ⊥) where
        pub zero_settled : get_or s 1 0 ≡ 0 → settled s ≡ true
        unfolding settled
        zero_settled l =
            simp (ne_eqb (length s) 0 some, eq-eqb (get_or s 0 0) 0x5A start, ne_eqb (length s) 1 more, eq-eqb (get_or s 1 0) 0 l)

        module _ (counted : get_or s 1 0 ≡ 0 → ⊥) where
          pub above-settled : 0x41 < get_or s 1 0 → settled s ≡ true
          unfolding settled
          above-settled l =
              simp (
                ne_eqb (length s) 0 some,
                eq-eqb (get_or s 0 0) 0x5A start,
                ne_eqb (length s) 1 more,
                ne_eqb (get_or s 1 0) 0 counted,
                lt-ltb 0x41 (get_or s 1 0) l,
              )

          pub settled_whole : get_or s 1 0 ≤ 0x41 → settled s ≡ leb (get_or s 1 0 + 4) (length s)
          unfolding settled
          settled_whole l =
              simp (
                ne_eqb (length s) 0 some,
                eq-eqb (get_or s 0 0) 0x5A start,
                ne_eqb (length s) 1 more,
                ne_eqb (get_or s 1 0) 0 counted,
                le-ltb 0x41 (get_or s 1 0) l,
              )

-- which of them it is
module _ (s : List ℕ) {P : Type 0} (none : length s ≡ 0 → P) (other : (length s ≡ 0 → ⊥) → (get_or s 0 0 ≡ 0x5A → ⊥) → P)
    (alone : get_or s 0 0 ≡ 0x5A → length s ≡ 1 → P) (zero : 1 < length s → get_or s 0 0 ≡ 0x5A → get_or s 1 0 ≡ 0 → P)
    (above : 1 < length s → get_or s 0 0 ≡ 0x5A → 0x41 < get_or s 1 0 → P)
    (counted : 1 < length s → get_or s 0 0 ≡ 0x5A → (get_or s 1 0 ≡ 0 → ⊥) → get_or s 1 0 ≤ 0x41 → P) where
  by_length_byte : 1 < length s → get_or s 0 0 ≡ 0x5A → (z l : Bool) → eqb (get_or s 1 0) 0 ≡ z → ltb 0x41 (get_or s 1 0) ≡ l → P
  by_length_byte two start true l e d = zero two start (eqb-true (get_or s 1 0) 0 e)
  by_length_byte two start false true e d = above two start (ltb-true 0x41 (get_or s 1 0) d)
  by_length_byte two start false false e d = counted two start (eqb-false (get_or s 1 0) 0 e) (ltb-false 0x41 (get_or s 1 0) d)

  by_start : (n o t : Bool) → eqb (length s) 0 ≡ n → eqb (get_or s 0 0) 0x5A ≡ o → ltb 1 (length s) ≡ t → P
  by_start true o t e d c = none (eqb-true (length s) 0 e)
  by_start false false t e d c = other (eqb-false (length s) 0 e) (eqb-false (get_or s 0 0) 0x5A d)
  by_start false true true e d c =
      by_length_byte (ltb-true 1 (length s) c) (eqb-true (get_or s 0 0) 0x5A d) (eqb (get_or s 1 0) 0) (ltb 0x41 (get_or s 1 0)) refl refl
  by_start false true false e d c =
      let one : length s ≡ 1 = omega (arith, ltb-false 1 (length s) c, eqb-false (length s) 0 e) in
      alone (eqb-true (get_or s 0 0) 0x5A d) one

  by_case : P
  by_case = by_start (eqb (length s) 0) (eqb (get_or s 0 0) 0x5A) (ltb 1 (length s)) refl refl refl

-- a length byte from 01 to 41: settled by a whole frame's worth of bytes, and by no fewer
module _ (s : List ℕ) (two : 1 < length s) (start : get_or s 0 0 ≡ 0x5A) (some : get_or s 1 0 ≡ 0 → ⊥) (most : get_or s 1 0 ≤ 0x41) where
  by_whole : settled s ≡ leb (get_or s 1 0 + 4) (length s)
  by_whole = settled_whole s (λ h. omega arith) start (λ h. omega arith) some most

  whole_settles : get_or s 1 0 + 4 ≤ length s → settled s ≡ true
  whole_settles h = by_whole ∙ le-leb (get_or s 1 0 + 4) (length s) h

  settled_fills : settled s ≡ true → get_or s 1 0 + 4 ≤ length s
  settled_fills e = leb-true (get_or s 1 0 + 4) (length s) (sym by_whole ∙ e)

  fewer_unsettled : length s < get_or s 1 0 + 4 → settled s ≡ false
  fewer_unsettled h = by_whole ∙ lt-leb (get_or s 1 0 + 4) (length s) h

-- with 69 bytes a place is settled
many_settled : (s : List ℕ) → 68 < length s → settled s ≡ true
many_settled s h =
    by_case s (λ n. let z : ⊥ = omega arith in absurd z) (other_settled s) (λ start one. let z : ⊥ = omega arith in absurd z)
    (λ two start n. zero_settled s (λ z. omega arith) start (λ z. omega arith) n)
    (λ two start n. above-settled s (λ z. omega arith) start (λ z. omega arith) (λ z. omega arith) n)
    (λ two start some most. whole_settles s two start some most (omega arith))

pub unsettled_few : (s : List ℕ) → settled s ≡ false → length s ≤ 68
unsettled_few s e = go (leb (length s) 68) refl
  where
    go : (b : Bool) → leb (length s) 68 ≡ b → length s ≤ 68
    go true k = leb-true (length s) 68 k
    go false k = absurd (false≢true (sym e ∙ many_settled s (leb-false (length s) 68 k)))

-- where a frame starts, the place is settled; where it is not settled, none does
pub frame_settles : (s : List ℕ) (f : Frame) → read_first s ≡ accepted f → settled s ≡ true
frame_settles s f e =
    let w : Starting s f = starting s f e in
    whole_settles s (omega (arith, w.inside, w.least)) w.start (λ h. omega (arith, w.sized, w.least)) (omega (arith, w.sized, w.most)) (omega (arith, w.inside, w.sized))

pub unsettled_none : (s : List ℕ) → settled s ≡ false → (f : Frame) → read_first s ≡ accepted f → ⊥
unsettled_none s e f is = false≢true (sym e ∙ frame_settles s f is)

module _ (s t : List ℕ) where
  pub frame_stays : (f : Frame) → read_first s ≡ accepted f → read_first (s ++ t) ≡ accepted f
  frame_stays f e =
      let w : Starting s f = starting s f e in
      only_one (s ++ t) (size f) f (ap read_frame (take-append-le (size f) s t w.inside) ∙ w.whole)

  long : length (s ++ t) ≡ length s + length t
  long = length-append s t

  first : (length s ≡ 0 → ⊥) → get_or (s ++ t) 0 0 ≡ get_or s 0 0
  first some = get_or-append s t 0 0 (omega arith)

  second : 1 < length s → get_or (s ++ t) 1 0 ≡ get_or s 1 0
  second two = get_or-append s t 0 1 two

  -- what is settled stays so, with the same judgement, in more bytes
  module _ (h : settled s ≡ true) where
    pub settled_stays : settled (s ++ t) ≡ true
    settled_stays =
        by_case s (λ n. absurd (false≢true (sym (none_unsettled s n) ∙ h)))
        (λ some other. other_settled (s ++ t) (λ z. some (omega (arith, long))) (λ z. other (sym (first some) ∙ z)))
        (λ start one. absurd (false≢true (sym (start_unsettled s (λ z. omega arith) start one) ∙ h)))
        (λ two start n. zero_settled (s ++ t) (λ z. omega (arith, long)) (first (λ z. omega arith) ∙ start) (λ z. omega (arith, long)) (second two ∙ n))
        (λ two start n.
        above-settled (s ++ t) (λ z. omega (arith, long)) (first (λ z. omega arith) ∙ start) (λ z. omega (arith, long)) (λ z. omega (arith, second two)) (omega (arith, second two)))
        (λ two start some most.
        whole_settles (s ++ t) (omega (arith, long)) (first (λ z. omega arith) ∙ start) (λ z. some (sym (second two) ∙ z)) (omega (arith, second two))
        (omega (arith, long, second two, settled_fills s two start some most h)))

    pub stays_frame : (f : Frame) → read_first (s ++ t) ≡ accepted f → read_first s ≡ accepted f
    stays_frame f e =
        by_case s (λ n. absurd (false≢true (sym (none_unsettled s n) ∙ h)))
        (λ some other. absurd (other (sym (first some) ∙ w.start)))
        (λ start one. absurd (false≢true (sym (start_unsettled s (λ z. omega arith) start one) ∙ h)))
        (λ two start n. let z : ⊥ = omega (arith, w.sized, w.least, second two) in absurd z)
        (λ two start n. let z : ⊥ = omega (arith, w.sized, w.most, second two) in absurd z)
        (λ two start some most.
        let fits : size f ≤ length s = omega (arith, w.sized, second two, settled_fills s two start some most h) in
        only_one s (size f) f (ap read_frame (sym (take-append-le (size f) s t fits)) ∙ w.whole))
      where
        w : Starting (s ++ t) f
        w = starting (s ++ t) f e

  -- and what is not, with fewer bytes than its length byte promises, is not yet
  pub waiting : settled s ≡ false → 2 ≤ length s → length s + length t < get_or s 1 0 + 4 → settled (s ++ t) ≡ false
  waiting stops two short =
      by_case s (λ n. let z : ⊥ = omega arith in absurd z)
      (λ some other. absurd (false≢true (sym stops ∙ other_settled s some other)))
      (λ start one. let z : ⊥ = omega arith in absurd z)
      (λ more start n. absurd (false≢true (sym stops ∙ zero_settled s (λ z. omega arith) start (λ z. omega arith) n)))
      (λ more start n. absurd (false≢true (sym stops ∙ above-settled s (λ z. omega arith) start (λ z. omega arith) (λ z. omega arith) n)))
      (λ more start some most.
      fewer_unsettled (s ++ t) (omega (arith, long)) (first (λ z. omega arith) ∙ start) (λ z. some (sym (second more) ∙ z)) (omega (arith, second more))
      (omega (arith, long, second more)))

-- a place is unsettled exactly where the frame reader has too few bytes
module _ (s : List ℕ) where
  abbrev own : List ℕ
  own = take (get_or s 1 0 + 4) s

  own_long : length own ≡ min (get_or s 1 0 + 4) (length s)
  own_long = length-take (get_or s 1 0 + 4) s

  own_start : get_or own 0 0 ≡ get_or s 0 0
  own_start = get_or-take (get_or s 1 0 + 4) s 0 0 (omega arith)

  own-length : get_or own 1 0 ≡ get_or s 1 0
  own-length = get_or-take (get_or s 1 0 + 4) s 1 0 (omega arith)

  -- with start and length byte the reader goes by the length byte
  own_body : 1 < length s → get_or s 0 0 ≡ 0x5A → read_frame own ≡ read_body own (get_or s 1 0)
  own_body two start =
      by_length own (λ z. omega (arith, own_long)) (own_start ∙ start) (λ z. omega (arith, own_long)) ∙ ap (read_body own) own-length

  pub unsettled_short : settled s ≡ false → read_first s ≡ refused 1
  unfolding read_first
  unsettled_short e =
      by_case s (λ none. empty own (omega (arith, own_long)))
      (λ some other. absurd (false≢true (sym e ∙ other_settled s some other)))
      (λ start one. start_alone own (λ z. omega (arith, own_long)) (own_start ∙ start) (omega (arith, own_long)))
      (λ two start n. absurd (false≢true (sym e ∙ zero_settled s (λ z. omega arith) start (λ z. omega arith) n)))
      (λ two start n. absurd (false≢true (sym e ∙ above-settled s (λ z. omega arith) start (λ z. omega arith) (λ z. omega arith) n)))
      (λ two start some most.
      let fewer : length s < get_or s 1 0 + 4 = leb-false (get_or s 1 0 + 4) (length s) (sym (by_whole s two start some most) ∙ e) in
      own_body two start ∙ too_short own (get_or s 1 0) some most (omega (arith, own_long)))

  pub settled_not_short : settled s ≡ true → read_first s ≡ refused 1 → ⊥
  unfolding read_first
  settled_not_short e is =
      by_case s (λ none. false≢true (sym (none_unsettled s none) ∙ e))
      (λ some other. let z : ◌≡◌ {A = ℕ} 2 1 = cc (wrong_start own (λ z. some (omega (arith, own_long))) (λ z. other (sym own_start ∙ z)), is) in omega arith)
      (λ start one. false≢true (sym (start_unsettled s (λ z. omega arith) start one) ∙ e))
      (λ two start n. let z : ◌≡◌ {A = ℕ} 3 1 = cc (own_body two start ∙ length_zero own (get_or s 1 0) n, is) in omega arith)
      (λ two start n. let z : ◌≡◌ {A = ℕ} 3 1 = cc (own_body two start ∙ length_above own (get_or s 1 0) (λ z. omega arith) n, is) in omega arith)
      (λ two start some most.
      let fits : get_or s 1 0 + 4 ≤ length s = settled_fills s two start some most e in
      whole_not_short own (get_or s 1 0) some most (omega (arith, own_long)) (omega (arith, own_long)) (sym (own_body two start) ∙ is))
