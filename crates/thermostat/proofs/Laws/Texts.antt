-- The text store: what a stored text leaves in it, and which stores a step takes. Assumes nothing.
use mathlib.Core.Path.{◌≡◌, refl, sym, ap, ◌∙◌}
use mathlib.Core.Bool.{Bool, true, false, ◌&&◌}
use mathlib.Core.Logic.{◌⊎◌, inl, inr, ⊎_elim}
use mathlib.Core.List.{List, [], ◌∷◌, ◌++◌, append_assoc}
use Prim.Native.Nat.{ℕ, zero, suc, ◌+◌, ◌-◌, ◌<◌, ◌≤◌}
use native.Mathlib.Nat.{add-sub_cancel_left}
use native.Mathlib.Numerals.{add-one}
use native.Mathlib.Omega.{arith}
use lib.ListN.{length, get_or, take, drop, set, length-append, length-take, length-drop, length-set, get_or-append}
use lib.Seq.{paste, length-paste, length-take-le, take-length, take-suc-set, drop-set-lt, take-append_seam, drop-append-add, get_or_at, get_or-take, get_or-drop, get_or-append-add, ext_get_or}
use lib.Dec.{eqb, leb}
use borrow.Author.Tests.{eqb-true, eqb-false, leb-true, leb-false, le-leb, lt-leb}
use Rattle.omnistat.proofs.Laws.Message.{and_parts, within_both}
use Rattle.omnistat.specs.Register.{first_text, last_text, is_text}
use Rattle.omnistat.specs.Text.{are_characters, most_characters}
use Rattle.thermostat.specs.Map.{run}
use Rattle.thermostat.specs.Texts.{text_place, text_count, held_text, text_stored, holds_text, all_hold_text, store_allowed}

-- ---- text registers

pub text_register : (r : ℕ) → is_text r ≡ true → (first_text ≤ r) × (r ≤ last_text)
text_register r t = within_both first_text last_text r t

pub is_text_lem : (r : ℕ) → first_text ≤ r → r ≤ last_text → is_text r ≡ true
is_text_lem r l h = simp (le-leb first_text r l, le-leb r last_text h)

-- ---- a store that a step takes: each of its texts is one

both : (a b : Bool) → a ≡ true → b ≡ true → (a && b) ≡ true
both a b e f = ap (λ (x : Bool). x && b) e ∙ f

module _ (texts : List ℕ) where
  -- the texts from a register on, looked at one after the other
  abbrev pub allowed_from : ℕ → Bool
  allowed_from r = all_hold_text texts (run r (last_text + 1 - r))

  pub allowed_next : (r : ℕ) → r ≤ last_text → allowed_from r ≡ (holds_text texts r && allowed_from (r + 1))
  unfolding all_hold_text run
  allowed_next r h =
      let k : last_text + 1 - r ≡ suc (last_text + 1 - (r + 1)) = omega arith in
      ap (λ (n : ℕ). all_hold_text texts (run r n)) k
      ∙ ap (λ (q : ℕ). holds_text texts r && all_hold_text texts (run q (last_text + 1 - (r + 1)))) (sym (add-one r))

  pub allowed_ended : (r : ℕ) → last_text < r → allowed_from r ≡ true
  unfolding all_hold_text run
  allowed_ended r h = let k : last_text + 1 - r ≡ 0 = omega arith in ap (λ (n : ℕ). all_hold_text texts (run r n)) k

  -- the texts of a run, each of them
  first_or_later : (start r : ℕ) → start ≤ r → holds_text texts start ≡ true → (start < r → holds_text texts r ≡ true) → holds_text texts r ≡ true
  first_or_later start r l e later = go (eqb r start) refl
    where
      go : (b : Bool) → eqb r start ≡ b → holds_text texts r ≡ true
      go true k = ap (λ (q : ℕ). holds_text texts q) (eqb-true r start k) ∙ e
      go false k = let n = eqb-false r start k in later (omega arith)

  in_run : (count start r : ℕ) → all_hold_text texts (run start count) ≡ true → start ≤ r → r < start + count → holds_text texts r ≡ true
  unfolding all_hold_text run
  in_run zero start r e l h = absurd (omega arith)
  in_run (suc count) start r e l h =
      let parts = and_parts (holds_text texts start) (all_hold_text texts (run (suc start) count)) e in
      first_or_later start r l parts.0 (λ k. in_run count (suc start) r parts.1 k (omega arith))

  all_in_run : (count start : ℕ) → ((r : ℕ) → start ≤ r → r < start + count → holds_text texts r ≡ true) → all_hold_text texts (run start count) ≡ true
  unfolding all_hold_text run
  all_in_run zero start f = refl
  all_in_run (suc count) start f =
      both (holds_text texts start) (all_hold_text texts (run (suc start) count)) (f start (omega arith) (omega arith))
      (all_in_run count (suc start) (λ r l h. f r (omega arith) (omega arith)))

  pub holds_each : store_allowed texts ≡ true → (r : ℕ) → is_text r ≡ true → holds_text texts r ≡ true
  holds_each e r t = let k = text_register r t in in_run 10 first_text r e k.0 (omega arith)

  pub each_holds : ((r : ℕ) → is_text r ≡ true → holds_text texts r ≡ true) → store_allowed texts ≡ true
  each_holds f = all_in_run 10 first_text (λ r l h. f r (is_text_lem r l (omega arith)))

  pub count_most : (r : ℕ) → holds_text texts r ≡ true → text_count texts r ≤ most_characters
  count_most r e = leb-true (text_count texts r) most_characters (and_parts (leb (text_count texts r) most_characters) (are_characters (held_text texts r)) e).0

  -- a text that is held is short enough, and of characters
  pub held_fits : store_allowed texts ≡ true → (r : ℕ) → is_text r ≡ true → (length (held_text texts r) ≤ 60) × (are_characters (held_text texts r) ≡ true)
  unfolding held_text
  held_fits a r t =
      let h = holds_each a r t in (
        omega (arith, count_most r h, length-take (text_count texts r) (drop (text_place r + 1) texts)),
        (and_parts (leb (text_count texts r) most_characters) (are_characters (held_text texts r)) h).1,
      )

-- ---- a text as the code finds it: from the place of its count byte

module _ (texts : List ℕ) (r at : ℕ) (e : at ≡ text_place r) where
  pub count_at : get_or texts at 0 ≡ text_count texts r
  unfolding text_count
  count_at = ap (λ (p : ℕ). get_or texts p 0) e

  pub text_at : take (at + 1 + get_or texts at 0 - (at + 1)) (drop (at + 1) texts) ≡ held_text texts r
  unfolding held_text
  text_at =
      ap (λ (n : ℕ). take n (drop (at + 1) texts)) (add-sub_cancel_left (at + 1) (get_or texts at 0) ∙ count_at)
      ∙ ap (λ (p : ℕ). take (text_count texts r) (drop (p + 1) texts)) e

  pub too_many_held : most_characters < get_or texts at 0 → holds_text texts r ≡ false
  too_many_held h = let l : most_characters < text_count texts r = omega (arith, count_at) in simp (lt-leb (text_count texts r) most_characters l)

  pub held_within : get_or texts at 0 ≤ most_characters → holds_text texts r ≡ are_characters (held_text texts r)
  held_within h = let l : text_count texts r ≤ most_characters = omega (arith, count_at) in simp (le-leb (text_count texts r) most_characters l)

-- ---- a text stored

-- parts with the same bytes
same_part : (x y : List ℕ) (from count : ℕ) → length x ≡ length y → ((i : ℕ) → i < count → get_or x (from + i) 0 ≡ get_or y (from + i) 0)
    → take count (drop from x) ≡ take count (drop from y)
same_part x y from count e f = ext_get_or 0 (take count (drop from x)) (take count (drop from y)) (simp (length-take, length-drop, e)) byte
  where
    byte : (i : ℕ) → i < length (take count (drop from x)) → get_or (take count (drop from x)) i 0 ≡ get_or (take count (drop from y)) i 0
    byte i h =
        let l : i < count = omega (arith, length-take count (drop from x)) in
        get_or-take count (drop from x) i 0 l
        ∙ get_or-drop from x i 0
        ∙ f i l
        ∙ sym (get_or-take count (drop from y) i 0 l ∙ get_or-drop from y i 0)

module _ (texts : List ℕ) (r : ℕ) (cs : List ℕ) (s : length texts ≡ 610) (t : is_text r ≡ true) (m : length cs ≤ most_characters) where
  abbrev Stored : List ℕ
  Stored = text_stored texts r cs

  fits : text_place r + 1 + length cs ≤ length texts
  fits = omega (arith, text_register r t)

  -- as the code does it: the count byte, then the characters
  pub text_stored_paste : (at : ℕ) → at ≡ text_place r → paste (set texts at (length cs)) (at + 1) cs (length cs) ≡ text_stored texts r cs
  unfolding text_stored
  text_stored_paste at e =
      let l : at < length texts = omega (arith, fits) in
      let b : at < at + 1 + length cs = omega arith in
      let n = length cs in
      let rest = drop (at + 1 + n) texts in
      let j : take at texts ++ (n ∷ []) ++ cs ++ rest ≡ take at texts ++ (n ∷ (cs ++ rest)) = simp append_assoc in
      ap (λ (x : List ℕ). take (at + 1) (set texts at n) ++ take n cs ++ x) (drop-set-lt (at + 1 + n) texts at n b)
      ∙ ap (λ (x : List ℕ). take (at + 1) (set texts at n) ++ x ++ rest) (take-length cs)
      ∙ ap (λ (k : ℕ). take k (set texts at n) ++ cs ++ rest) (add-one at)
      ∙ ap (λ (x : List ℕ). x ++ cs ++ rest) (take-suc-set texts at n l)
      ∙ j
      ∙ ap (λ (p : ℕ). take p texts ++ (n ∷ (cs ++ drop (p + 1 + n) texts))) e

  pub text_stored-length : length (text_stored texts r cs) ≡ length texts
  text_stored-length =
      let l : text_place r + 1 + length cs ≤ length (set texts (text_place r) (length cs)) = simp length-set fits in
      let k : length cs ≤ length cs = omega arith in
      ap length (sym (text_stored_paste (text_place r) refl))
      ∙ length-paste (set texts (text_place r) (length cs)) (text_place r + 1) cs (length cs) l k
      ∙ length-set texts (text_place r) (length cs)

  before_length : length (take (text_place r) texts) ≡ text_place r
  before_length = let l : text_place r ≤ length texts = omega (arith, fits) in length-take-le (text_place r) texts l

  pub text_stored_count : text_count (text_stored texts r cs) r ≡ length cs
  unfolding text_count text_stored
  text_stored_count =
      get_or_at (take (text_place r) texts) (length cs) (cs ++ drop (text_place r + 1 + length cs) texts) 0 (text_place r) before_length

  pub text_stored_text : held_text (text_stored texts r cs) r ≡ cs
  unfolding held_text text_stored
  text_stored_text =
      let rest = drop (text_place r + 1 + length cs) texts in
      ap (λ (n : ℕ). take n (drop (text_place r + 1) Stored)) text_stored_count
      ∙ ap (λ (n : ℕ). take (length cs) (drop (n + 1) Stored)) (sym before_length)
      ∙ ap (take (length cs)) (drop-append-add (take (text_place r) texts) (length cs ∷ (cs ++ rest)) 1)
      ∙ take-append_seam cs rest

  -- every byte but the count and the characters is as it was
  kept_before : (p : ℕ) → p < text_place r → get_or Stored p 0 ≡ get_or texts p 0
  unfolding text_stored
  kept_before p h =
      let l : p < length (take (text_place r) texts) = omega (arith, before_length) in
      get_or-append (take (text_place r) texts) (length cs ∷ (cs ++ drop (text_place r + 1 + length cs) texts)) 0 p l
      ∙ get_or-take (text_place r) texts p 0 h

  kept_past : (p : ℕ) → text_place r + length cs < p → get_or Stored p 0 ≡ get_or texts p 0
  unfolding text_stored
  kept_past p h =
      let n = length cs in
      let front = take (text_place r) texts ++ (n ∷ cs) in
      let rest = drop (text_place r + 1 + n) texts in
      let w : length front ≡ text_place r + 1 + n = omega (arith, length-append (take (text_place r) texts) (n ∷ cs), before_length) in
      let k = p - (text_place r + 1 + n) in
      let e : p ≡ length front + k = omega arith in
      let f : text_place r + 1 + n + k ≡ p = omega arith in
      ap (λ (x : List ℕ). get_or x p 0) (sym (append_assoc (take (text_place r) texts) (n ∷ cs) rest))
      ∙ ap (λ (q : ℕ). get_or (front ++ rest) q 0) e
      ∙ get_or-append-add front rest k 0
      ∙ get_or-drop (text_place r + 1 + n) texts k 0
      ∙ ap (λ (q : ℕ). get_or texts q 0) f

  pub text_stored_elsewhere : (p : ℕ) → (p < text_place r) ⊎ (text_place r + length cs < p) → get_or (text_stored texts r cs) p 0 ≡ get_or texts p 0
  text_stored_elsewhere p h = ⊎_elim (λ l. kept_before p l) (λ l. kept_past p l) h

  -- the other texts are as they were. One whose count is above 60 would reach into the next
  module _ (q : ℕ) (u : is_text q ≡ true) (n : q ≡ r → ⊥) where
    at_other : (i : ℕ) → i ≤ most_characters → get_or Stored (text_place q + i) 0 ≡ get_or texts (text_place q + i) 0
    at_other i h = text_stored_elsewhere (text_place q + i) (apart (leb q r) refl)
      where
        apart : (b : Bool) → leb q r ≡ b → (text_place q + i < text_place r) ⊎ (text_place r + length cs < text_place q + i)
        apart true k = inl (omega (arith, leb-true q r k, text_register q u, text_register r t))
        apart false k = inr (omega (arith, leb-false q r k, text_register q u, text_register r t))

    pub text_stored_others_count : text_count (text_stored texts r cs) q ≡ text_count texts q
    unfolding text_count
    text_stored_others_count =
        let e : text_place q ≡ text_place q + 0 = omega arith in
        ap (λ (p : ℕ). get_or Stored p 0) e ∙ at_other 0 (omega arith) ∙ ap (λ (p : ℕ). get_or texts p 0) (sym e)

    pub text_stored_others_text : text_count texts q ≤ most_characters → held_text (text_stored texts r cs) q ≡ held_text texts q
    unfolding held_text
    text_stored_others_text k =
        ap (λ (c : ℕ). take c (drop (text_place q + 1) Stored)) text_stored_others_count
        ∙ same_part Stored texts (text_place q + 1) (text_count texts q) text_stored-length byte
      where
        byte : (i : ℕ) → i < text_count texts q → get_or Stored (text_place q + 1 + i) 0 ≡ get_or texts (text_place q + 1 + i) 0
        byte i h =
            let e : text_place q + 1 + i ≡ text_place q + (1 + i) = omega arith in
            ap (λ (p : ℕ). get_or Stored p 0) e ∙ at_other (1 + i) (omega arith) ∙ ap (λ (p : ℕ). get_or texts p 0) (sym e)

  -- a step takes the store as before
  pub text_stored-allowed : store_allowed texts ≡ true → are_characters cs ≡ true → store_allowed (text_stored texts r cs) ≡ true
  text_stored-allowed a e = each_holds Stored (λ q u. go q u (eqb q r) refl)
    where
      here : holds_text Stored r ≡ true
      here =
          both (leb (text_count Stored r) most_characters) (are_characters (held_text Stored r))
          (ap (λ (n : ℕ). leb n most_characters) text_stored_count ∙ le-leb (length cs) most_characters m)
          (ap are_characters text_stored_text ∙ e)

      go : (q : ℕ) → is_text q ≡ true → (b : Bool) → eqb q r ≡ b → holds_text Stored q ≡ true
      go q u true k = ap (λ (x : ℕ). holds_text Stored x) (eqb-true q r k) ∙ here
      go q u false k =
          let n = eqb-false q r k in
          let h = holds_each texts a q u in
          let w = text_stored_others_text q u n (count_most texts q h) in
          ap (λ (x : List ℕ). leb (text_count Stored q) most_characters && are_characters x) w
          ∙ ap (λ (x : ℕ). leb x most_characters && are_characters (held_text texts q)) (text_stored_others_count q u n)
          ∙ h
