-- Texts: where their characters end, what a reader answers of them, and their bytes. Assumes nothing.
use mathlib.Core.Path.{◌≡◌, refl, sym, ap, ◌∙◌, subst}
use mathlib.Core.Bool.{Bool, true, false, not, cond, ◌&&◌, ◌||◌, and-false}
use mathlib.Core.List.{List, [], ◌∷◌, ◌++◌, append_assoc}
use Prim.Native.Nat.{ℕ, zero, suc, ◌+◌, ◌*◌, ◌/◌, ◌%◌, ◌<◌, ◌≤◌}
use native.Mathlib.Nat.{le_of_suc-le-suc}
use native.Mathlib.Omega.{arith}
use lib.Dec.{leb, ltb, eqb, T, ltb→lt}
use lib.Ieee.Fits.{and_l, and_r}
use lib.ListN.{length, get_or, take, drop, length-append, length-take, drop_of_length-le}
use lib.Pow.{are_bytes}
use lib.Seq.{drop-cons, take-suc, take_all, take_at, get_or_at, get_or-take, length-take-le}
use borrow.Author.Tests.{lt-ltb, le-ltb, le-leb, leb-true, eq-eqb, ne_eqb, eqb-true, ltb-true, ltb-false, eqb-false}
use Rattle.answer.specs.Answer.{refused, accepted, refuse_if, on_accepted}
use Rattle.answer.proofs.Laws.Test.{not_accepted, same, passed, passed_not, on_accepted_lem}
use Rattle.omnistat.specs.declared.frame.End.{End}
use Rattle.omnistat.specs.declared.frame.End.TheVariants.{Thermostat, Host}
use Rattle.omnistat.specs.Register.{within, is_text, run_allowed}
use Rattle.omnistat.specs.Frame.{framed, bytes_of, directed, address_of, sum_of, summed}
use Rattle.omnistat.specs.Message.{Counted, Known, set_from, data_from, as_run, as_message_by}
use Rattle.omnistat.specs.Text.{Text, is_character, are_characters, until_end, text_type, carries_text, ended, read_text, text_allowed, text_bytes}
use Rattle.omnistat.specs.Answer.{text_in}
use Rattle.omnistat.proofs.Laws.Frame.{sum_test}
use Rattle.omnistat.proofs.Laws.Message.{too_low, too_high, and_parts, within_both, names_set, names_data}

-- ---- characters, one by one

module _ (s : List ℕ) (i : ℕ) where
  pub characters_next : i < length s → are_characters (drop i s) ≡ (is_character (get_or s i 0) && are_characters (drop (i + 1) s))
  unfolding are_characters
  characters_next h =
      let e : suc i ≡ i + 1 = omega arith in
      ap are_characters (drop-cons s i 0 h) ∙ ap (λ (n : ℕ). is_character (get_or s i 0) && are_characters (drop n s)) e

  pub no_more_characters : length s ≤ i → are_characters (drop i s) ≡ true
  unfolding are_characters
  no_more_characters h = ap are_characters (drop_of_length-le s h)

-- ---- which messages carry text

module _ (end : End) where
  pub too_few : (s : List ℕ) → length s < 3 → carries_text end s ≡ false
  unfolding carries_text
  too_few [] h = refl
  too_few (a ∷ []) h = refl
  too_few (a ∷ b ∷ []) h = refl
  too_few (a ∷ b ∷ c ∷ s) h = absurd (omega arith)

  pub of_another_type : (s : List ℕ) → 3 ≤ length s → (get_or s 1 0 % 16 ≡ text_type end → ⊥) → carries_text end s ≡ false
  unfolding carries_text
  of_another_type [] h n = absurd (omega arith)
  of_another_type (a ∷ []) h n = absurd (omega arith)
  of_another_type (a ∷ b ∷ []) h n = absurd (omega arith)
  of_another_type (a ∷ b ∷ c ∷ s) h n = simp (ne_eqb (b % 16) (text_type end) n)

  pub of_text_type : (s : List ℕ) → 3 ≤ length s → get_or s 1 0 % 16 ≡ text_type end → carries_text end s ≡ is_text (get_or s 2 0)
  unfolding carries_text
  of_text_type [] h n = absurd (omega arith)
  of_text_type (a ∷ []) h n = absurd (omega arith)
  of_text_type (a ∷ b ∷ []) h n = absurd (omega arith)
  of_text_type (a ∷ b ∷ c ∷ s) h n = simp (eq-eqb (b % 16) (text_type end) n)

  pub at_least_three : (s : List ℕ) → carries_text end s ≡ true → 3 ≤ length s
  unfolding carries_text
  at_least_three [] e = let z : ◌≡◌ {A = ℕ} 0 1 = cc in absurd (omega arith)
  at_least_three (a ∷ []) e = let z : ◌≡◌ {A = ℕ} 0 1 = cc in absurd (omega arith)
  at_least_three (a ∷ b ∷ []) e = let z : ◌≡◌ {A = ℕ} 0 1 = cc in absurd (omega arith)
  at_least_three (a ∷ b ∷ c ∷ s) e = omega arith

-- ---- where the characters end

module _ (s : List ℕ) (i : ℕ) where
  pub goes_on : i < length s → (get_or s i 0 ≡ 3 → ⊥) → until_end (drop i s) ≡ suc (until_end (drop (i + 1) s))
  unfolding until_end
  goes_on h n =
      let e : suc i ≡ i + 1 = omega arith in
      ap until_end (drop-cons s i 0 h) ∙ simp (ne_eqb (get_or s i 0) 3 n) (ap (λ (k : ℕ). suc (until_end (drop k s))) e)

  pub ends_here : i < length s → get_or s i 0 ≡ 3 → until_end (drop i s) ≡ 0
  unfolding until_end
  ends_here h n = ap until_end (drop-cons s i 0 h) ∙ simp (eq-eqb (get_or s i 0) 3 n)

  pub none_left : length s ≤ i → until_end (drop i s) ≡ 0
  unfolding until_end
  none_left h = ap until_end (drop_of_length-le s h)

-- 03 stands there, where it is found
found : (l : List ℕ) → until_end l < length l → get_or l (until_end l) 0 ≡ 3
unfolding until_end
found [] h = absurd (omega arith)
found (b ∷ l) h = go (eqb b 3) refl h (λ k. found l k)
  where
    go : (t : Bool) → eqb b 3 ≡ t → cond t 0 (suc (until_end l)) < suc (length l) → (until_end l < length l → get_or l (until_end l) 0 ≡ 3)
        → get_or (b ∷ l) (cond t 0 (suc (until_end l))) 0 ≡ 3
    go true e k later = eqb-true b 3 e
    go false e k later = later (le_of_suc-le-suc k)

-- characters, then 03
until_characters : (cs more : List ℕ) (k : ℕ) → are_characters cs ≡ true → length cs ≤ k → until_end (take (suc k) ((cs ++ (3 ∷ [])) ++ more)) ≡ length cs
unfolding until_end are_characters
until_characters [] more k e h = refl
until_characters (c ∷ cs) more zero e h = absurd (omega arith)
until_characters (c ∷ cs) more (suc k) e h =
    let p = and_parts (is_character c) (are_characters cs) e in
    let w = within_both 0x20 0x7E c p.0 in
    let n : c ≡ 3 → ⊥ = λ z. omega (arith, w.0) in
    simp (ne_eqb c 3 n) (ap suc (until_characters cs more k p.1 (le_of_suc-le-suc h)))

-- ---- the reader's checks, in their order

abbrev pub with_address : ℕ → Text → ℕ × Text
with_address a t = (a, t)

module _ (end : End) where
  pub text_misdirected : (s : List ℕ) → 3 ≤ length s → directed end (get_or s 0 0) ≡ false → read_text end s ≡ refused 2
  unfolding read_text
  text_misdirected [] h d = absurd (omega arith)
  text_misdirected (a ∷ []) h d = absurd (omega arith)
  text_misdirected (a ∷ b ∷ []) h d = absurd (omega arith)
  text_misdirected (a ∷ b ∷ c ∷ rest) h d = simp d

  -- after these, by where the characters end
  after_start : (a b c : ℕ) (rest : List ℕ) (n : ℕ) → directed end a ≡ true → n ≡ until_end (take 61 rest)
      → read_text end (a ∷ b ∷ c ∷ rest) ≡ on_accepted (with_address (address_of end a)) (ended a b c rest n)
  unfolding read_text
  after_start a b c rest n d e = simp d (ap (λ (k : ℕ). on_accepted (with_address (address_of end a)) (ended a b c rest k)) (sym e))

  module _ (n : ℕ) where
    pub endless : (s : List ℕ) → 3 ≤ length s → directed end (get_or s 0 0) ≡ true → n ≡ until_end (take 61 (drop 3 s)) → 60 < n → read_text end s ≡ refused 8
    endless [] h d e k = absurd (omega arith)
    endless (a ∷ []) h d e k = absurd (omega arith)
    endless (a ∷ b ∷ []) h d e k = absurd (omega arith)
    endless (a ∷ b ∷ c ∷ rest) h d e k = after_start a b c rest n d e ∙ simp (lt-ltb 60 n k)

    pub text_short : (s : List ℕ) → 3 ≤ length s → directed end (get_or s 0 0) ≡ true → n ≡ until_end (take 61 (drop 3 s)) → n ≤ 60 → length s ≤ n + 4
        → read_text end s ≡ refused 1
    text_short [] h d e k l = absurd (omega arith)
    text_short (a ∷ []) h d e k l = absurd (omega arith)
    text_short (a ∷ b ∷ []) h d e k l = absurd (omega arith)
    text_short (a ∷ b ∷ c ∷ rest) h d e k l =
        let m : length rest < n + 2 = omega arith in
        after_start a b c rest n d e ∙ simp (le-ltb 60 n k, lt-ltb (length rest) (n + 2) m)

    pub text_long : (s : List ℕ) → 3 ≤ length s → directed end (get_or s 0 0) ≡ true → n ≡ until_end (take 61 (drop 3 s)) → n ≤ 60 → n + 5 < length s
        → read_text end s ≡ refused 4
    text_long [] h d e k l = absurd (omega arith)
    text_long (a ∷ []) h d e k l = absurd (omega arith)
    text_long (a ∷ b ∷ []) h d e k l = absurd (omega arith)
    text_long (a ∷ b ∷ c ∷ rest) h d e k l =
        let m : n + 2 ≤ length rest = omega arith in
        let o : n + 2 < length rest = omega arith in
        after_start a b c rest n d e ∙ simp (le-ltb 60 n k, le-ltb (length rest) (n + 2) m, lt-ltb (n + 2) (length rest) o)

    -- a whole text, by the outcomes of its last two checks
    pub text_judged : (t u : Bool) (s : List ℕ) → 3 ≤ length s → directed end (get_or s 0 0) ≡ true → n ≡ until_end (take 61 (drop 3 s)) → n ≤ 60
        → length s ≡ n + 5 → sum_test s (n + 4) ≡ t → are_characters (take n (drop 3 s)) ≡ u
        → read_text end s
        ≡ refuse_if (not t) 5 (refuse_if (not u) 8 (accepted (address_of end (get_or s 0 0), text_in s (get_or s 1 0 / 16) (get_or s 2 0) n)))
    text_judged t u [] h d e k l x y = absurd (omega arith)
    text_judged t u (a ∷ []) h d e k l x y = absurd (omega arith)
    text_judged t u (a ∷ b ∷ []) h d e k l x y = absurd (omega arith)
    text_judged t u (a ∷ b ∷ c ∷ rest) h d e k l x y =
        let m : n + 2 ≤ length rest = omega arith in
        let o : length rest ≤ n + 2 = omega arith in
        let i : n + 4 ≡ suc (suc (suc (n + 1))) = omega arith in
        let z : eqb (get_or rest (n + 1) 0) (sum_of (a ∷ b ∷ c ∷ take (n + 1) rest)) ≡ t
        = ap (λ (last : ℕ). sum_test (a ∷ b ∷ c ∷ rest) last) (sym i) ∙ x in
        after_start a b c rest n d e
        ∙ simp (le-ltb 60 n k, le-ltb (length rest) (n + 2) m, le-ltb (n + 2) (length rest) o, z, y) (both t u)
      where
        both : (t u : Bool)
            → on_accepted (with_address (address_of end a)) (refuse_if (not t) 5 (refuse_if (not u) 8 (accepted (text_in (a ∷ b ∷ c ∷ rest) (b / 16) c n))))
            ≡ refuse_if (not t) 5 (refuse_if (not u) 8 (accepted (address_of end a, text_in (a ∷ b ∷ c ∷ rest) (b / 16) c n)))
        both false u = refl
        both true false = refl
        both true true = refl

-- ---- a text's bytes, read

-- what may be written, part by part
pub allowed_parts : (t : Text) → text_allowed t ≡ true
    → (t.half ≤ 15) × (is_text t.start ≡ true) × (length t.characters ≤ 60) × (are_characters t.characters ≡ true)
allowed_parts t e =
    let p = and_parts (leb t.half 15) _ e in
    let q = and_parts (is_text t.start) _ p.1 in
    let r = and_parts (leb (length t.characters) 60) _ q.1 in
    (leb-true t.half 15 p.0, q.0, leb-true (length t.characters) 60 r.0, r.1)

type_fits : (end : End) → text_type end < 16
type_fits Thermostat = omega arith
type_fits Host = omega arith

pub text_carried : (end : End) (first : ℕ) (t : Text) → text_allowed t ≡ true → carries_text end (text_bytes end first t) ≡ true
unfolding carries_text
text_carried end first t e =
    let m : (t.half * 16 + text_type end) % 16 ≡ text_type end = omega (arith, type_fits end) in
    simp (eq-eqb _ _ m, (allowed_parts t e).1)

pub text_read_back : (end : End) (first : ℕ) (t : Text) → directed end first ≡ true → text_allowed t ≡ true
    → read_text end (text_bytes end first t) ≡ accepted (address_of end first, t)
text_read_back end first t d e =
    let p = allowed_parts t e in
    let cs = t.characters in
    let second = t.half * 16 + text_type end in
    let sum = sum_of (first ∷ second ∷ t.start ∷ (cs ++ (3 ∷ []))) in
    let rest = (cs ++ (3 ∷ [])) ++ (sum ∷ []) in
    let n : length cs ≡ until_end (take 61 rest) = sym (until_characters cs (sum ∷ []) 60 p.3 p.2) in
    let l : length (cs ++ (3 ∷ [])) ≡ length cs + 1 = length-append cs (3 ∷ []) in
    let k : length rest ≡ length cs + 2 = length-append (cs ++ (3 ∷ [])) (sum ∷ []) ∙ omega (arith, l) in
    let h : second / 16 ≡ t.half = omega (arith, type_fits end) in
    let c : take (length cs) rest ≡ cs = ap (λ (x : List ℕ). take (length cs) x) (append_assoc cs (3 ∷ []) (sum ∷ [])) ∙ take_at cs ((3 ∷ []) ++ (sum ∷ [])) (length cs) refl in
    let i : length cs + 4 ≡ suc (suc (suc (length cs + 1))) = omega arith in
    let s : get_or rest (length cs + 1) 0 ≡ sum = get_or_at (cs ++ (3 ∷ [])) sum [] 0 (length cs + 1) l in
    let f : take (length cs + 1) rest ≡ cs ++ (3 ∷ []) = take_at (cs ++ (3 ∷ [])) (sum ∷ []) (length cs + 1) l in
    let x : sum_test (first ∷ second ∷ t.start ∷ rest) (length cs + 4) ≡ true
    = ap (λ (last : ℕ). sum_test (first ∷ second ∷ t.start ∷ rest) last) i
    ∙ eq-eqb _ _ (s ∙ ap (λ (y : List ℕ). sum_of (first ∷ second ∷ t.start ∷ y)) (sym f)) in
    text_judged end (length cs) true true (first ∷ second ∷ t.start ∷ rest) (omega arith) d n p.2 (omega (arith, k)) x
    (ap are_characters c ∙ p.3)
    ∙ ap (λ (v : Text). accepted (address_of end first, v)) (λ j. record { half = h j; start = t.start; characters = c j })

-- ---- a text that was read

-- a message of bytes has a second byte of two halves
second_fits : (a b : ℕ) (s : List ℕ) → T (are_bytes (a ∷ b ∷ s)) → b < 256
second_fits a b s h = ltb→lt b 256 (and_l (ltb b 256) (are_bytes s) (and_r (ltb a 256) (are_bytes (b ∷ s)) h))

-- 03 follows the characters that were found
pub ended_by : (rest : List ℕ) (n : ℕ) → n ≡ until_end (take 61 rest) → n ≤ 60 → n < length rest → get_or rest n 0 ≡ 3
ended_by rest n e k l =
    let m : n < length (take 61 rest) = omega (arith, length-take 61 rest) in
    sym (get_or-take 61 rest n 0 (omega arith))
    ∙ ap (λ (i : ℕ). get_or (take 61 rest) i 0) e
    ∙ found (take 61 rest) (subst (λ (i : ℕ). i < length (take 61 rest)) e m)

-- what a text's checks found
pub text_found : (end : End) (a b c : ℕ) (rest : List ℕ) (p : ℕ × Text) → read_text end (a ∷ b ∷ c ∷ rest) ≡ accepted p
    → let n = until_end (take 61 rest) in (directed end a ≡ true) × (n ≤ 60) × (length rest ≡ n + 2)
    × (get_or rest (n + 1) 0 ≡ sum_of (a ∷ b ∷ c ∷ take (n + 1) rest)) × (are_characters (take n rest) ≡ true)
    × (with_address (address_of end a) (record { half = b / 16; start = c; characters = take n rest }) ≡ p)
unfolding read_text
text_found end a b c rest p e =
    let n = until_end (take 61 rest) in
    let t : Text = record { half = b / 16; start = c; characters = take n rest } in
    let q = passed_not (directed end a) 2 (on_accepted (with_address (address_of end a)) (ended a b c rest n)) p e in
    let r = on_accepted_lem (with_address (address_of end a)) (ended a b c rest n) p q.1 in
    let u = passed (ltb 60 n) 8 _ r.0 r.1 in
    let v = passed (ltb (length rest) (n + 2)) 1 _ r.0 u.1 in
    let w = passed (ltb (n + 2) (length rest)) 4 _ r.0 v.1 in
    let x = passed_not (eqb (get_or rest (n + 1) 0) (sum_of (a ∷ b ∷ c ∷ take (n + 1) rest))) 5 _ r.0 w.1 in
    let y = passed_not (are_characters (take n rest)) 8 (accepted t) r.0 x.1 in (
      q.0,
      ltb-false 60 n u.0,
      omega (arith, ltb-false (length rest) (n + 2) v.0, ltb-false (n + 2) (length rest) w.0),
      eqb-true _ _ x.0,
      y.0,
      ap (with_address (address_of end a)) (same y.1) ∙ r.2,
    )

-- a text is no shorter than its start
text_begun : (end : End) (s : List ℕ) (p : ℕ × Text) → read_text end s ≡ accepted p
    → (a : ℕ) × (b : ℕ) × (c : ℕ) × (rest : List ℕ) × (s ≡ a ∷ b ∷ c ∷ rest)
unfolding read_text
text_begun end [] p e = absurd (not_accepted 1 p e)
text_begun end (a ∷ []) p e = absurd (not_accepted 1 p (passed_not (directed end a) 2 (refused 1) p e).1)
text_begun end (a ∷ b ∷ []) p e = absurd (not_accepted 1 p (passed_not (directed end a) 2 (refused 1) p e).1)
text_begun end (a ∷ b ∷ c ∷ rest) p e = (a, b, c, rest, refl)

-- its characters, 03 and the sum are all that follows its start register, so that no other count names them
counted_of : (end : End) (s : List ℕ) (p : ℕ × Text) (k : ℕ) → read_text end s ≡ accepted p → p.1.characters ≡ take k (drop 3 s) → length p.1.characters ≡ k
counted_of end s p k e f =
    let z = text_begun end s p e in
    let rest = z.3 in
    let n = until_end (take 61 rest) in
    let g = text_found end z.0 z.1 z.2 rest p (ap (read_text end) (sym z.4) ∙ e) in
    let l : length p.1.characters ≡ n
    = ap (λ (x : ℕ × Text). length x.1.characters) (sym g.5) ∙ length-take-le n rest (omega (arith, g.2)) in
    let m : length (take k rest) ≡ n = sym (ap length (f ∙ ap (λ (x : List ℕ). take k (drop 3 x)) z.4)) ∙ l in
    omega (arith, l, m, length-take k rest, g.2)

pub text_counted : (end : End) (s : List ℕ) (a half start k : ℕ) → read_text end s ≡ accepted (with_address a (text_in s half start k)) → length (take k (drop 3 s)) ≡ k
text_counted end s a half start k e = counted_of end s (with_address a (text_in s half start k)) k e refl

-- its register holds text, and its characters may be held
pub text_fits : (end : End) (s : List ℕ) (p : ℕ × Text) → carries_text end s ≡ true → read_text end s ≡ accepted p
    → (is_text p.1.start ≡ true) × (length p.1.characters ≤ 60) × (are_characters p.1.characters ≡ true)
unfolding carries_text
text_fits end s p k e =
    let z = text_begun end s p e in
    let rest = z.3 in
    let n = until_end (take 61 rest) in
    let g = text_found end z.0 z.1 z.2 rest p (ap (read_text end) (sym z.4) ∙ e) in
    let c = and_parts (eqb (z.1 % 16) (text_type end)) (is_text z.2) (ap (carries_text end) (sym z.4) ∙ k) in
    let l : length (take n rest) ≡ n = length-take-le n rest (omega (arith, g.2)) in (
      ap (λ (x : ℕ × Text). is_text x.1.start) (sym g.5) ∙ c.1,
      subst (λ (x : ℕ × Text). length x.1.characters ≤ 60) g.5 (omega (arith, l, g.1)),
      ap (λ (x : ℕ × Text). are_characters x.1.characters) (sym g.5) ∙ g.4,
    )

-- it was read from exactly its bytes: direction, address, fields, bytes
pub text_taken_apart : (end : End) (s : List ℕ) (p : ℕ × Text) → T (are_bytes s) → carries_text end s ≡ true → read_text end s ≡ accepted p
    → (first : ℕ) × (directed end first ≡ true) × (p.0 ≡ address_of end first) × (text_allowed p.1 ≡ true) × (text_bytes end first p.1 ≡ s)
unfolding carries_text
text_taken_apart end s p bytes k e =
    let z = text_begun end s p e in
    let a = z.0 in
    let b = z.1 in
    let c = z.2 in
    let rest = z.3 in
    let n = until_end (take 61 rest) in
    let sum = sum_of (a ∷ b ∷ c ∷ take (n + 1) rest) in
    let t : Text = record { half = b / 16; start = c; characters = take n rest } in
    let g = text_found end a b c rest p (ap (read_text end) (sym z.4) ∙ e) in
    let fits = text_fits end s p k e in
    let m = and_parts (eqb (b % 16) (text_type end)) (is_text c) (ap (carries_text end) (sym z.4) ∙ k) in
    let h : b / 16 ≤ 15 = omega (arith, second_fits a b (c ∷ rest) (subst (λ (x : List ℕ). T (are_bytes x)) z.4 bytes)) in
    let i : b / 16 * 16 + text_type end ≡ b = omega (arith, eqb-true (b % 16) (text_type end) m.0) in
    let is : t ≡ p.1 = ap (λ (x : ℕ × Text). x.1) g.5 in
    let half : p.1.half ≤ 15 = subst (λ (x : Text). x.half ≤ 15) is h in
    let n1 : suc n ≡ n + 1 = omega arith in
    let before : n < length rest = omega (arith, g.2) in
    let last : n + 1 < length rest = omega (arith, g.2) in
    let all : length rest ≤ suc (n + 1) = omega (arith, g.2) in
    let f : take n rest ++ (3 ∷ []) ≡ take (n + 1) rest
    = ap (λ (x : ℕ). take n rest ++ (x ∷ [])) (sym (ended_by rest n refl g.1 before)) ∙ sym (take-suc rest n 0 before) ∙ ap (λ (x : ℕ). take x rest) n1 in
    let r : (take n rest ++ (3 ∷ [])) ++ (sum ∷ []) ≡ rest
    = ap (λ (x : List ℕ). x ++ (sum ∷ [])) f
    ∙ ap (λ (x : ℕ). take (n + 1) rest ++ (x ∷ [])) (sym g.3)
    ∙ sym (take-suc rest (n + 1) 0 last)
    ∙ take_all (suc (n + 1)) rest all in (
      a,
      g.0,
      ap (λ (x : ℕ × Text). x.0) (sym g.5),
      simp (le-leb p.1.half 15 half, fits.0, le-leb (length p.1.characters) 60 fits.1, fits.2),
      ap (text_bytes end a) (sym is)
          ∙ ap (λ (x : ℕ). summed (a ∷ x ∷ c ∷ (take n rest ++ (3 ∷ [])))) i
          ∙ ap (λ (x : List ℕ). a ∷ b ∷ c ∷ ((take n rest ++ (3 ∷ [])) ++ (sum_of (a ∷ b ∷ c ∷ x) ∷ []))) f
          ∙ ap (λ (x : List ℕ). a ∷ b ∷ c ∷ x) r
          ∙ sym z.4,
    )

-- ---- a counted message is no text

run_starts : (start count : ℕ) → 1 ≤ count → run_allowed start count ≡ true → is_text start ≡ false
unfolding run_allowed
run_starts start count h e = go (leb (start + count) 172) refl (and_parts (leb (start + count) 256) _ e).1
  where
    go : (t : Bool) → leb (start + count) 172 ≡ t → (t || ltb 181 start) ≡ true → is_text start ≡ false
    go true b f = too_low 172 181 start (omega (arith, leb-true (start + count) 172 b))
    go false b f = too_high 172 181 start (ltb-true 181 start f)

run_not_text : {M : Type 0} (make : ℕ → List ℕ → M) (m : M) (second first sum : ℕ) (end : End) (payload : List ℕ) → as_run make payload ≡ accepted m
    → carries_text end (first ∷ second ∷ (payload ++ (sum ∷ []))) ≡ false
unfolding carries_text
run_not_text make m second first sum end [] e = absurd (not_accepted 7 m e)
run_not_text make m second first sum end (start ∷ values) e =
    let p = passed_not (within 1 14 (length values)) 7 (refuse_if (not (run_allowed start (length values))) 8 (accepted (make start values))) m e in
    let q = passed_not (run_allowed start (length values)) 8 (accepted (make start values)) m p.1 in
    simp (run_starts start (length values) (within_both 1 14 (length values) p.0).0 q.0, and-false)

other_type : (end : End) (first second : ℕ) (s : List ℕ) → (second % 16 ≡ text_type end → ⊥) → carries_text end (first ∷ second ∷ s) ≡ false
unfolding carries_text
other_type end first second [] n = refl
other_type end first second (start ∷ s) n = simp (ne_eqb (second % 16) (text_type end) n)

pub no_text : (end : End) (known : Known end) (first kind : ℕ) (payload : List ℕ) (c : Counted end) → kind < 16 → as_message_by end known kind payload ≡ accepted c
    → carries_text end (bytes_of (framed first kind payload)) ≡ false
unfolding bytes_of
no_text end known first kind payload c k e = go (eqb kind (text_type end)) refl
  where
    second : ℕ
    second = length payload * 16 + kind

    sum : ℕ
    sum = sum_of (first ∷ second ∷ payload)

    run : (end : End) (known : Known end) (c : Counted end) → as_message_by end known kind payload ≡ accepted c → kind ≡ text_type end
        → carries_text end (first ∷ second ∷ (payload ++ (sum ∷ []))) ≡ false
    run Thermostat known c e t = run_not_text set_from c second first sum Thermostat payload (sym (names_set kind payload t) ∙ e)
    run Host known c e t = run_not_text data_from c second first sum Host payload (sym (names_data kind payload known t) ∙ e)

    go : (t : Bool) → eqb kind (text_type end) ≡ t → carries_text end (first ∷ second ∷ (payload ++ (sum ∷ []))) ≡ false
    go true t = run end known c e (eqb-true kind (text_type end) t)
    go false t =
        let m : second % 16 ≡ kind = omega arith in
        other_type end first second (payload ++ (sum ∷ [])) (λ z. eqb-false kind (text_type end) t (sym m ∙ z))
