-- The frame of a message, decided check by check; a frame's bytes, and the frame of those bytes. Assumes nothing.
use mathlib.Core.Path.{◌≡◌, refl, ap, ◌∙◌, sym, subst}
use mathlib.Core.Bool.{Bool, true, false, not, and-true}
use mathlib.Core.List.{List, [], ◌∷◌, ◌++◌}
use Prim.Native.Nat.{ℕ, suc, ◌+◌, ◌-◌, ◌*◌, ◌/◌, ◌%◌, ◌<◌, ◌≤◌}
use native.Mathlib.Omega.{arith}
use lib.ListN.{length, get_or, take, drop, length-append}
use lib.Seq.{take-suc, take_all, length-take-le, take-append_seam, get_or-append_seam}
use lib.Dec.{ltb, eqb}
use borrow.Author.Tests.{lt-ltb, le-ltb, le-leb, eq-eqb, ltb-false, eqb-true}
use Rattle.answer.specs.Answer.{refused, accepted, refuse_if}
use Rattle.omnistat.specs.declared.frame.End.{End}
use Rattle.omnistat.specs.declared.frame.End.TheVariants.{Host}
use Rattle.omnistat.specs.Frame.{Frame, frame, directed, sum_of, summed, bytes_of}
use Rattle.answer.proofs.Laws.Test.{not_accepted, same, passed, passed_not}

-- the byte at a place is the sum of those before it
abbrev pub sum_test : List ℕ → ℕ → Bool
sum_test s last = eqb (get_or s last 0) (sum_of (take last s))

-- the same test, in the definition's words
in_place : (a b : ℕ) (s : List ℕ)
    → sum_test (a ∷ b ∷ s) (b / 16 + 3 - 1) ≡ eqb (get_or s (b / 16) 0) (sum_of (a ∷ b ∷ take (b / 16) s))
in_place a b s =
    let e : b / 16 + 3 - 1 ≡ suc (suc (b / 16)) = omega arith in
    ap (λ (last : ℕ). sum_test (a ∷ b ∷ s) last) e

-- what a whole message is taken apart into
abbrev pub taken : List ℕ → Frame
taken s = record { first = get_or s 0 0; kind = get_or s 1 0 % 16; payload = take (get_or s 1 0 / 16) (drop 2 s) }

-- the checks in their order, each with the facts that the earlier ones left
module _ (end : End) where
  pub empty : (s : List ℕ) → length s ≡ 0 → frame end s ≡ refused 1
  unfolding frame
  empty [] h = refl
  empty (a ∷ s) h = absurd (omega arith)

  pub misdirected : (s : List ℕ) → 0 < length s → directed end (get_or s 0 0) ≡ false → frame end s ≡ refused 2
  unfolding frame
  misdirected [] h d = absurd (omega arith)
  misdirected (a ∷ []) h d = simp d
  misdirected (a ∷ b ∷ s) h d = simp d

  pub one_byte : (s : List ℕ) → length s ≡ 1 → directed end (get_or s 0 0) ≡ true → frame end s ≡ refused 1
  unfolding frame
  one_byte [] h d = absurd (omega arith)
  one_byte (a ∷ []) h d = simp d
  one_byte (a ∷ b ∷ s) h d = absurd (omega arith)

  pub short : (s : List ℕ) → 1 < length s → directed end (get_or s 0 0) ≡ true → length s < get_or s 1 0 / 16 + 3 → frame end s ≡ refused 1
  unfolding frame
  short [] h d k = absurd (omega arith)
  short (a ∷ []) h d k = absurd (omega arith)
  short (a ∷ b ∷ s) h d k = simp (d, lt-ltb _ _ k)

  pub long : (s : List ℕ) → 1 < length s → directed end (get_or s 0 0) ≡ true → get_or s 1 0 / 16 + 3 < length s → frame end s ≡ refused 4
  unfolding frame
  long [] h d k = absurd (omega arith)
  long (a ∷ []) h d k = absurd (omega arith)
  long (a ∷ b ∷ s) h d k =
      let n : b / 16 + 3 ≤ length (a ∷ b ∷ s) = omega arith in
      simp (d, le-ltb (length (a ∷ b ∷ s)) (b / 16 + 3) n, lt-ltb _ _ k)

  -- a whole message, by the outcome of its last check
  pub judged : (t : Bool) (s : List ℕ) → 1 < length s → directed end (get_or s 0 0) ≡ true → length s ≡ get_or s 1 0 / 16 + 3
      → sum_test s (get_or s 1 0 / 16 + 3 - 1) ≡ t → frame end s ≡ refuse_if (not t) 5 (accepted (taken s))
  unfolding frame
  judged t [] h d k e = absurd (omega arith)
  judged t (a ∷ []) h d k e = absurd (omega arith)
  judged t (a ∷ b ∷ s) h d k e =
      let n : b / 16 + 3 ≤ length (a ∷ b ∷ s) = omega arith in
      let m : length (a ∷ b ∷ s) ≤ b / 16 + 3 = omega arith in
      simp (d, le-ltb (length (a ∷ b ∷ s)) (b / 16 + 3) n, le-ltb (b / 16 + 3) (length (a ∷ b ∷ s)) m, sym (in_place a b s) ∙ e)

-- a message is whole where N + 1 bytes follow its second byte, the last of them the sum
whole_bytes : (a b : ℕ) (s : List ℕ) → length s ≡ b / 16 + 1
    → get_or s (b / 16) 0 ≡ sum_of (a ∷ b ∷ take (b / 16) s)
    → bytes_of (taken (a ∷ b ∷ s)) ≡ a ∷ b ∷ s
unfolding bytes_of
whole_bytes a b s n e =
    let l : b / 16 < length s = omega arith in
    let m : length s ≤ suc (b / 16) = omega arith in
    let h : length (take (b / 16) s) ≡ b / 16 = length-take-le (b / 16) s (omega arith) in
    let k : length (take (b / 16) s) * 16 + b % 16 ≡ b = omega (arith, h) in
    ap (λ (second : ℕ). summed (a ∷ second ∷ take (b / 16) s)) k
    ∙ ap (λ (last : ℕ). a ∷ b ∷ (take (b / 16) s ++ (last ∷ []))) (sym e)
    ∙ ap (λ (t : List ℕ). a ∷ b ∷ t) (sym (take-suc s (b / 16) 0 l) ∙ take_all (suc (b / 16)) s m)

-- at the host every byte above 80 is a reply's
pub at_host : (first : ℕ) → first ≤ 255 → ltb 128 first ≡ directed Host first
at_host first h = simp (le-leb first 255 h, and-true)

-- a frame that was accepted is the frame of exactly these bytes
pub taken_apart : (end : End) (s : List ℕ) (f : Frame) → frame end s ≡ accepted f
    → (directed end f.first ≡ true) × (f.kind < 16) × (bytes_of f ≡ s)
unfolding frame
taken_apart end [] f e = absurd (not_accepted 1 f e)
taken_apart end (a ∷ []) f e = absurd (not_accepted 1 f (passed_not (directed end a) 2 (refused 1) f e).1)
taken_apart end (a ∷ b ∷ s) f e =
    let p = passed_not (directed end a) 2 _ f e in
    let q = passed (ltb (length (a ∷ b ∷ s)) (b / 16 + 3)) 1 _ f p.1 in
    let r = passed (ltb (b / 16 + 3) (length (a ∷ b ∷ s))) 4 _ f q.1 in
    let u = passed_not (eqb (get_or s (b / 16) 0) (sum_of (a ∷ b ∷ take (b / 16) s))) 5 (accepted (taken (a ∷ b ∷ s))) f r.1 in
    let g : taken (a ∷ b ∷ s) ≡ f = same u.1 in
    let n : length s ≡ b / 16 + 1 = omega (arith, ltb-false (length (a ∷ b ∷ s)) (b / 16 + 3) q.0, ltb-false (b / 16 + 3) (length (a ∷ b ∷ s)) r.0) in
    let k : b % 16 < 16 = omega arith in (
      ap (λ (h : Frame). directed end h.first) (sym g) ∙ p.0,
      subst (λ (h : Frame). h.kind < 16) g k,
      ap bytes_of (sym g) ∙ whole_bytes a b s n (eqb-true _ _ u.0),
    )

-- the bytes of a frame are read back as that frame
pub read_back : (end : End) (f : Frame) → directed end f.first ≡ true → f.kind < 16 → frame end (bytes_of f) ≡ accepted f
unfolding bytes_of
read_back end f d k =
    let p = f.payload in
    let second = length p * 16 + f.kind in
    let rest = p ++ (sum_of (f.first ∷ second ∷ p) ∷ []) in
    let n : second / 16 ≡ length p = omega arith in
    let t : second % 16 ≡ f.kind = omega arith in
    let m : take (second / 16) rest ≡ p = ap (λ (i : ℕ). take i rest) n ∙ take-append_seam p _ in
    let l : length rest ≡ length p + 1 = length-append p _ in
    let g : get_or rest (second / 16) 0 ≡ sum_of (f.first ∷ second ∷ p) = ap (λ (i : ℕ). get_or rest i 0) n ∙ get_or-append_seam p _ [] 0 in
    let e : get_or rest (second / 16) 0 ≡ sum_of (f.first ∷ second ∷ take (second / 16) rest)
    = g ∙ ap (λ (x : List ℕ). sum_of (f.first ∷ second ∷ x)) (sym m) in
    judged end true (f.first ∷ second ∷ rest) (omega arith) d (omega (arith, l))
    (in_place f.first second rest ∙ eq-eqb _ _ e)
    ∙ ap accepted (λ i. record { first = f.first; kind = t i; payload = m i })
