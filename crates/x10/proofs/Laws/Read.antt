-- A start code and pairs that are read are places, each 0 or 1, so that the readers go on. Assumes nothing.
use mathlib.Core.Path.{◌≡◌, refl, sym, ap, ◌∙◌}
use mathlib.Core.Bool.{Bool, true, ◌&&◌, and_assoc}
use mathlib.Core.List.{List, [], ◌∷◌}
use Prim.Native.Nat.{ℕ, zero, suc, ◌+◌, ◌≤◌}
use native.Mathlib.Omega.{arith}
use lib.Dec.{eqb, ltb}
use lib.ListN.{length, get_or}
use lib.Seq.{slice, slice_empty, slice-cons}
use borrow.Author.Tests.{lt-ltb, eqb-true}
use Rattle.answer.specs.Answer.{accepted}
use Rattle.answer.proofs.Laws.Test.{on_accepted_lem}
use Rattle.x10.specs.Places.{are_places, start_code, starts_with, unpaired, number, spelled}
use Rattle.x10.specs.Pattern.{read, read_key}
use Rattle.x10.proofs.Laws.Bits.{and_left, and_right, both, paired-places, unpaired_back}
use Rattle.x10.proofs.Laws.Pattern.{read_on}

spelled-places : (ps : List ℕ) (n : ℕ) → spelled ps ≡ accepted n → are_places ps ≡ true
unfolding spelled
spelled-places ps n e =
    let p = on_accepted_lem number (unpaired ps) n e in
    let q = unpaired_back ps p.0 p.1 in
    ap are_places q.0 ∙ paired-places p.0 q.1

start_places : (l : List ℕ) → 4 ≤ length l → starts_with start_code l ≡ true → are_places (slice 0 4 l) ≡ true
start_places [] h e = absurd (omega arith)
start_places (a ∷ []) h e = absurd (omega arith)
start_places (a ∷ b ∷ []) h e = absurd (omega arith)
start_places (a ∷ b ∷ c ∷ []) h e = absurd (omega arith)
start_places (a ∷ b ∷ c ∷ d ∷ l) h e =
    let e1 = and_right (eqb a 1) (eqb b 1 && (eqb c 1 && (eqb d 0 && true))) e in
    let e2 = and_right (eqb b 1) (eqb c 1 && (eqb d 0 && true)) e1 in
    let e3 = and_right (eqb c 1) (eqb d 0 && true) e2 in
    let ea : a ≡ 1 = eqb-true a 1 (and_left (eqb a 1) _ e) in
    let eb : b ≡ 1 = eqb-true b 1 (and_left (eqb b 1) _ e1) in
    let ec : c ≡ 1 = eqb-true c 1 (and_left (eqb c 1) _ e2) in
    let ed : d ≡ 0 = eqb-true d 0 (and_left (eqb d 0) _ e3) in
    simp (lt-ltb a 2 (omega arith), lt-ltb b 2 (omega arith), lt-ltb c 2 (omega arith), lt-ltb d 2 (omega arith))

-- the places of a slice are those of its two parts
parted : (l : List ℕ) (f d m t : ℕ) → f + d ≡ m → m ≤ t → t ≤ length l → are_places (slice f t l) ≡ are_places (slice f m l) && are_places (slice m t l)
parted l f zero m t e h k =
    let z : m ≡ f = omega arith in
    sym
    (ap (λ (n : ℕ). are_places (slice f n l) && are_places (slice n t l)) z
    ∙ ap (λ (ps : List ℕ). are_places ps && are_places (slice f t l)) (slice_empty f l))
parted l f (suc d) m t e h k =
    let x = get_or l f 0 in
    ap are_places (slice-cons f t l 0 (omega arith) k)
    ∙ ap (◌&&◌ (ltb x 2)) (parted l (suc f) d m t (omega arith) h k)
    ∙ sym
    (ap (λ (ps : List ℕ). are_places ps && are_places (slice m t l)) (slice-cons f m l 0 (omega arith) (omega arith))
    ∙ and_assoc (ltb x 2) (are_places (slice (suc f) m l)) (are_places (slice m t l)))

joined : (l : List ℕ) (f d t : ℕ) → f + d ≤ t → t ≤ length l → are_places (slice f (f + d) l) ≡ true → are_places (slice (f + d) t l) ≡ true
    → are_places (slice f t l) ≡ true
joined l f d t h k a b = parted l f d (f + d) t refl h k ∙ both (are_places (slice f (f + d) l)) (are_places (slice (f + d) t l)) a b

module _ (l : List ℕ) where
  pub read-places : 22 ≤ length l → starts_with start_code l ≡ true → (h : ℕ) → spelled (slice 4 12 l) ≡ accepted h → (k : ℕ) → spelled (slice 12 20 l) ≡ accepted k
      → (d : ℕ) → spelled (slice 20 22 l) ≡ accepted d → are_places (slice 0 22 l) ≡ true
  read-places n s h eh k ek d ed =
      joined l 0 4 22 (omega arith) n (start_places l (omega arith) s)
      (joined l 4 8 22 (omega arith) n (spelled-places (slice 4 12 l) h eh)
      (joined l 12 8 22 (omega arith) n (spelled-places (slice 12 20 l) k ek) (spelled-places (slice 20 22 l) d ed)))

  -- behind a start code, house, key and D16 that are read: the reader goes on to them
  pub begun : 22 ≤ length l → starts_with start_code l ≡ true → (h : ℕ) → spelled (slice 4 12 l) ≡ accepted h → (k : ℕ) → spelled (slice 12 20 l) ≡ accepted k
      → (d : ℕ) → spelled (slice 20 22 l) ≡ accepted d → read l ≡ read_key l
  begun n s h eh k ek d ed = read_on l n (read-places n s h eh k ek d ed) s

  pub rest-places : 62 ≤ length l → (k : ℕ) → spelled (slice 22 30 l) ≡ accepted k → (d : ℕ) → spelled (slice 30 46 l) ≡ accepted d → (c : ℕ)
      → spelled (slice 46 62 l) ≡ accepted c → are_places (slice 22 62 l) ≡ true
  rest-places n k ek d ed c ec =
      joined l 22 8 62 (omega arith) n (spelled-places (slice 22 30 l) k ek)
      (joined l 30 16 62 (omega arith) n (spelled-places (slice 30 46 l) d ed) (spelled-places (slice 46 62 l) c ec))
