-- Bytes put into the output one part after another. Assumes nothing.
use mathlib.Core.Path.{◌≡◌, refl, sym, ap, ap₂, ◌∙◌}
use mathlib.Core.List.{List, [], ◌∷◌, ◌++◌, append_assoc, append-nil}
use Prim.Native.Nat.{ℕ, suc, ◌+◌, ◌-◌, ◌≤◌}
use native.Mathlib.Nat.{add-zero, add_assoc}
use native.Mathlib.Numerals.{towards_suc}
use native.Mathlib.Omega.{arith}
use lib.ListN.{length, take, drop, set, length-append, length-take, length-drop, take-append-drop, drop_of_length-le}
use lib.Seq.{sets, sets-eq, take_all, take_at, take-length, drop_at, drop-drop}
use Rattle.listing.specs.Parts.{placed, Put}

-- a run of stores
pub stored : (xs old : List ℕ) (at next : ℕ) → at + length xs ≤ length old → next ≡ at + length xs → Put at xs old (sets old at xs) next
unfolding placed
stored xs old at next fits moved = record { fits = fits; moved = moved; put = sets-eq xs old at fits }

-- the same for the code's stores, of one byte to four
module _ (o : List ℕ) (at a : ℕ) where
  pub stored₁ : at + 1 ≤ length o → Put at (a ∷ []) o (set o at a) (at + 1)
  stored₁ h = simp towards_suc (stored (a ∷ []) o at (suc at) h (omega arith))

  module _ (b : ℕ) where
    pub stored₂ : at + 2 ≤ length o → Put at (a ∷ b ∷ []) o (set (set o at a) (at + 1) b) (at + 2)
    stored₂ h = simp towards_suc (stored (a ∷ b ∷ []) o at (suc (suc at)) h (omega arith))

    module _ (c : ℕ) where
      pub stored₃ : at + 3 ≤ length o → Put at (a ∷ b ∷ c ∷ []) o (set (set (set o at a) (at + 1) b) (at + 2) c) (at + 3)
      stored₃ h = simp towards_suc (stored (a ∷ b ∷ c ∷ []) o at (suc (suc (suc at))) h (omega arith))

      module _ (d : ℕ) where
        pub stored₄ : at + 4 ≤ length o
            → Put at (a ∷ b ∷ c ∷ d ∷ []) o (set (set (set (set o at a) (at + 1) b) (at + 2) c) (at + 3) d) (at + 4)
        stored₄ h = simp towards_suc (stored (a ∷ b ∷ c ∷ d ∷ []) o at (suc (suc (suc (suc at)))) h (omega arith))

-- bytes copied into the part that is as long as they are
pub put_copied : (xs old ys : List ℕ) (at : ℕ) → at + length xs ≤ length old → ys ≡ xs
    → Put at xs old (take at old ++ (ys ++ drop (at + length xs - at) (drop at old))) (at + length xs)
unfolding placed
put_copied xs old ys at h e =
    let n : at + length xs - at ≡ length xs = omega arith in
    record {
      fits = h;
      moved = refl;
      put = ap (λ (y : List ℕ). take at old ++ (y ++ drop (at + length xs - at) (drop at old))) e
          ∙ ap (λ (k : ℕ). take at old ++ (xs ++ drop k (drop at old))) n
          ∙ ap (λ (r : List ℕ). take at old ++ (xs ++ r)) (drop-drop (length xs) at old)
          ∙ sym (append_assoc (take at old) xs (drop (at + length xs) old));
    }

-- nothing put
pub nothing : (old : List ℕ) (at : ℕ) → at ≤ length old → Put at [] old old at
unfolding placed
nothing old at h = record {
  fits = omega arith;
  moved = sym (add-zero at);
  put = sym (ap (λ (k : ℕ). take at old ++ [] ++ drop k old) (add-zero at) ∙ ap (λ (r : List ℕ). r ++ drop at old) (append-nil (take at old)) ∙ take-append-drop at old);
}

module _ (at : ℕ) (xs old : List ℕ) (h : at + length xs ≤ length old) where
  front : length (take at old ++ xs) ≡ at + length xs
  front = simp (length-append, length-take) (omega arith)

  pub placed-length : length (placed at xs old) ≡ length old
  unfolding placed
  placed-length = simp (length-append, length-take, length-drop) (omega arith)

  placed-twice : (ys : List ℕ) → placed (at + length xs) ys (placed at xs old) ≡ placed at (xs ++ ys) old
  unfolding placed
  placed-twice ys =
      let p = take at old ++ xs in
      let behind = drop (at + length xs) old in
      let k : at + length xs + length ys ≡ at + length (xs ++ ys) = ap (λ (n : ℕ). n) (add_assoc at (length xs) (length ys)) ∙ ap (λ (n : ℕ). at + n) (sym (length-append xs ys)) in
      let past : drop (at + length xs + length ys) (p ++ behind) ≡ drop (at + length (xs ++ ys)) old =
      sym (drop-drop (length ys) (at + length xs) (p ++ behind))
      ∙ ap (drop (length ys)) (drop_at p behind (at + length xs) front)
      ∙ drop-drop (length ys) (at + length xs) old
      ∙ ap (λ (n : ℕ). drop n old) k in
      ap₂ (λ (x y : List ℕ). x ++ ys ++ y) (take_at p behind (at + length xs) front) past
      ∙ ap (λ (x : List ℕ). x ++ drop (at + length (xs ++ ys)) old) (append_assoc (take at old) xs ys)

pub put-length : {at n : ℕ} {xs o o' : List ℕ} → Put at xs o o' n → length o' ≡ length o
put-length {at} {n} {xs} {o} p = ap length p.put ∙ placed-length at xs o p.fits

-- one part, and another behind it
pub joined : {at n₁ n₂ : ℕ} {xs ys o₀ o₁ o₂ : List ℕ} → Put at xs o₀ o₁ n₁ → Put n₁ ys o₁ o₂ n₂ → Put at (xs ++ ys) o₀ o₂ n₂
joined {at} {n₁} {n₂} {xs} {ys} {o₀} {o₁} {o₂} p q =
    let long : length o₁ ≡ length o₀ = put-length p in
    let e : length (xs ++ ys) ≡ length xs + length ys = length-append xs ys in
    record {
      fits = omega (arith, p.moved, q.fits);
      moved = omega (arith, p.moved, q.moved);
      put = q.put ∙ ap₂ (λ (n : ℕ) (o : List ℕ). placed n ys o) p.moved p.put ∙ placed-twice at xs o₀ p.fits ys;
    }

-- what fits together fits one behind the other
pub first_fits : (at n : ℕ) (xs ys : List ℕ) → at + length (xs ++ ys) ≤ n → at + length xs ≤ n
first_fits at n xs ys h = omega (arith, length-append xs ys)

pub next_fits : {at n : ℕ} {xs o o' : List ℕ} (ys : List ℕ) → Put at xs o o' n → at + length (xs ++ ys) ≤ length o → n + length ys ≤ length o'
next_fits {at} {n} {xs} {o} {o'} ys p h =
    let long : length o' ≡ length o = put-length p in
    omega (arith, p.moved, length-append xs ys)

-- the same bytes
pub same_bytes : {at next : ℕ} {xs ys old after : List ℕ} → xs ≡ ys → Put at xs old after next → Put at ys old after next
same_bytes {at} {next} {xs} {ys} {old} {after} e p = rw e at p

-- bytes from the start on
pub from_start : {next : ℕ} {xs old after : List ℕ} → Put 0 xs old after next → after ≡ xs ++ drop (length xs) old
unfolding placed
from_start {next} {xs} {old} p =
    let e : 0 + length xs ≡ length xs = omega arith in
    p.put ∙ ap (λ (n : ℕ). xs ++ drop n old) e

pub size_from_start : {next : ℕ} {xs old after : List ℕ} → Put 0 xs old after next → next ≡ length xs
size_from_start p = omega (arith, p.moved)

-- bytes copied into a part that is no longer than they are
pub copied : (xs old : List ℕ) (n : ℕ) → n ≤ length xs → take (length xs) xs ++ drop (length xs) (take n old) ≡ xs
copied xs old n h =
    let none : drop (length xs) (take n old) ≡ [] = drop_of_length-le (take n old) {i = length xs} (simp length-take (omega arith)) in
    ap₂ (λ (x y : List ℕ). x ++ y) (take-length xs) none ∙ append-nil xs

-- bytes put at the start, and then others behind them
pub two_parts : {xs ys first second : List ℕ} (old₁ old₂ : List ℕ) → first ≡ xs → second ≡ ys
    → take (length xs + length ys) (take (length xs) (first ++ old₁) ++ (second ++ old₂)) ≡ xs ++ ys
two_parts {xs} {ys} {first} {second} old₁ old₂ e f =
    ap₂ (λ (x y : List ℕ). take (length xs + length ys) (take (length xs) (x ++ old₁) ++ (y ++ old₂))) e f
    ∙ ap (λ (x : List ℕ). take (length xs + length ys) (x ++ (ys ++ old₂))) (take_at xs old₁ (length xs) refl)
    ∙ ap (take (length xs + length ys)) (sym (append_assoc xs ys old₂))
    ∙ take_at (xs ++ ys) old₂ (length xs + length ys) (length-append xs ys)

-- a part up to the end
pub behind-all : {A : Type 0} (s : List A) (at : ℕ) → take (length s - at) (drop at s) ≡ drop at s
behind-all {A} s at = take_all (length s - at) (drop at s) (omega (arith, length-drop at s))
