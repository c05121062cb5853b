-- The lists that data bytes carry: their lengths, their items, and the test on their zones. Assumes nothing.
use mathlib.Core.Path.{◌≡◌, refl, sym, ap, ap₂, ◌∙◌}
use mathlib.Core.Bool.{true, ◌&&◌}
use mathlib.Core.List.{List, [], ◌∷◌}
use Prim.Native.Nat.{ℕ, zero, suc, ◌+◌, ◌-◌, ◌*◌, ◌/◌, ◌%◌, ◌^◌, ◌<◌, ◌≤◌}
use native.Mathlib.Numerals.{add-two}
use native.Mathlib.Omega.{arith}
use lib.ListN.{length, get_or, drop, drop_of_length-le}
use lib.Seq.{drop-cons}
use Rattle.message.specs.Lists.{zone_listed, zones_listed, pairs, texts, text_of}
use Rattle.message.specs.Item.{item_at}
use Rattle.message.specs.Parts.{two_bits}
use Rattle.answer.specs.Answer.{refused, accepted}

pub pairs-length : {A : Type 0} (make : ℕ → ℕ → A) (d : List ℕ) → length (pairs make d) ≡ length d / 2
pairs-length make [] = refl
pairs-length make (a ∷ []) = refl
pairs-length make (a ∷ b ∷ d) = let ih : length (pairs make d) ≡ length d / 2 = pairs-length make d in omega arith

pub texts-length : (d : List ℕ) → length (texts d) ≡ 4 * length d
texts-length [] = refl
texts-length (b ∷ d) = let ih : length (texts d) ≡ 4 * length d = texts-length d in omega arith

-- the test on zones goes on behind a listed one
pub zones-step : (d : List ℕ) (i : ℕ) → suc i < length d
    → zones_listed (drop i d) ≡ (zone_listed (get_or d i 0) && zones_listed (drop (i + 2) d))
zones-step d i h =
    ap zones_listed (drop-cons d i 0 (omega arith) ∙ ap {B = List ℕ} (λ t. get_or d i 0 ∷ t) (drop-cons d (suc i) 0 h))
    ∙ ap (λ (k : ℕ). zone_listed (get_or d i 0) && zones_listed (drop k d)) (sym (add-two i))

-- and ends where the bytes end
pub zones-end : (d : List ℕ) (i : ℕ) → length d ≤ i → zones_listed (drop i d) ≡ true
zones-end d i h = ap zones_listed (drop_of_length-le d h)

-- ---- items

pub item_past : {A : Type 0} (l : List A) (i : ℕ) → length l ≤ i → item_at l i ≡ refused 8
item_past [] i h = refl
item_past (a ∷ l) zero h = let z : ⊥ = omega arith in absurd z
item_past (a ∷ l) (suc i) h = item_past l i (omega arith)

pub item_there : {A : Type 0} (l : List A) (i : ℕ) (x : A) → i < length l → item_at l i ≡ accepted (get_or l i x)
item_there [] i x h = let z : ⊥ = omega arith in absurd z
item_there (a ∷ l) zero x h = refl
item_there (a ∷ l) (suc i) x h = item_there l i x (omega arith)

module _ {A : Type 0} (make : ℕ → ℕ → A) where
  pub past_pairs : (d : List ℕ) (i : ℕ) → length d / 2 ≤ i → item_at (pairs make d) i ≡ refused 8
  past_pairs [] i h = refl
  past_pairs (a ∷ []) i h = refl
  past_pairs (a ∷ b ∷ d) zero h = let z : ⊥ = omega arith in absurd z
  past_pairs (a ∷ b ∷ d) (suc i) h = past_pairs d i (omega arith)

  pub pair_item : (d : List ℕ) (i : ℕ) → i < length d / 2 → item_at (pairs make d) i ≡ accepted (make (get_or d (2 * i) 0) (get_or d (2 * i + 1) 0))
  pair_item [] i h = let z : ⊥ = omega arith in absurd z
  pair_item (a ∷ []) i h = let z : ⊥ = omega arith in absurd z
  pair_item (a ∷ b ∷ d) zero h = refl
  pair_item (a ∷ b ∷ d) (suc i) h =
      let x : suc (suc (2 * i)) ≡ 2 * suc i = omega arith in
      let y : suc (suc (2 * i + 1)) ≡ 2 * suc i + 1 = omega arith in
      pair_item d i (omega arith) ∙ ap₂ (λ (m n : ℕ). accepted (make (get_or (a ∷ b ∷ d) m 0) (get_or (a ∷ b ∷ d) n 0))) x y

-- the two bits of a text message, by a shift
pub two_bits_lem : (b k : ℕ) → b < 256 → k < 4 → b / 2 ^ (6 - 2 * k) % 4 ≡ two_bits b k
two_bits_lem b zero h l = omega arith
two_bits_lem b (suc zero) h l = refl
two_bits_lem b (suc (suc zero)) h l = refl
two_bits_lem b (suc (suc (suc zero))) h l = omega arith
two_bits_lem b (suc (suc (suc (suc k)))) h l = let z : ⊥ = omega arith in absurd z

pub past_texts : (d : List ℕ) (i : ℕ) → length d ≤ i / 4 → item_at (texts d) i ≡ refused 8
past_texts [] i h = refl
past_texts (b ∷ d) zero h = let z : ⊥ = omega arith in absurd z
past_texts (b ∷ d) (suc zero) h = let z : ⊥ = omega arith in absurd z
past_texts (b ∷ d) (suc (suc zero)) h = let z : ⊥ = omega arith in absurd z
past_texts (b ∷ d) (suc (suc (suc zero))) h = let z : ⊥ = omega arith in absurd z
past_texts (b ∷ d) (suc (suc (suc (suc i)))) h = past_texts d i (omega arith)

pub text_item_lem : (d : List ℕ) (i : ℕ) → i / 4 < length d → item_at (texts d) i ≡ accepted (text_of (two_bits (get_or d (i / 4) 0) (i % 4)))
text_item_lem [] i h = let z : ⊥ = omega arith in absurd z
text_item_lem (b ∷ d) zero h = refl
text_item_lem (b ∷ d) (suc zero) h = refl
text_item_lem (b ∷ d) (suc (suc zero)) h = refl
text_item_lem (b ∷ d) (suc (suc (suc zero))) h = refl
text_item_lem (b ∷ d) (suc (suc (suc (suc i)))) h =
    let q : suc (i / 4) ≡ suc (suc (suc (suc i))) / 4 = omega arith in
    let m : i % 4 ≡ suc (suc (suc (suc i))) % 4 = omega arith in
    text_item_lem d i (omega arith) ∙ ap₂ (λ (x y : ℕ). accepted (text_of (two_bits (get_or (b ∷ d) x 0) y))) q m
