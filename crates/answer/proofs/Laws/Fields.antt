-- Fields of one width, stacked one below another. Assumes nothing.
use Rattle.std.proofs.Common.{◌≡◌, ℕ, zero, suc, ◌+◌, ◌-◌, ◌*◌, ◌%◌, ◌^◌, ◌<◌, ◌≤◌, List, map, drop, length, get_or, ap, sym, ◌∙◌, arith, drop-cons}
use Rattle.std.proofs.Math.Nat.{mul-suc, mul-le-mul_left, pow-le-pow_right, le_trans, zero-add, add-mod-mod, mod-mod}
use Rattle.std.proofs.lemmas.Nat.{pow-add, pow_pos, mul-mod}
use Rattle.std.proofs.lemmas.List.{drop_all}
use Rattle.answer.specs.Packed.{Field, field, stacked}

-- the fields that values make
abbrev pub fields_of : {A : Type 0} → ℕ → (A → ℕ) → List A → List Field
fields_of b v xs = map (λ x. field b (v x)) xs

module _ {A : Type 0} (b : ℕ) (v : A → ℕ) where
  -- what is stacked of the values from a place on, and that it takes no more bits than they are given
  abbrev pub Above : List A → ℕ → ℕ → Type 0
  Above xs i above = (above ≡ stacked (fields_of b v (drop i xs))) × (above < 2 ^ (b * (length xs - i)))

  one_more : (k x above : ℕ) → x < 2 ^ b → above < 2 ^ (b * k) → x + 2 ^ b * above < 2 ^ (b * suc k)
  one_more k x above h g =
      let wide : 2 ^ (b * suc k) ≡ 2 ^ b * 2 ^ (b * k) = ap (λ (n : ℕ). 2 ^ n) (mul-suc b k ∙ (omega arith)) ∙ pow-add 2 b (b * k) in
      let most : 2 ^ b * suc above ≤ 2 ^ b * 2 ^ (b * k) = mul-le-mul_left (2 ^ b) (omega arith) in
      rw wide (omega (arith, mul-suc (2 ^ b) above, most))

  few : (xs : List A) (k above : ℕ) → k ≤ length xs → 8 + b * length xs ≤ 64 → above < 2 ^ (b * k) → above < 2 ^ 56
  few xs k above h fit bound =
      let bits : b * k ≤ 56 = le_trans (mul-le-mul_left b h) (omega arith) in
      let fits : 2 ^ (b * k) ≤ 2 ^ 56 = pow-le-pow_right (omega arith) bits in
      omega arith

  -- of no values
  pub none : (xs : List A) (i : ℕ) → i ≡ length xs → Above xs i 0
  none xs i e =
      (sym (ap (λ (ys : List A). stacked (fields_of b v ys)) (drop_all i xs (omega arith))), pow_pos (b * (length xs - i)))

  -- where all of them fit above the low byte, so does what a field makes of those above it
  pub below : (xs : List A) (i : ℕ) (d : A) (above r : ℕ) → i < length xs → 8 + b * length xs ≤ 64 → v (get_or xs i d) < 2 ^ b → Above xs (suc i) above
      → (v (get_or xs i d) + 2 ^ b * above < 2 ^ 64 → r ≡ v (get_or xs i d) + 2 ^ b * above) → Above xs i r
  below xs i d above r h fit small a e =
      let x = v (get_or xs i d) in
      let left : length xs - i ≡ suc (length xs - suc i) = omega arith in
      let bound : x + 2 ^ b * above < 2 ^ (b * (length xs - i)) = rw left (one_more (length xs - suc i) x above small a.1) in
      let fits : x + 2 ^ b * above < 2 ^ 56 = few xs (length xs - i) (x + 2 ^ b * above) (omega arith) fit bound in
      let is : r ≡ x + 2 ^ b * above = e (omega arith) in
      (is ∙ ap (λ (n : ℕ). x + 2 ^ b * n) a.0 ∙ sym (ap (λ (ys : List A). stacked (fields_of b v ys)) (drop-cons xs i d h)), rw is bound)

  -- all of them, above the low byte
  pub whole : (xs : List A) (i above r : ℕ) → i ≤ 0 → 8 + b * length xs ≤ 64 → Above xs i above → (0 + 256 * above < 2 ^ 64 → r ≡ 0 + 256 * above)
      → r ≡ 256 * stacked (fields_of b v xs)
  whole xs zero above r h fit a e =
      let fits : above < 2 ^ 56 = few xs (length xs - 0) above (omega arith) fit a.1 in
      let is : r ≡ 256 * above = e (omega arith) ∙ zero-add (256 * above) in
      is ∙ ap (λ (n : ℕ). 256 * n) a.0
  whole xs (suc i) above r h fit a e = absurd (omega arith)

  -- the low 64 bits of what is stacked of the values from a place on
  abbrev pub Low : List A → ℕ → ℕ → Type 0
  Low xs i above = above ≡ stacked (fields_of b v (drop i xs)) % 2 ^ 64

  pub low-none : (xs : List A) (i : ℕ) → i ≡ length xs → Low xs i 0
  low-none xs i e = sym (ap (λ (ys : List A). stacked (fields_of b v ys) % 2 ^ 64) (drop_all i xs (omega arith)))

  -- a multiple's low bits go by the low bits alone
  low_multiple : (x k n : ℕ) → (x + k * (n % 2 ^ 64)) % 2 ^ 64 ≡ (x + k * n) % 2 ^ 64
  low_multiple x k n =
      sym (add-mod-mod x (k * (n % 2 ^ 64)) (2 ^ 64))
      ∙ ap (λ (m : ℕ). (x + m) % 2 ^ 64)
      (mul-mod k (n % 2 ^ 64) (2 ^ 64) ∙ ap (λ (m : ℕ). (k % 2 ^ 64 * m) % 2 ^ 64) (mod-mod n (2 ^ 64)) ∙ sym (mul-mod k n (2 ^ 64)))
      ∙ add-mod-mod x (k * n) (2 ^ 64)

  pub low-below : (xs : List A) (i : ℕ) (d : A) (above r : ℕ) → i < length xs → Low xs (suc i) above
      → r ≡ (v (get_or xs i d) + 2 ^ b * above) % 2 ^ 64 → Low xs i r
  low-below xs i d above r h a e =
      let x = v (get_or xs i d) in
      e
      ∙ ap (λ (n : ℕ). (x + 2 ^ b * n) % 2 ^ 64) a
      ∙ low_multiple x (2 ^ b) (stacked (fields_of b v (drop (suc i) xs)))
      ∙ sym (ap (λ (ys : List A). stacked (fields_of b v ys) % 2 ^ 64) (drop-cons xs i d h))

  -- of all of them, above the low byte
  pub low-whole : (xs : List A) (i above r : ℕ) → i ≤ 0 → Low xs i above → r ≡ (0 + 256 * above) % 2 ^ 64 → r ≡ (256 * stacked (fields_of b v xs)) % 2 ^ 64
  low-whole xs zero above r h a e =
      let s = stacked (fields_of b v xs) in
      e ∙ ap (λ (n : ℕ). (0 + 256 * n) % 2 ^ 64) a ∙ low_multiple 0 256 s ∙ ap (λ (n : ℕ). n % 2 ^ 64) (zero-add (256 * s))
  low-whole xs (suc i) above r h a e = absurd (omega arith)
