-- A packed answer taken apart again, as a C host does: the number is its low byte, and each field stands above those before it. An answer
-- packed from another's. Assumes nothing.
use mathlib.Core.Path.{◌≡◌, ap, ◌∙◌}
use mathlib.Core.List.{List, [], ◌∷◌, ◌++◌}
use Prim.Native.Nat.{ℕ, ◌+◌, ◌*◌, ◌/◌, ◌%◌, ◌^◌, ◌<◌}
use native.Mathlib.Nat.{zero-add, add-mul-div_left, div-eq_of_lt, div-div-eq-div-mul, add-mul-mod_self_left, mod-eq_of_lt, mul-mod_right, mul-div_right}
use native.Mathlib.Omega.{arith}
use lib.Pow.{pow_pos, pow-add}
use Rattle.answer.specs.Answer.{Outcome, refused, accepted, on_accepted}
use Rattle.answer.specs.Packed.{Field, stacked, packed}
use Rattle.answer.proofs.Laws.Test.{in_one}

-- every value fits its field
abbrev pub Fit : List Field → Type 0
Fit [] = Unit {0}
Fit (f ∷ fs) = (f.value < 2 ^ f.bits) × Fit fs

-- how many bits fields take
abbrev pub width : List Field → ℕ
width [] = 0
width (f ∷ fs) = f.bits + width fs

-- the low byte: the number of a refusal, 0 where something is accepted
pub number_of-refusal : (n : ℕ) → n < 2 ^ 8 → packed (refused n) % 2 ^ 8 ≡ n
number_of-refusal n h = mod-eq_of_lt h

pub number_of-accepted : (fs : List Field) → packed (accepted fs) % 2 ^ 8 ≡ 0
number_of-accepted fs = mul-mod_right (2 ^ 8) (stacked fs)

-- what stands above the lowest field
above : (f : Field) (n : ℕ) → f.value < 2 ^ f.bits → (f.value + 2 ^ f.bits * n) / 2 ^ f.bits ≡ n
above f n h =
    add-mul-div_left f.value n (pow_pos f.bits) ∙ ap (λ (k : ℕ). k + n) (div-eq_of_lt h) ∙ zero-add n

past : (before rest : List Field) → Fit before → stacked (before ++ rest) / 2 ^ width before ≡ stacked rest
past [] rest fit = omega arith
past (f ∷ fs) rest fit =
    ap (λ (n : ℕ). stacked ((f ∷ fs) ++ rest) / n) (pow-add 2 f.bits (width fs))
    ∙ rw (← div-div-eq-div-mul) (ap (λ (n : ℕ). n / 2 ^ width fs) (above f (stacked (fs ++ rest)) fit.0) ∙ past fs rest fit.1)

-- a field of an accepted answer, behind those before it
pub field_of_accepted : (before : List Field) (f : Field) (after : List Field) → Fit before → f.value < 2 ^ f.bits
    → packed (accepted (before ++ (f ∷ after))) / 2 ^ 8 / 2 ^ width before % 2 ^ f.bits ≡ f.value
field_of_accepted before f after fit h =
    ap (λ (n : ℕ). n / 2 ^ width before % 2 ^ f.bits) (mul-div_right (stacked (before ++ (f ∷ after))) (pow_pos 8))
    ∙ ap (λ (n : ℕ). n % 2 ^ f.bits) (past before (f ∷ after) fit)
    ∙ add-mul-mod_self_left f.value (2 ^ f.bits) (stacked after)
    ∙ mod-eq_of_lt h

-- a single field, with all that stands above the number
pub value_of_accepted : (f : Field) → packed (accepted (f ∷ [])) / 2 ^ 8 ≡ f.value
value_of_accepted f =
    let alone : f.value + 2 ^ f.bits * 0 ≡ f.value = omega arith in
    mul-div_right (stacked (f ∷ [])) (pow_pos 8) ∙ alone

-- an answer packed from what a lower call answers of the same outcome
pub of_lower : {A B : Type 0} (f : A → B) (fields : B → List Field) (o : Outcome A) (lower : Outcome B) (n : ℕ)
    → n ≡ packed (on_accepted fields lower) → lower ≡ on_accepted f o → n ≡ packed (on_accepted (λ a. fields (f a)) o)
of_lower {B = B} f fields o lower n e l =
    e ∙ ap (λ (x : Outcome B). packed (on_accepted fields x)) l ∙ ap packed (in_one f fields o)
