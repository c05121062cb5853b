-- What is decoded is encoded to itself: each message that data bytes carry is written as those bytes. Assumes nothing.
use mathlib.Core.Path.{◌≡◌, refl, sym, ap, subst, ◌∙◌}
use mathlib.Core.Bool.{Bool, true, false, not, cond, ◌&&◌}
use mathlib.Core.List.{List, [], ◌∷◌}
use Prim.Native.Nat.{ℕ, zero, suc, ◌+◌, ◌*◌, ◌/◌, ◌%◌, ◌<◌}
use native.Mathlib.Omega.{arith}
use lib.Dec.{T, eqb, ltb, leb, ltb→lt}
use lib.Ieee.Fits.{and_l, and_r}
use lib.ListN.{length, get_or, drop}
use lib.Pow.{are_bytes}
use borrow.Author.Tests.{eqb-true, eqb-false, ltb-true, not-true}
use Rattle.answer.specs.Bit.{bit}
use Rattle.message.specs.Command.{duration_listed, command_listed, command_of}
use Rattle.message.specs.Lists.{zone_of, zone_listed, zones_listed, text_of, zones, words, texts}
use Rattle.message.specs.Typed.{parameters, command_bytes, condition_bits, latched_bits, arming_bits, status_byte, zone_bytes, event_bytes, text_bits, text_bytes}
use Rattle.message.specs.declared.lists.Condition.{Condition}
use Rattle.message.specs.declared.lists.LatchedAlarm.{LatchedAlarm}
use Rattle.message.specs.declared.lists.Arming.{Arming}
use Rattle.message.proofs.Laws.Checked.{both}
use Rattle.message.proofs.Laws.Duration.{p1_after_duration}

-- ---- lists of a known length, by their elements

pub none_of : (d : List ℕ) → length d ≡ 0 → d ≡ []
none_of [] e = refl
none_of (a ∷ d) e = let z : ⊥ = omega arith in absurd z

pub leading : (d : List ℕ) → get_or d 0 0 ≡ 0 → (length d ≡ 0 → ⊥) → 0 ∷ drop 1 d ≡ d
leading [] e some = absurd (some refl)
leading (a ∷ d) e some = ap {B = List ℕ} (λ x. x ∷ d) (sym e)

pub two_of : (d : List ℕ) → length d ≡ 2 → d ≡ get_or d 0 0 ∷ get_or d 1 0 ∷ []
two_of [] e = let z : ⊥ = omega arith in absurd z
two_of (a ∷ []) e = let z : ⊥ = omega arith in absurd z
two_of (a ∷ b ∷ []) e = refl
two_of (a ∷ b ∷ c ∷ d) e = let z : ⊥ = omega arith in absurd z

pub four_of : (d : List ℕ) → length d ≡ 4 → d ≡ get_or d 0 0 ∷ get_or d 1 0 ∷ get_or d 2 0 ∷ get_or d 3 0 ∷ []
four_of [] e = let z : ⊥ = omega arith in absurd z
four_of (a ∷ []) e = let z : ⊥ = omega arith in absurd z
four_of (a ∷ b ∷ d) e = ap {B = List ℕ} (λ t. a ∷ b ∷ t) (two_of d (omega arith))

pub ten_of : (d : List ℕ) → length d ≡ 10
    → d ≡ get_or d 0 0 ∷ get_or d 1 0 ∷ get_or d 2 0 ∷ get_or d 3 0 ∷ get_or d 4 0 ∷ get_or d 5 0 ∷ get_or d 6 0 ∷ get_or d 7 0 ∷ get_or d 8 0 ∷ get_or d 9 0 ∷ []
ten_of [] e = let z : ⊥ = omega arith in absurd z
ten_of (a ∷ []) e = let z : ⊥ = omega arith in absurd z
ten_of (a ∷ b ∷ []) e = let z : ⊥ = omega arith in absurd z
ten_of (a ∷ b ∷ c ∷ []) e = let z : ⊥ = omega arith in absurd z
ten_of (a ∷ b ∷ c ∷ f ∷ []) e = let z : ⊥ = omega arith in absurd z
ten_of (a ∷ b ∷ c ∷ f ∷ g ∷ []) e = let z : ⊥ = omega arith in absurd z
ten_of (a ∷ b ∷ c ∷ f ∷ g ∷ h ∷ d) e = ap {B = List ℕ} (λ t. a ∷ b ∷ c ∷ f ∷ g ∷ h ∷ t) (four_of d (omega arith))

-- ---- commands

-- a nested test that holds, branch by branch
branch : {G : Type 0} (t a b : Bool) → (t ≡ true → a ≡ true → G) → (b ≡ true → G) → cond t a b ≡ true → G
branch true a b then' other h = then' refl h
branch false a b then' other h = other h

-- what holds of every listed command number holds of a number that is listed
module _ (p1 p2 : ℕ) (P : ℕ → Type 0) where
  at : (number k : ℕ) → eqb number k ≡ true → P k → P number
  at number k e h = subst P (sym (eqb-true number k e)) h

  pub command_cases : ((n : ℕ) → n < 2 → duration_listed p1 ≡ true → P n) → (p1 ≡ 0 → P 2) → (p1 ≡ 0 → P 3) → P 9 → (p1 ≡ 0 → P 10) → (p1 ≡ 0 → P 11)
      → P 12 → (number : ℕ) → command_listed number p1 p2 ≡ true → P number
  unfolding command_listed
  command_cases timed two three nine ten eleven twelve number listed =
      branch (eqb number 2) _ _ (λ e h. at number 2 e (two (eqb-true p1 0 h)))
      (branch (eqb number 3) _ _ (λ e h. at number 3 e (three (eqb-true p1 0 h)))
      (λ l. branch (ltb number 2) _ _ (λ e h. timed number (ltb-true number 2 e) h)
      (branch (eqb number 9) _ _ (λ e h. at number 9 e nine)
      (branch (eqb number 10) _ _ (λ e h. at number 10 e (ten (eqb-true p1 0 h)))
      (branch (eqb number 11) _ _ (λ e h. at number 11 e (eleven (eqb-true p1 0 h)))
      (λ e. at number 12 e twelve)))) (both {a = leb 1 p2} l).1)) listed

module _ (p1 p2 : ℕ) where
  abbrev Same : ℕ → Type 0
  Same number = command_bytes (command_of number p1 p2) ≡ parameters number p1 p2

  -- a command that carries a duration
  timed : (number : ℕ) → number < 2 → duration_listed p1 ≡ true → Same number
  unfolding command_of
  timed zero h l = ap (λ (p : ℕ). parameters 0 p p2) (p1_after_duration p1 l)
  timed (suc zero) h l = ap (λ (p : ℕ). parameters 1 p p2) (p1_after_duration p1 l)
  timed (suc (suc n)) h l = let z : ⊥ = omega arith in absurd z

  -- a command of P1 0
  blank : (number : ℕ) → command_bytes (command_of number 0 p2) ≡ parameters number 0 p2 → p1 ≡ 0 → Same number
  blank number h e = subst (λ (p : ℕ). command_bytes (command_of number p p2) ≡ parameters number p p2) (sym e) h

  pub command_encoded : (number : ℕ) → command_listed number p1 p2 ≡ true → command_bytes (command_of number p1 p2) ≡ parameters number p1 p2
  unfolding command_of
  command_encoded = command_cases p1 p2 Same timed (blank 2 refl) (blank 3 refl) refl (blank 10 refl) (blank 11 refl) refl

-- ---- a word in two bytes

pub word_apart : (hi lo w : ℕ) → lo < 256 → w ≡ hi * 256 + lo → (w / 256 ≡ hi) × (w % 256 ≡ lo)
word_apart hi lo w h e = (omega arith, omega arith)

-- ---- lists

pub events-encoded : (d : List ℕ) → T (are_bytes d) → length d % 2 ≡ 0 → event_bytes (words d) ≡ d
events-encoded [] t e = refl
events-encoded (a ∷ []) t e = let z : ⊥ = omega arith in absurd z
events-encoded (a ∷ b ∷ d) t e =
    let rest = and_r (ltb a 256) (are_bytes (b ∷ d)) t in
    let w = word_apart a b (a * 256 + b) (ltb→lt b 256 (and_l (ltb b 256) (are_bytes d) rest)) refl in
    let tail : event_bytes (words d) ≡ d = events-encoded d (and_r (ltb b 256) (are_bytes d) rest) (omega arith) in
    λ i. w.0 i ∷ w.1 i ∷ tail i

condition_value : (v : ℕ) → v < 3 → condition_bits (cond (eqb v 0) Condition.Secure (cond (eqb v 1) Condition.NotReady Condition.Trouble)) ≡ v
condition_value zero h = refl
condition_value (suc zero) h = refl
condition_value (suc (suc zero)) h = refl
condition_value (suc (suc (suc v))) h = let z : ⊥ = omega arith in absurd z

latched_value : (v : ℕ) → v < 3 → latched_bits (cond (eqb v 0) LatchedAlarm.Secure (cond (eqb v 1) LatchedAlarm.Tripped LatchedAlarm.Reset)) ≡ v
latched_value zero h = refl
latched_value (suc zero) h = refl
latched_value (suc (suc zero)) h = refl
latched_value (suc (suc (suc v))) h = let z : ⊥ = omega arith in absurd z

arming_value : (v : ℕ) → v < 4
    → arming_bits (cond (eqb v 0) Arming.Disarmed (cond (eqb v 1) Arming.Armed (cond (eqb v 2) Arming.BypassedByUser Arming.BypassedBySystem))) ≡ v
arming_value zero h = refl
arming_value (suc zero) h = refl
arming_value (suc (suc zero)) h = refl
arming_value (suc (suc (suc zero))) h = refl
arming_value (suc (suc (suc (suc v)))) h = let z : ⊥ = omega arith in absurd z

flag_value : (v : ℕ) → v < 2 → bit (eqb v 1) ≡ v
flag_value zero h = refl
flag_value (suc zero) h = refl
flag_value (suc (suc v)) h = let z : ⊥ = omega arith in absurd z

-- a byte is the sum of its four pairs of bits
four_sum : (b x y z w : ℕ) → b < 256 → x ≡ b / 64 → y ≡ b / 16 % 4 → z ≡ b / 4 % 4 → w ≡ b % 4 → 64 * x + 16 * y + 4 * z + w ≡ b
four_sum b x y z w h hx hy hz hw = omega arith

-- a status byte is the sum of its fields
status_sum : (s c l a t : ℕ) → s < 128 → c ≡ s % 4 → l ≡ s / 4 % 4 → a ≡ s / 16 % 4 → t ≡ s / 64 % 2 → c + 4 * l + 16 * a + 64 * t ≡ s
status_sum s c l a t h hc hl ha ht =
    let top : s / 64 % 2 ≡ s / 64 = omega arith in
    let order : c + 4 * l + 16 * a + 64 * t ≡ 64 * t + 16 * a + 4 * l + c = omega arith in
    order ∙ four_sum s t a l c (omega arith) (ht ∙ top) ha hl hc

status_back : (s r : ℕ) → zone_listed s ≡ true → status_byte (zone_of s r) ≡ s
status_back s r e =
    let fields = both {a = not (eqb (s % 4) 3) && not (eqb (s / 4 % 4) 3)} e in
    let a = eqb-false (s % 4) 3 (not-true (eqb (s % 4) 3) (both fields.0).0) in
    let b = eqb-false (s / 4 % 4) 3 (not-true (eqb (s / 4 % 4) 3) (both {a = not (eqb (s % 4) 3)} fields.0).1) in
    status_sum s _ _ _ _ (ltb-true s 128 fields.1) (condition_value (s % 4) (omega (arith, a))) (latched_value (s / 4 % 4) (omega (arith, b)))
    (arming_value (s / 16 % 4) (omega arith)) (flag_value (s / 64 % 2) (omega arith))

pub zones-encoded : (d : List ℕ) → length d % 2 ≡ 0 → zones_listed d ≡ true → zone_bytes (zones d) ≡ d
zones-encoded [] e l = refl
zones-encoded (a ∷ []) e l = let z : ⊥ = omega arith in absurd z
zones-encoded (a ∷ b ∷ d) e l =
    let head : status_byte (zone_of a b) ≡ a = status_back a b (both {a = zone_listed a} l).0 in
    let tail : zone_bytes (zones d) ≡ d = zones-encoded d (omega arith) (both {a = zone_listed a} l).1 in
    λ i. head i ∷ b ∷ tail i

text_value : (v : ℕ) → v < 4 → text_bits (text_of v) ≡ v
text_value zero h = refl
text_value (suc zero) h = refl
text_value (suc (suc zero)) h = refl
text_value (suc (suc (suc zero))) h = refl
text_value (suc (suc (suc (suc v)))) h = let z : ⊥ = omega arith in absurd z

pub texts-encoded : (d : List ℕ) → T (are_bytes d) → text_bytes (texts d) ≡ d
texts-encoded [] t = refl
texts-encoded (b ∷ d) t =
    let h : b < 256 = ltb→lt b 256 (and_l (ltb b 256) (are_bytes d) t) in
    let head =
    four_sum b _ _ _ _ h (text_value (b / 64) (omega arith)) (text_value (b / 16 % 4) (omega arith)) (text_value (b / 4 % 4) (omega arith)) (text_value (b % 4) (omega arith)) in
    let tail : text_bytes (texts d) ≡ d = texts-encoded d (and_r (ltb b 256) (are_bytes d) t) in
    λ i. head i ∷ tail i
