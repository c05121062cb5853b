-- What is printed of an answer, and the bytes that are stored for it. Assumes nothing.
use mathlib.Core.Path.{◌≡◌, refl, ap, ◌∙◌}
use mathlib.Core.List.{List, [], ◌∷◌, ◌++◌}
use Prim.Native.Nat.{ℕ}
use native.Mathlib.Omega.{arith}
use lib.ListN.{length, drop}
use Rattle.answer.specs.Answer.{Outcome, refused, accepted, on_accepted, out_after}
use Rattle.listing.specs.Text.{line_feed, listing, refused_word}
use Rattle.listing.proofs.Laws.Answers.{only_3}
use Rattle.listing.proofs.Laws.Numbers.{below_10}
use Rattle.capture.specs.Printed.{printed}

-- a count of bytes written is the listing's
pub counted : (o : Outcome (List ℕ)) (n : ℕ) → accepted n ≡ on_accepted length o → n ≡ length (printed o)
counted (refused k) n e = let z : ◌≡◌ {A = ℕ} 0 1 = cc in let no_way : ⊥ = omega arith in absurd no_way
counted (accepted t) n e = cc

pub left_there : (o : Outcome (List ℕ)) (n : ℕ) (old : List ℕ) → accepted n ≡ on_accepted length o
    → out_after o old ≡ printed o ++ drop (length (printed o)) old
left_there (refused k) n old e = let z : ◌≡◌ {A = ℕ} 0 1 = cc in let no_way : ⊥ = omega arith in absurd no_way
left_there (accepted t) n old e = refl

-- a refusal is 3, and leaves the output as it was
refused_as : (o : Outcome (List ℕ)) (k : ℕ) → refused k ≡ on_accepted length o → o ≡ refused k
refused_as (refused j) k e = cc
refused_as (accepted t) k e = let z : ◌≡◌ {A = ℕ} 0 1 = cc in let no_way : ⊥ = omega arith in absurd no_way

pub is_refused : (s : List ℕ) (k : ℕ) → refused k ≡ on_accepted length (listing s) → listing s ≡ refused 3
is_refused s k e =
    let r : listing s ≡ refused k = refused_as (listing s) k e in
    r ∙ ap refused (only_3 s k r)

-- the refusal's text
pub refusal : printed (refused 3) ≡ 0x72 ∷ 0x65 ∷ 0x66 ∷ 0x75 ∷ 0x73 ∷ 0x65 ∷ 0x64 ∷ 0x20 ∷ 0x33 ∷ 0x0A ∷ []
refusal = ap (λ (d : List ℕ). refused_word ++ (d ++ (line_feed ∷ []))) (below_10 3 (omega arith))
