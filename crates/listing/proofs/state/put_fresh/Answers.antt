use Prim.Native.Nat.{ℕ, zero, suc}
use lib.ListN.{replicate}
use mathlib.Core.List.{List, ◌∷◌}
use mathlib.Core.Path.{◌≡◌, refl, ap, ◌∙◌}
use Rattle.listing.specs.State.{zeros}
use Rattle.listing.proofs.state.put_fresh.Goals as goal

-- so many zero bytes, as the library fills them in
filled : (n : ℕ) → replicate n 0 ≡ zeros n
unfolding zeros
filled zero = refl
filled (suc n) = ap (λ (s : List ℕ). 0 ∷ s) (filled n)

pub returns : goal.returns
returns c = c.fill.ensures.after (λ y e. e) ∙ ap (λ (n : ℕ). replicate n 0) c.requires ∙ filled 74
