use Prim.Native.Nat.{ℕ}
use mathlib.Core.List.{List, [], ◌∷◌}
use mathlib.Core.Path.{ap₂}
use Rattle.listing.proofs.Laws.Output.{same_bytes, stored₃}
use Rattle.mend.proofs.put_hex.Goals as goal

pub returns : goal.returns
returns c =
    let a = c.args in
    let high = c.hex_digit-high in
    let low = c.hex_digit-low in
    same_bytes (ap₂ {C = List ℕ} (λ (h l : ℕ). h ∷ l ∷ a.closing ∷ []) high.ensures low.ensures)
    (stored₃ a.out.now a.at high.result low.result a.closing c.requires)
