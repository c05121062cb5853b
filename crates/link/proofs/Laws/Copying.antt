-- Bytes copied to where they have room. Assumes nothing.
use Rattle.std.proofs.Common.{ℕ, ◌≤◌, ◌≡◌, List, ◌++◌, length, take, drop, ap, sym, ◌∙◌}
use Rattle.std.proofs.Math.Seq.{take_all, take-length}

pub all_copied : (xs old : List ℕ) → length xs ≤ length old
    → take (length old) xs ++ drop (length xs) old ≡ take (length xs) xs ++ drop (length xs) old
all_copied xs old h = ap (λ (ys : List ℕ). ys ++ drop (length xs) old) (take_all (length old) xs h ∙ sym (take-length xs))
