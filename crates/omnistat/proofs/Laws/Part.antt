-- A part of a message, as the code cuts it out. Assumes nothing.
use mathlib.Core.Path.{◌≡◌, ap, sym, ◌∙◌}
use mathlib.Core.List.{List}
use Prim.Native.Nat.{ℕ, ◌+◌, ◌-◌, ◌≤◌}
use native.Mathlib.Nat.{add-sub_cancel_left}
use native.Mathlib.Omega.{arith}
use lib.ListN.{length, take, drop, drop_of_length-le, length-drop}
use lib.Seq.{take-nil, take_all}

module _ (s : List ℕ) (from count : ℕ) where
  pub nothing : length s ≤ from → take 0 s ≡ take count (drop from s)
  nothing h = sym (ap (λ (t : List ℕ). take count t) (drop_of_length-le s h) ∙ take-nil count)

  pub the_rest : length s - from ≤ count → take (length s - from) (drop from s) ≡ take count (drop from s)
  the_rest h =
      take_all (length s - from) (drop from s) (simp length-drop (omega arith))
      ∙ sym (take_all count (drop from s) (simp length-drop h))

  pub in_the_middle : take (from + count - from) (drop from s) ≡ take count (drop from s)
  in_the_middle = ap (λ (k : ℕ). take k (drop from s)) (add-sub_cancel_left from count)
