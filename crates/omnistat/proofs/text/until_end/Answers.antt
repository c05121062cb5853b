use mathlib.Core.Path.{◌≡◌, refl, sym, ap, ◌∙◌}
use mathlib.Core.Bool.{Bool, true, false, cond}
use mathlib.Core.List.{List}
use Prim.Native.Nat.{ℕ, suc, ◌+◌, ◌≤◌}
use native.Mathlib.Omega.{arith}
use borrow.Author.Tests.{ltb-false}
use lib.Dec.{eqb, ltb}
use lib.ListN.{length}
use Rattle.std.specs.Prelude.{Option, Some, None}
use Rattle.std.specs.List.{position_or_len}
use Rattle.std.specs.Option.{unwrap_or}
use Rattle.std.proofs.Common.{rules, tests}
use Rattle.std.proofs.lemmas.Iterator.{YieldsList-from_slice}
use Rattle.std.proofs.lemmas.Iterator.Search.{position_from_yields_List}
use Rattle.std.proofs.lemmas.List.Recursion.{is_position_or_len}
use Rattle.std.proofs.lemmas.List.Sums.{prefix_len-le-length}
use Rattle.omnistat.specs.Text.{until_end}
use Rattle.omnistat.proofs.text.until_end.Goals as goal

abbrev is_end : ℕ → Bool
is_end b = eqb b 3

at_first : (s : List ℕ) → until_end s ≡ position_or_len is_end s
unfolding until_end
at_first = is_position_or_len until_end is_end refl (λ b s. let e : suc (until_end s) ≡ 1 + until_end s = omega arith in ap (cond (is_end b) 0) e)

or_length : (n len : ℕ) → n ≤ len → unwrap_or (cond (ltb n len) (Some n) None) len ≡ n
or_length n len h = by_test (ltb n len) refl
  where
    by_test : (t : Bool) → ltb n len ≡ t → unwrap_or (cond t (Some n) None) len ≡ n
    by_test true e = refl
    by_test false e = omega (arith, ltb-false n len e)

pub returns : goal.returns
returns c =
    let s = c.args.bytes.now in
    c.unwrap_or.ensures
    ∙ ap (λ (o : Option ℕ). unwrap_or o (length s))
    (position_from_yields_List is_end _ _ c.position.result c.position.ensures.ran (YieldsList-from_slice s cc) (λ x b q k. search (rules, tests)))
    ∙ or_length (position_or_len is_end s) (length s) (prefix_len-le-length _ s)
    ∙ sym (at_first s)
