use mathlib.Core.List.{[], ◌∷◌}
use native.Mathlib.Omega.{arith}
use Rattle.listing.proofs.Laws.Output.{stored₁, first_fits, next_fits, joined}
use Rattle.listing.specs.Text.{number}
use Rattle.listing.proofs.text.put_field.Goals as goal

pub put_number-next-requires : goal.put_number-next-requires
put_number-next-requires c = record {
  n_bound = c.requires.n_bound;
  n_in_bounds = first_fits _ _ (number c.args.n) (c.args.closing ∷ []) c.requires.closing_in_bounds;
}

pub bounds-out-next : goal.bounds-out-next
bounds-out-next c =
    omega (arith, next_fits (c.args.closing ∷ []) c.put_number-next.ensures c.requires.closing_in_bounds)

pub returns : goal.returns
returns c =
    joined c.put_number-next.ensures
    (stored₁ _ _ c.args.closing (next_fits (c.args.closing ∷ []) c.put_number-next.ensures c.requires.closing_in_bounds))
