use mathlib.Core.Path.{◌≡◌, sym, ap, ◌∙◌}
use Prim.Native.Nat.{ℕ, ◌+◌, ◌<◌, ◌^◌}
use native.Mathlib.Omega.{arith}
use Rattle.std.specs.Prelude.{Option, Some, None}
use Rattle.std.specs.Option.{SomeIff, ok_or}
use Rattle.answer.specs.declared.Refusal.TheVariants.{Total as PastTheLargest}
use Rattle.answer.specs.Answer.{outcome_of, accepted}
use Rattle.tally.specs.Total.{exact_sum}
use Rattle.tally.proofs.Laws.Total.{refused_11, taken}
use Rattle.tally.proofs.exact_sum.Goals as goal

checked : (total v : ℕ) (o : Option ℕ) → SomeIff o (total + v < 2 ^ 64) (total + v) → outcome_of (ok_or o PastTheLargest) ≡ exact_sum total v
checked total v (Some next) h = ap accepted h.1 ∙ sym (taken total v (omega (arith, h.0)))
checked total v None h = sym (refused_11 total v (omega (arith, h)))

pub returns : goal.returns
returns c =
    let a = c.args in
    ap outcome_of c.ok_or.ensures.value ∙ checked a.total a.value c.checked_add.result c.checked_add.ensures
