use mathlib.Core.Path.{sym, ap, ◌∙◌}
use mathlib.Core.List.{◌∷◌}
use Prim.Native.Nat.{ℕ}
use Rattle.answer.specs.Answer.{accepted}
use Rattle.omnistat.specs.Frame.{summed}
use Rattle.omnistat.specs.Omnistat.{bytes_to}
use Rattle.omnistat.proofs.Laws.Omnistat.{misaddressed, to_summed}
use Rattle.omnistat.proofs.Laws.Output.{leaves_refused, leaves_same}
use Rattle.omnistat.proofs.frame.write_to.Goals as goal

pub returns-then-not-is_address : goal.returns-then-not-is_address
returns-then-not-is_address c =
    let a = c.args in
    let w = leaves_refused a.out.now (bytes_to a.end a.address a.kind a.payload.now) 8
    (misaddressed a.end a.address a.kind a.payload.now (sym c.is_address.ensures ∙ c.if-not-is_address.true)) in
    record { result_value = w.0; out_after = w.1 }

pub first_of-requires : goal.first_of-requires
first_of-requires c = sym c.is_address.ensures ∙ c.if-not-is_address.false

pub returns : goal.returns
returns c =
    let a = c.args in
    let w = leaves_same a.out.now (bytes_to a.end a.address a.kind a.payload.now) _ _ _
    (to_summed a.end a.address a.kind a.payload.now (sym c.is_address.ensures ∙ c.if-not-is_address.false) c.length_and_type-second.result c.length_and_type-second.ensures
    ∙ ap (λ (first : ℕ). accepted (summed (first ∷ c.length_and_type-second.result ∷ a.payload.now))) (sym c.first_of.ensures))
    (c.write.ensures.result_value, c.write.ensures.out_after) in
    record { result_value = w.0; out_after = w.1 }
