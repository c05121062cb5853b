use native.Mathlib.Omega.{arith}
use mathlib.Core.Path.{sym, ap, ◌∙◌}
use mathlib.Core.List.{[], ◌∷◌}
use Prim.Native.Nat.{ℕ}
use Rattle.answer.specs.Answer.{Outcome, accepted, on_accepted}
use Rattle.answer.specs.Packed.{packed, byte}
use Rattle.omnistat.specs.Text.{Text, text_type}
use Rattle.omnistat.specs.Answer.{text_fields}
use Rattle.omnistat.proofs.Laws.Text.{text_counted}
use Rattle.omnistat.proofs.text.pack.Goals as goal

pub returns-in-Err : goal.returns-in-Err
returns-in-Err c =
    c.pack_refusal.ensures
    ∙ ap (λ (o : Outcome (ℕ × Text)). packed (on_accepted (text_fields c.args.end) o))
    c.in-Err.ensures

pub returns-in-Ok : goal.returns-in-Ok
returns-in-Ok c =
    let s = c.args.bytes.now in
    let count = c.in-Ok.t.count in
    let e = c.in-Ok.ensures in
    let n = text_counted c.args.end s c.in-Ok.t.address c.in-Ok.t.half c.in-Ok.t.start count (sym e) in
    c.pack.ensures.fits (omega arith)
    ∙ ap (λ (kind : ℕ). packed (accepted (byte kind ∷ byte c.in-Ok.t.address ∷ byte c.in-Ok.t.start ∷ byte count ∷ byte c.in-Ok.t.half ∷ []))) c.text_type.ensures
    ∙ ap (λ (k : ℕ). packed (accepted (byte (text_type c.args.end) ∷ byte c.in-Ok.t.address ∷ byte c.in-Ok.t.start ∷ byte k ∷ byte c.in-Ok.t.half ∷ []))) (sym n)
    ∙ ap (λ (o : Outcome (ℕ × Text)). packed (on_accepted (text_fields c.args.end) o)) e
