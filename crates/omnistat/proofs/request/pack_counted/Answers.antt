use mathlib.Core.Path.{sym, ap, ◌∙◌}
use mathlib.Core.List.{List}
use Prim.Native.Nat.{ℕ}
use lib.ListN.{take, drop}
use Rattle.answer.specs.Answer.{Outcome, on_accepted, number_of}
use Rattle.answer.specs.Packed.{packed}
use Rattle.omnistat.specs.declared.frame.End.TheVariants.{Thermostat}
use Rattle.omnistat.specs.Frame.{Frame, address_of}
use Rattle.omnistat.specs.Message.{as_message}
use Rattle.omnistat.specs.Omnistat.{Message, Addressed, addressed_counted}
use Rattle.omnistat.specs.Answer.{fields}
use Rattle.omnistat.proofs.Laws.Omnistat.{counted-refused, counted_whole}
use Rattle.omnistat.proofs.request.pack_counted.Goals as goal

abbrev packedAs : Outcome (Addressed (Message Thermostat)) → ℕ
packedAs o = packed (on_accepted (fields Thermostat) o)

pub returns-in-Err : goal.returns-in-Err
returns-in-Err c =
    let s = c.args.bytes.now in
    c.pack_refusal.ensures
    ∙ ap packedAs
    (sym
    (counted-refused Thermostat tt s (number_of c.in-Err.r)
    c.in-Err.ensures))

pub returns-in-Ok : goal.returns-in-Ok
returns-in-Ok c =
    let s = c.args.bytes.now in
    let f : Frame = record { first = c.in-Ok.f.first; kind = c.in-Ok.f.kind; payload = take c.in-Ok.f.count (drop 2 s) } in
    c.pack.ensures
    ∙ ap (λ (d : List ℕ). packedAs (on_accepted (addressed_counted Thermostat (address_of Thermostat f.first)) (as_message Thermostat f.kind d))) c.part.ensures
    ∙ ap packedAs (sym (counted_whole Thermostat tt s f c.in-Ok.ensures))
