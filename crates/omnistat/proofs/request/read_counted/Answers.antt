use mathlib.Core.Path.{sym, ap, ◌∙◌}
use mathlib.Core.List.{List}
use Prim.Native.Nat.{ℕ}
use lib.ListN.{take, drop}
use Rattle.answer.specs.Answer.{on_accepted, number_of}
use Rattle.omnistat.specs.declared.frame.End.TheVariants.{Thermostat}
use Rattle.omnistat.specs.Frame.{Frame, address_of}
use Rattle.omnistat.specs.Message.{as_message}
use Rattle.omnistat.specs.Omnistat.{addressed_counted}
use Rattle.omnistat.proofs.Laws.Omnistat.{counted-refused, counted_whole}
use Rattle.omnistat.proofs.Laws.Heard.{request_in_lem}
use Rattle.answer.proofs.Laws.Exit.{still_passed_up}
use Rattle.omnistat.proofs.request.read_counted.Goals as goal

pub returns-in_err-f : goal.returns-in_err-f
returns-in_err-f c =
    let s = c.args.bytes.now in
    still_passed_up _ _ c.from_residual.ensures.1 _
    ∙ sym
    (counted-refused Thermostat tt s (number_of c.in_err-f.field-0.0)
    c.in_err-f.ensures)

pub returns : goal.returns
returns c =
    let s = c.args.bytes.now in
    let f : Frame = record { first = c.in_ok-f.f.first; kind = c.in_ok-f.f.kind; payload = take c.in_ok-f.f.count (drop 2 s) } in
    request_in_lem s _ c.in_ok-f.f.count c.part.ensures c.as_request.result _ c.as_request.ensures
    ∙ ap (λ (d : List ℕ). on_accepted (addressed_counted Thermostat (address_of Thermostat f.first)) (as_message Thermostat f.kind d)) c.part.ensures
    ∙ sym (counted_whole Thermostat tt s f c.in_ok-f.ensures)
