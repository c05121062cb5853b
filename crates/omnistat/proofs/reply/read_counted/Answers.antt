use mathlib.Core.Path.{sym, ap, ◌∙◌}
use mathlib.Core.List.{List}
use Prim.Native.Nat.{ℕ}
use lib.ListN.{take, drop}
use Rattle.answer.specs.Answer.{on_accepted, number_of}
use Rattle.omnistat.specs.declared.frame.End.TheVariants.{Host}
use Rattle.omnistat.specs.Frame.{Frame, address_of}
use Rattle.omnistat.specs.Message.{as_message_by}
use Rattle.omnistat.specs.Omnistat.{addressed_counted}
use Rattle.omnistat.specs.Answer.{known_in}
use Rattle.omnistat.proofs.Laws.Omnistat.{counted-refused, counted_whole, from_host}
use Rattle.omnistat.proofs.Laws.Heard.{reply_in_lem}
use Rattle.answer.proofs.Laws.Exit.{still_passed_up}
use Rattle.omnistat.proofs.reply.read_counted.Goals as goal

pub overflow_sub-f : goal.overflow_sub-f
overflow_sub-f c =
    let s = c.args.bytes.now in
    from_host s (record { first = c.in_ok-f.f.first; kind = c.in_ok-f.f.kind; payload = take c.in_ok-f.f.count (drop 2 s) })
    c.in_ok-f.ensures

pub returns-in_err-f : goal.returns-in_err-f
returns-in_err-f c =
    let a = c.args in
    let s = c.args.bytes.now in
    still_passed_up _ _ c.from_residual.ensures.1 _
    ∙ sym
    (counted-refused Host (known_in a.known) s (number_of c.in_err-f.field-0.0)
    c.in_err-f.ensures)

pub returns : goal.returns
returns c =
    let a = c.args in
    let s = c.args.bytes.now in
    let f : Frame = record { first = c.in_ok-f.f.first; kind = c.in_ok-f.f.kind; payload = take c.in_ok-f.f.count (drop 2 s) } in
    reply_in_lem s _ c.in_ok-f.f.count c.part.ensures c.as_reply.result _ c.as_reply.ensures
    ∙ ap (λ (d : List ℕ). on_accepted (addressed_counted Host (address_of Host f.first)) (as_message_by Host (known_in a.known) f.kind d)) c.part.ensures
    ∙ sym (counted_whole Host (known_in a.known) s f c.in_ok-f.ensures)
