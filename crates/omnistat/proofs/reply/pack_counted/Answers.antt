use mathlib.Core.Path.{sym, ap, ◌∙◌}
use mathlib.Core.List.{List}
use Prim.Native.Nat.{ℕ}
use lib.ListN.{take, drop}
use Rattle.answer.specs.Answer.{Outcome, on_accepted, number_of}
use Rattle.answer.specs.Packed.{packed}
use Rattle.omnistat.specs.declared.frame.End.TheVariants.{Host}
use Rattle.omnistat.specs.Frame.{Frame, address_of}
use Rattle.omnistat.specs.Message.{Known, as_message_by}
use Rattle.omnistat.specs.Omnistat.{Message, Addressed, addressed_counted}
use Rattle.omnistat.specs.Answer.{fields_by, known_in}
use Rattle.omnistat.proofs.Laws.Omnistat.{counted-refused, counted_whole, from_host}
use Rattle.omnistat.proofs.reply.pack_counted.Goals as goal

abbrev packedAs : Known Host → Outcome (Addressed (Message Host)) → ℕ
packedAs known o = packed (on_accepted (fields_by Host known) o)

pub overflow_sub-f : goal.overflow_sub-f
overflow_sub-f c =
    let s = c.args.bytes.now in
    from_host s (record { first = c.in-Ok.f.first; kind = c.in-Ok.f.kind; payload = take c.in-Ok.f.count (drop 2 s) })
    c.in-Ok.ensures

pub returns-in-Err : goal.returns-in-Err
returns-in-Err c =
    let a = c.args in
    let s = c.args.bytes.now in
    c.pack_refusal.ensures
    ∙ ap (packedAs (known_in a.known))
    (sym
    (counted-refused Host (known_in a.known) s (number_of c.in-Err.r)
    c.in-Err.ensures))

pub returns-in-Ok : goal.returns-in-Ok
returns-in-Ok c =
    let a = c.args in
    let s = c.args.bytes.now in
    let f : Frame = record { first = c.in-Ok.f.first; kind = c.in-Ok.f.kind; payload = take c.in-Ok.f.count (drop 2 s) } in
    c.pack.ensures
    ∙ ap (λ (d : List ℕ). packedAs (known_in a.known) (on_accepted (addressed_counted Host (address_of Host f.first)) (as_message_by Host (known_in a.known) f.kind d))) c.part.ensures
    ∙ ap (packedAs (known_in a.known)) (sym (counted_whole Host (known_in a.known) s f c.in-Ok.ensures))
