use lib.ListN.{length}
use mathlib.Core.List.{List}
use mathlib.Core.Path.{sym, ap, ◌∙◌}
use Prim.Native.Nat.{ℕ}
use Rattle.answer.specs.Answer.{in_room}
use Rattle.message.proofs.Laws.Framed.{leaves_same}
use Rattle.message.specs.Message.{write_message}
use Rattle.message.specs.Typed.{write_fixed}
use Rattle.message.specs.declared.message.Fixed.{Fixed}
use Rattle.message.proofs.typed.write_fixed.Goals as goal

pub returns-in-LogEntry : goal.returns-in-LogEntry
unfolding write_fixed
returns-in-LogEntry c =
    let out = c.args.out.now in
    let w = leaves_same (in_room (length out) (write_fixed c.args.f)) _ out _ _
    (ap (λ (f : Fixed). in_room (length out) (write_fixed f)) c.in-LogEntry.is ∙ sym (ap (λ (b : List ℕ). in_room (length out) (write_message 0x0E b)) c.log_bytes.ensures))
    c.write-in-LogEntry.ensures.result_value c.write-in-LogEntry.ensures.out_after in
    record { result_value = w.0; out_after = w.1 }
