use mathlib.Core.Path.{◌≡◌, sym, ap, ◌∙◌}
use mathlib.Core.List.{◌∷◌}
use Prim.Native.Nat.{ℕ, ◌+◌, ◌*◌}
use Rattle.omnistat.specs.Frame.{summed}
use native.Mathlib.Omega.{arith}
use lib.ListN.{length}
use Rattle.answer.specs.Answer.{accepted, on_accepted, number_of}
use Rattle.omnistat.specs.Message.{numbered, as_message}
use Rattle.omnistat.specs.Omnistat.{write_bytes}
use Rattle.omnistat.specs.Parts.{passed}
use Rattle.omnistat.proofs.Laws.Check.{carried_run}
use Rattle.omnistat.proofs.Laws.Omnistat.{write-refused, frame_fits, write_misaddressed, write-summed}
use Rattle.omnistat.proofs.Laws.Output.{leaves_refused, leaves_same}
use Rattle.omnistat.specs.Text.{text_type}
use Rattle.answer.proofs.Laws.Exit.{passed_up}
use Rattle.omnistat.proofs.message.write_run.Goals as goal

pub returns-then-not-is_address : goal.returns-then-not-is_address
returns-then-not-is_address c =
    let went_on : accepted tt ≡ on_accepted passed (as_message c.args.end (text_type c.args.end) (c.args.start ∷ c.args.values.now)) = c.in_ok-check_run.ensures ∙ carried_run c.args.end (c.args.start ∷ c.args.values.now) in
    let a = c.args in
    let w = leaves_refused a.out.now (write_bytes a.end a.address (text_type a.end) (a.start ∷ a.values.now)) 8
    (write_misaddressed a.end (numbered a.end) a.address (text_type a.end) (a.start ∷ a.values.now) went_on (sym c.is_address.ensures ∙ c.if-not-is_address.true)) in
    record { result_value = w.0; out_after = w.1 }

pub length_and_type-second-requires : goal.length_and_type-second-requires
length_and_type-second-requires c =
    let went_on : accepted tt ≡ on_accepted passed (as_message c.args.end (text_type c.args.end) (c.args.start ∷ c.args.values.now)) = c.in_ok-check_run.ensures ∙ carried_run c.args.end (c.args.start ∷ c.args.values.now) in
    let a = c.args in
    let fits = frame_fits a.end (numbered a.end) a.address (text_type a.end) (a.start ∷ a.values.now) went_on in
    (omega (arith, fits.0, c.text_type.ensures), omega (arith, fits.1))

pub first_of-first-requires : goal.first_of-first-requires
first_of-first-requires c = sym c.is_address.ensures ∙ c.if-not-is_address.false

pub returns-in_err-check_run : goal.returns-in_err-check_run
returns-in_err-check_run c =
    let a = c.args in
    let w = leaves_refused a.out.now (write_bytes a.end a.address (text_type a.end) (a.start ∷ a.values.now)) (number_of c.in_err-check_run.field-0.0)
    (write-refused a.end (numbered a.end) a.address (text_type a.end) (a.start ∷ a.values.now) (number_of c.in_err-check_run.field-0.0)
    (c.in_err-check_run.ensures ∙ carried_run a.end (a.start ∷ a.values.now))) in
    record { result_value = passed_up _ _ c.from_residual.ensures.1 ∙ w.0; out_after = w.1 }

pub returns : goal.returns
returns c =
    let went_on : accepted tt ≡ on_accepted passed (as_message c.args.end (text_type c.args.end) (c.args.start ∷ c.args.values.now)) = c.in_ok-check_run.ensures ∙ carried_run c.args.end (c.args.start ∷ c.args.values.now) in
    let a = c.args in
    let second : c.length_and_type-second.result ≡ length (a.start ∷ a.values.now) * 16 + text_type a.end = omega (arith, c.length_and_type-second.ensures) in
    let w = leaves_same a.out.now (write_bytes a.end a.address (text_type a.end) (a.start ∷ a.values.now)) _ _ _
    (write-summed a.end (numbered a.end) a.address (text_type a.end) (a.start ∷ a.values.now) went_on
    (sym c.is_address.ensures ∙ c.if-not-is_address.false) c.length_and_type-second.result second
    ∙ ap (λ (first : ℕ). accepted (summed (first ∷ c.length_and_type-second.result ∷ a.start ∷ a.values.now))) (sym c.first_of-first.ensures))
    (c.write.ensures.result_value, c.write.ensures.out_after) in
    record { result_value = w.0; out_after = w.1 }
