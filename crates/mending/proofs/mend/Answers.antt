use lib.ListN.{length}
use mathlib.Core.Path.{◌≡◌, refl, sym, ap}
use Rattle.answer.specs.Answer.{number_of}
use Rattle.answer.specs.declared.Refusal.{Refusal}
use Rattle.answer.specs.declared.Refusal.TheVariants.{Short, Start, Length, Long, Checksum, Unknown, TypeLength, Field, Room, Total}
use Rattle.answer.specs.contracts.Refusal.{the_type}
use denote.Enum.Declared.{tag_of}
use native.Mathlib.Omega.{arith}
use Rattle.answer.proofs.Laws.Test.{on_accepted_lem, still_refused}
use Rattle.link.specs.Frame.{read_frame, header}
use Rattle.mending.proofs.Laws.Mending.{right_frame, other_refusal}
use Rattle.mending.proofs.Laws.Written.{refused_in_any_room, refusal-kept}
use Rattle.mending.proofs.mend.Goals as goal

-- 5 is the number of one refusal alone
five : (r : Refusal) → number_of r ≡ 5 → r ≡ Checksum
five Checksum e = refl
five Short e = absurd (omega arith)
five Start e = absurd (omega arith)
five Length e = absurd (omega arith)
five Long e = absurd (omega arith)
five Unknown e = absurd (omega arith)
five TypeLength e = absurd (omega arith)
five Field e = absurd (omega arith)
five Room e = absurd (omega arith)
five Total e = absurd (omega arith)

pub returns-in-Err : goal.returns-in-Err
returns-in-Err c =
    let s = c.args.bytes.now in
    let old = c.args.out.now in
    let n = number_of c.in-Err.r in
    let other : n ≡ 5 → ⊥ = λ e. let tag : tag_of the_type c.in-Err.r ≡ 4 = ap (tag_of the_type) (five c.in-Err.r e) in omega arith in
    let w = refusal-kept s old n (refused_in_any_room s (length old) n (other_refusal s n other (still_refused header (read_frame s) n (sym c.in-Err.ensures)))) in
    record { result_value = w.0; out_after = w.1 }

pub returns-in-Ok : goal.returns-in-Ok
returns-in-Ok c =
    let s = c.args.bytes.now in
    let old = c.args.out.now in
    let f = on_accepted_lem header (read_frame s) _ (sym c.in-Ok.ensures) in
    let w = refusal-kept s old 8 (refused_in_any_room s (length old) 8 (right_frame s f.0 f.1)) in
    record { result_value = w.0; out_after = w.1 }
