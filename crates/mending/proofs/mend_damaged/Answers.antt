use Prim.Native.Nat.{ℕ, ◌≤◌}
use lib.ListN.{length}
use mathlib.Core.List.{List}
use mathlib.Core.Path.{◌≡◌, refl, sym, ap, ◌∙◌}
use native.Mathlib.Omega.{arith}
use Rattle.answer.specs.Answer.{refused, accepted, on_accepted, number_of, outcome_of, out_after}
use Rattle.answer.specs.declared.Refusal.TheVariants.{Checksum}
use Rattle.mending.proofs.Laws.Flips.{flipped_length}
use Rattle.mending.proofs.Laws.Mending.{flipping, wrong_crc, place_mends, damaged_size}
use Rattle.mending.proofs.Laws.Written.{refused_in_any_room, too_little, has_room, refusal-kept, frame-left}
use Rattle.mending.specs.Mending.{flipped_at, place, mend}
use Rattle.mending.specs.Parts.{place_of}
use Rattle.std.specs.Prelude.{Option, Some, None}
use Rattle.std.specs.Option.{ok_or}
use Rattle.std.proofs.lemmas.Result.{err_from_is_err_and}
use Rattle.link.specs.Frame.{read_frame}
use Rattle.mending.proofs.mend_damaged.Goals as goal

-- what is handed on where there is no place
checksum_or : (r : Option ℕ) → outcome_of (ok_or r Checksum) ≡ place_of r
checksum_or (Some p) = refl
checksum_or None = refl

-- the answer at a place that was found
at_place : (s : List ℕ) (p : ℕ) → read_frame s ≡ refused 5 → accepted p ≡ place s → mend s ≡ accepted (flipping s p)
at_place s p wrong e = wrong_crc s wrong ∙ ap (on_accepted (flipping s)) (sym e)

pub returns-in_err-place : goal.returns-in_err-place
returns-in_err-place c =
    let s = c.args.bytes.now in
    let old = c.args.out.now in
    let none : place s ≡ refused (number_of c.in_err-place.field-0.0) =
    sym c.find_place.ensures ∙ sym (checksum_or c.find_place.result) ∙ ap outcome_of (sym c.in_err-place.ensures.value) in
    let e = err_from_is_err_and c.from_residual.result c.from_residual.ensures.1 in
    let w = refusal-kept s old _ (refused_in_any_room s (length old) _ (wrong_crc s c.requires ∙ ap (on_accepted (flipping s)) none)) in
    record { result_value = rw (e.1, e.2) w.0; out_after = w.1 }

pub returns-then-out-bytes : goal.returns-then-out-bytes
returns-then-out-bytes c =
    let s = c.args.bytes.now in
    let old = c.args.out.now in
    let p = c.in_ok-place.place in
    let found = at_place s p c.requires (ap place_of (sym c.in_ok-place.ensures.ok_part) ∙ c.find_place.ensures) in
    let w = refusal-kept s old 9 (too_little s (length old) (flipping s p) found (omega (arith, flipped_length s p))) in
    record { result_value = w.0; out_after = w.1 }

pub put_flipped-requires-clause-p_in_bounds : goal.put_flipped-requires-clause-p_in_bounds
put_flipped-requires-clause-p_in_bounds c =
    let s = c.args.bytes.now in
    let p = c.in_ok-place.place in
    let m = place_mends s p (sym (ap place_of (sym c.in_ok-place.ensures.ok_part) ∙ c.find_place.ensures)) in
    omega (arith, m.inside, c.from.ensures)

pub overflow_cast-count : goal.overflow_cast-count
overflow_cast-count c =
    let size = damaged_size c.args.bytes.now c.requires in omega (arith, size.1)

pub returns : goal.returns
returns c =
    let s = c.args.bytes.now in
    let old = c.args.out.now in
    let p = c.in_ok-place.place in
    let found = at_place s p c.requires (ap place_of (sym c.in_ok-place.ensures.ok_part) ∙ c.find_place.ensures) in
    let fits : length (flipped_at s p) ≤ length old = omega (arith, flipped_length s p, c.if-out-bytes.false) in
    let w = frame-left s old (flipping s p) (length s) c.put_flipped.new.out
    (has_room s (length old) (flipping s p) found fits)
    (sym (flipped_length s p))
    (c.put_flipped.ensures ∙ ap (λ (q : ℕ). out_after (accepted (flipped_at s q)) old) c.from.ensures) in
    record { result_value = w.0; out_after = w.1 }
