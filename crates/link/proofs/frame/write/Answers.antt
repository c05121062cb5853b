use Prim.Native.Nat.{ℕ, ◌+◌, ◌≤◌}
use lib.ListN.{length}
use mathlib.Core.List.{List}
use mathlib.Core.Path.{◌≡◌, refl, sym, ap, ◌∙◌}
use native.Mathlib.Omega.{arith}
use Rattle.answer.specs.Answer.{Outcome, refused, accepted, on_accepted, in_room, out_after}
use Rattle.link.proofs.Laws.Ladder.{frame-length, too_much, too_little, fits}
use Rattle.link.specs.Frame.{frame_bytes, write_frame}
use Rattle.link.proofs.frame.write.Goals as goal

-- a frame that fits, by what is left in the output and the count that is answered
framed : (kind n : ℕ) (d old final : List ℕ) → length d ≤ 64 → length d + 5 ≤ length old → n ≡ length d + 5 → final ≡ out_after (accepted (frame_bytes kind d)) old
    → (accepted n ≡ on_accepted length (in_room (length old) (write_frame kind d))) × (final ≡ out_after (in_room (length old) (write_frame kind d)) old)
framed kind n d old final few room count left =
    let o = fits kind d (length old) few room in (
      ap accepted (count ∙ sym (frame-length kind d)) ∙ sym (ap (on_accepted length) o),
      left ∙ sym (ap (λ (x : Outcome (List ℕ)). out_after x old) o),
    )

pub returns-then-count-gt-MAX_DATA : goal.returns-then-count-gt-MAX_DATA
returns-then-count-gt-MAX_DATA c =
    let a = c.args in
    let o : in_room (length a.out.now) (write_frame a.kind a.«data».now) ≡ refused 3 =
    too_much a.kind a.«data».now (length a.out.now) (omega arith) in record {
      result_value = sym (ap (on_accepted length) o);
      out_after = sym (ap (λ (x : Outcome (List ℕ)). out_after x a.out.now) o);
    }

pub returns-then-out-count : goal.returns-then-out-count
returns-then-out-count c =
    let a = c.args in
    let o : in_room (length a.out.now) (write_frame a.kind a.«data».now) ≡ refused 9 =
    too_little a.kind a.«data».now (length a.out.now) (omega arith) (omega arith) in record {
      result_value = sym (ap (on_accepted length) o);
      out_after = sym (ap (λ (x : Outcome (List ℕ)). out_after x a.out.now) o);
    }

pub returns-then-count-eq0 : goal.returns-then-count-eq0
returns-then-count-eq0 c =
    let a = c.args in
    let w = framed a.kind 5 a.«data».now a.out.now _ (omega arith) (omega arith) (omega arith) c.put_frame.ensures in
    record { result_value = w.0; out_after = w.1 }

pub returns : goal.returns
returns c =
    let a = c.args in
    let w = framed a.kind _ a.«data».now a.out.now _ (omega arith) (omega arith) refl c.put_frame-2.ensures in
    record { result_value = w.0; out_after = w.1 }
