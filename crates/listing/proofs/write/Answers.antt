use Prim.Native.Nat.{ℕ}
use lib.ListN.{length}
use mathlib.Core.List.{List}
use mathlib.Core.Path.{◌≡◌, sym, ap}
use Rattle.answer.specs.Answer.{Outcome, refused, on_accepted, in_room, out_after}
use Rattle.listing.proofs.Laws.Answers.{too_long}
use Rattle.listing.specs.Text.{listing}
use Rattle.listing.proofs.write.Goals as goal

pub returns-then-bytes-gt-MAX_CAPTURE : goal.returns-then-bytes-gt-MAX_CAPTURE
returns-then-bytes-gt-MAX_CAPTURE c =
    let a = c.args in
    let o : in_room (length a.out.now) (listing a.bytes.now) ≡ refused 3 =
    too_long a.bytes.now (length a.out.now) c.if-bytes-gt-MAX_CAPTURE.true in record {
      result_value = sym (ap (on_accepted length) o);
      out_after = sym (ap (λ (x : Outcome (List ℕ)). out_after x a.out.now) o);
    }
