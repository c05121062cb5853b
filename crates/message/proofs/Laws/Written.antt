-- A message written behind its check: what is answered and what is left in the lent output. Assumes nothing.
use mathlib.Core.Path.{◌≡◌, ap}
use mathlib.Core.List.{List}
use Prim.Native.Nat.{ℕ}
use lib.ListN.{length}
use Rattle.answer.specs.Answer.{Outcome, refused, accepted, and_then, on_accepted, in_room, out_after}
use Rattle.link.specs.Frame.{write_frame}
use Rattle.message.specs.Message.{Message, message_of, write_message}
use Rattle.message.specs.Parts.{nothing}
use Rattle.message.proofs.Laws.Checked.{was_accepted, was_refused}
use Rattle.message.proofs.Laws.Framed.{leaves_same, leaves_nothing}

module _ (kind : ℕ) (d old : List ℕ) where
  abbrev pub written : Outcome (List ℕ)
  written = in_room (length old) (write_message kind d)

  abbrev behind : Outcome Message → Outcome (List ℕ)
  behind o = in_room (length old) (and_then o (λ m. write_frame kind d))

  -- where the check refuses
  pub leaves_unchecked : (n : ℕ) → refused n ≡ on_accepted nothing (message_of kind d)
      → (refused n ≡ on_accepted length written) × (old ≡ out_after written old)
  unfolding write_message
  leaves_unchecked n e = leaves_nothing written old n (ap behind (was_refused nothing (message_of kind d) n e))

  -- where it does not, by what the frame writer says
  pub leaves_checked : (final : List ℕ) (w : Outcome ℕ) → accepted tt ≡ on_accepted nothing (message_of kind d)
      → w ≡ on_accepted length (in_room (length old) (write_frame kind d)) → final ≡ out_after (in_room (length old) (write_frame kind d)) old
      → (w ≡ on_accepted length written) × (final ≡ out_after written old)
  unfolding write_message
  leaves_checked final w e =
      leaves_same written (in_room (length old) (write_frame kind d)) old final w (ap behind (was_accepted nothing (message_of kind d) tt e).1)
