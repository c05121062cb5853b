-- The marked examples hold, each by computing what its definition answers. Assumes nothing.
use Prim.Native.Nat.{◌<◌}
use mathlib.Core.Bool.{true, false}
use mathlib.Core.Path.{◌≡◌, refl}
use native.Mathlib.Omega.{arith}
use lib.Dec.{eqb, ltb}
use lib.ListN.{length}
use borrow.Author.Tests.{eq-eqb, le-ltb}
use Rattle.crc.specs.Crc.{crc, feed}
use Rattle.link.specs.Frame.{read_frame, read_body}
use Rattle.message.specs.Message.{read_message, message_of, with_data, read_plain}
use Rattle.omnistat.specs.Frame.{frame, total, bytes_of}
use Rattle.omnistat.specs.Message.{as_message_by}
use Rattle.omnistat.specs.Text.{carries_text}
use Rattle.omnistat.specs.Omnistat.{read_by, read_counted_by}
use Rattle.omnistat.specs.Register.{run_allowed}
use Rattle.thermostat.specs.Registers.{listed, read_only, allowed}
use Rattle.thermostat.specs.Map.{stored}
use Rattle.thermostat.specs.Step.{all_settable, sent_by, after, step}
use Rattle.thermostat.proofs.Laws.Map.{put_same}
use Rattle.tally.specs.Cost.{millionths, power}
use Rattle.x10.specs.Codes.{code_at, index_of, house_code, unit_code}
use Rattle.x10.specs.Pattern.{read_key, standard, read as readPattern, write as writePattern}
use Rattle.x10.specs.Places.{spelled}
use Rattle.acceptance.specs.Examples.{Holds, MarkedExamples}

pub marked_examples : MarkedExamples
unfolding Holds crc feed read_frame read_body read_message message_of with_data read_plain
    read_by read_counted_by carries_text frame total bytes_of as_message_by run_allowed listed read_only allowed stored all_settable sent_by after step
    millionths power readPattern writePattern read_key standard spelled code_at index_of house_code unit_code
marked_examples map texts room whole store taken fits =
    let present : 59 < length map = omega arith in
    let roomy : ltb room 65 ≡ false = le-ltb room 65 fits in
    let complete : eqb (length map) 256 ≡ true = eq-eqb (length map) 256 whole in
    let stored-whole : eqb (length texts) 610 ≡ true = eq-eqb (length texts) 610 store in
    (refl, (refl, (refl, (refl, (refl, (refl, (refl, (refl, (simp (roomy, complete, stored-whole, taken), (simp (roomy, complete, stored-whole, taken), (put_same map 59 124 present, (simp (roomy, complete, stored-whole, taken), (refl, (refl, (refl, (refl, tt))))))))))))))))
