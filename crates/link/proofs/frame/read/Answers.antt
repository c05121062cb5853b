use lib.ListN.{get_or}
use mathlib.Core.Path.{sym, ap, ◌∙◌}
use native.Mathlib.Omega.{arith}
use Rattle.answer.specs.Answer.{on_accepted}
use Rattle.link.proofs.Laws.Ladder.{empty, wrong_start, start_alone, by_length, length_zero, length_above, too_short, too_long, wrong_crc, whole_header}
use Rattle.link.specs.Frame.{header}
use Rattle.link.proofs.frame.read.Goals as goal

pub returns-then-bytes-eq0 : goal.returns-then-bytes-eq0
returns-then-bytes-eq0 c =
    let s = c.args.bytes.now in
    sym (ap (on_accepted header) (empty s c.if-bytes-eq0.true))

pub returns-then-bytes-ne-START : goal.returns-then-bytes-ne-START
returns-then-bytes-ne-START c =
    let s = c.args.bytes.now in
    sym (ap (on_accepted header) (wrong_start s (omega arith) c.if-bytes-ne-START.true))

pub returns-then-bytes-eq1 : goal.returns-then-bytes-eq1
returns-then-bytes-eq1 c =
    let s = c.args.bytes.now in
    sym (ap (on_accepted header) (start_alone s (omega arith) (omega arith) c.if-bytes-eq1.true))

pub returns-then-l-eq0 : goal.returns-then-l-eq0
returns-then-l-eq0 c =
    let s = c.args.bytes.now in
    sym (ap (on_accepted header) (by_length s (omega arith) (omega arith) (omega arith) ∙ length_zero s (get_or s 1 0) (omega arith)))

pub returns-then-l-gt-MAX_LENGTH : goal.returns-then-l-gt-MAX_LENGTH
returns-then-l-gt-MAX_LENGTH c =
    let s = c.args.bytes.now in
    sym (ap (on_accepted header) (by_length s (omega arith) (omega arith) (omega arith) ∙ length_above s (get_or s 1 0) (omega arith) (omega arith)))

pub returns-then-bytes-l : goal.returns-then-bytes-l
returns-then-bytes-l c =
    let s = c.args.bytes.now in
    sym (ap (on_accepted header) (by_length s (omega arith) (omega arith) (omega arith) ∙ too_short s (get_or s 1 0) (omega arith) (omega arith) (omega arith)))

pub returns-then-l-bytes : goal.returns-then-l-bytes
returns-then-l-bytes c =
    let s = c.args.bytes.now in
    sym (ap (on_accepted header) (by_length s (omega arith) (omega arith) (omega arith) ∙ too_long s (get_or s 1 0) (omega arith) (omega arith) (omega arith) (omega arith)))

pub returns-then-crc_holds : goal.returns-then-crc_holds
returns-then-crc_holds c =
    let s = c.args.bytes.now in
    sym (ap (on_accepted header) (by_length s (omega arith) (omega arith) (omega arith))
    ∙ whole_header s (get_or s 1 0) (omega arith) (omega arith) (omega arith) (omega arith) (sym c.crc_holds.ensures ∙ c.if-crc_holds.true))

pub returns : goal.returns
returns c =
    let s = c.args.bytes.now in
    sym (ap (on_accepted header) (by_length s (omega arith) (omega arith) (omega arith)
    ∙ wrong_crc s (get_or s 1 0) (omega arith) (omega arith) (omega arith) (omega arith) (sym c.crc_holds.ensures ∙ c.if-crc_holds.false)))
