-- The bytes of data at the host: what is read as data has them, and they are read so. Assumes nothing.
use mathlib.Core.Path.{◌≡◌, refl, sym, ap, ◌∙◌}
use mathlib.Core.Bool.{true, not}
use mathlib.Core.List.{List, ◌∷◌}
use Prim.Native.Nat.{ℕ, ◌+◌, ◌*◌, ◌≤◌}
use native.Mathlib.Omega.{arith}
use lib.ListN.{length}
use borrow.Author.Tests.{le-leb}
use Rattle.answer.specs.Answer.{accepted, refuse_if, on_accepted}
use Rattle.answer.proofs.Laws.Test.{same, fails, passed_not, then_accepted}
use Rattle.omnistat.specs.declared.frame.End.TheVariants.{Host}
use Rattle.omnistat.specs.Register.{run_allowed}
use Rattle.omnistat.specs.Frame.{framed, bytes_of, directed, first_of, summed}
use Rattle.omnistat.specs.Message.{numbered, data_from, as_message, as_message_by}
use Rattle.omnistat.specs.Omnistat.{counted, addressed_counted, read, sent}
use Rattle.omnistat.specs.Parts.{passed}
use Rattle.omnistat.proofs.Laws.Message.{inside, within_both}
use Rattle.omnistat.proofs.Laws.Omnistat.{as_number, write-summed, read_after_write, write_after_read_counted}

module _ (number start : ℕ) (values : List ℕ) where
  -- first byte, length and type, start register, values, sum
  abbrev pub data_bytes : List ℕ
  data_bytes = summed (first_of Host number ∷ (length (start ∷ values) * 16 + 2) ∷ start ∷ values)

  pub data_bytes_lem : (bytes : List ℕ) → read Host bytes ≡ accepted (addressed_counted Host number (data_from start values))
      → ((1 ≤ number) × (number ≤ 127)) × (bytes ≡ data_bytes)
  unfolding sent bytes_of
  data_bytes_lem bytes e =
      let f = bytes_of (framed (first_of Host number) 2 (start ∷ values)) in
      let w = write_after_read_counted Host (numbered Host) number (data_from start values) bytes e in
      let p = then_accepted (as_message Host 2 (start ∷ values)) (λ m. refuse_if (not (directed Host (first_of Host number))) 8 (accepted f)) bytes w in
      let q = passed_not (directed Host (first_of Host number)) 8 (accepted f) bytes p.2 in
      let d = within_both 129 255 (first_of Host number) q.0 in
      ((omega (arith, d.0), omega (arith, d.1)), sym (same q.1))

  pub data_read : 1 ≤ number → number ≤ 127 → 1 ≤ length values → length values ≤ 14 → run_allowed start (length values) ≡ true
      → read Host data_bytes ≡ accepted (addressed_counted Host number (data_from start values))
  unfolding as_message_by
  data_read l m few many run =
      let d : directed Host (first_of Host number) ≡ true = sym (as_number number l) ∙ le-leb number 127 m in
      let a : as_message Host 2 (start ∷ values) ≡ accepted (data_from start values) =
      fails 7 _ (ap not (inside 1 14 (length values) few many)) ∙ fails 8 _ (ap not run) in
      let w = write-summed Host (numbered Host) number 2 (start ∷ values) (sym (ap (on_accepted passed) a)) d (length (start ∷ values) * 16 + 2) refl in
      read_after_write Host (numbered Host) number (counted (data_from start values)) data_bytes w
