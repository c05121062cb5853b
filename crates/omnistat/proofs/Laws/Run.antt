-- The rules for runs of registers and for polls, decided by facts. Assumes nothing.
use mathlib.Core.Path.{◌≡◌}
use mathlib.Core.Bool.{true, false, ◌&&◌}
use Prim.Native.Nat.{ℕ, ◌+◌, ◌<◌, ◌≤◌}
use lib.Dec.{ltb, eqb}
use borrow.Author.Tests.{le-leb, lt-leb}
use Rattle.omnistat.specs.Register.{within, is_text, run_allowed, poll_allowed}

module _ (start count : ℕ) where
  pub past_the_last : 256 < start + count → run_allowed start count ≡ false
  unfolding run_allowed
  past_the_last h = simp (lt-leb (start + count) 256 h)

  pub before_text : start + count ≤ 256 → start + count ≤ 172 → run_allowed start count ≡ true
  unfolding run_allowed
  before_text h k = simp (le-leb (start + count) 256 h, le-leb (start + count) 172 k)

  pub after_text : start + count ≤ 256 → 172 < start + count → run_allowed start count ≡ ltb 181 start
  unfolding run_allowed
  after_text h k = simp (le-leb (start + count) 256 h, lt-leb (start + count) 172 k)

  -- a poll, by its start
  pub poll_of_text : is_text start ≡ true → poll_allowed start count ≡ eqb count 1
  poll_of_text e = simp e

  pub poll_of_run : is_text start ≡ false → poll_allowed start count ≡ (within 1 14 count && run_allowed start count)
  poll_of_run e = simp e
