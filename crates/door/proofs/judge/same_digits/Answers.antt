use Prim.Native.Nat.{ℕ, ◌≤◌}
use lib.Dec.{eqb}
use lib.ListN.{get_or}
use mathlib.Core.Bool.{not}
use mir.Val.{bool_byte}
use native.Mathlib.Omega.{arith}
use Rattle.door.proofs.Laws.Door.{at_most_one, same_digits_lem}
use Rattle.door.proofs.judge.same_digits.Goals as goal

pub overflow_add-differing : goal.overflow_add-differing
overflow_add-differing c =
    let differs : (i : ℕ) → bool_byte (not (eqb (get_or c.args.secret.now i 0) (get_or c.args.digits.now i 0))) ≤ 1 = λ i. at_most_one (not (eqb (get_or c.args.secret.now i 0) (get_or c.args.digits.now i 0))) in
    omega (arith, differs 0, differs 1)

pub overflow_add-differing-2 : goal.overflow_add-differing-2
overflow_add-differing-2 c =
    let differs : (i : ℕ) → bool_byte (not (eqb (get_or c.args.secret.now i 0) (get_or c.args.digits.now i 0))) ≤ 1 = λ i. at_most_one (not (eqb (get_or c.args.secret.now i 0) (get_or c.args.digits.now i 0))) in
    omega (arith, differs 0, differs 1, differs 2)

pub overflow_add-differing-3 : goal.overflow_add-differing-3
overflow_add-differing-3 c =
    let differs : (i : ℕ) → bool_byte (not (eqb (get_or c.args.secret.now i 0) (get_or c.args.digits.now i 0))) ≤ 1 = λ i. at_most_one (not (eqb (get_or c.args.secret.now i 0) (get_or c.args.digits.now i 0))) in
    omega (arith, differs 0, differs 1, differs 2, differs 3)

pub returns : goal.returns
returns c =
    let a = c.args in
    same_digits_lem a.secret.now a.digits.now
