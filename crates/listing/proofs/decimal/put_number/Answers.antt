use Prim.Native.Nat.{◌/◌, ◌%◌}
use lib.ListN.{length, length-set}
use mathlib.Core.List.{[], ◌∷◌}
use mathlib.Core.Path.{◌≡◌, sym, ap}
use native.Mathlib.Omega.{arith}
use Rattle.listing.proofs.Laws.Numbers.{below_10, below_100, below_1000, below_10000}
use Rattle.listing.proofs.Laws.Output.{same_bytes, stored₁, stored₂, stored₃, stored₄}
use Rattle.listing.specs.Text.{digit, number}
use Rattle.listing.proofs.decimal.put_number.Goals as goal

pub bounds-out-at : goal.bounds-out-at
bounds-out-at c = omega (arith, ap length (below_10 c.args.n (omega arith)))

pub returns-then-v-lt10 : goal.returns-then-v-lt10
returns-then-v-lt10 c =
    let a = c.args in
    let e : number a.n ≡ digit a.n ∷ [] = below_10 a.n (omega arith) in
    same_bytes (sym e) (stored₁ a.out.now a.at (digit a.n) (omega (arith, ap length e)))

pub bounds-out-at-then-v-lt100 : goal.bounds-out-at-then-v-lt100
bounds-out-at-then-v-lt100 c = omega (arith, ap length (below_100 c.args.n (omega arith) (omega arith)))

pub bounds-out-at-then-v-lt100-2 : goal.bounds-out-at-then-v-lt100-2
bounds-out-at-then-v-lt100-2 c = simp length-set (omega (arith, ap length (below_100 c.args.n (omega arith) (omega arith))))

pub returns-then-v-lt100 : goal.returns-then-v-lt100
returns-then-v-lt100 c =
    let a = c.args in
    let e : number a.n ≡ digit (a.n / 10) ∷ digit (a.n % 10) ∷ [] = below_100 a.n (omega arith) (omega arith) in
    same_bytes (sym e) (stored₂ a.out.now a.at (digit (a.n / 10)) (digit (a.n % 10)) (omega (arith, ap length e)))

pub bounds-out-at-then-v-lt1000 : goal.bounds-out-at-then-v-lt1000
bounds-out-at-then-v-lt1000 c = omega (arith, ap length (below_1000 c.args.n (omega arith) (omega arith)))

pub bounds-out-at-then-v-lt1000-2 : goal.bounds-out-at-then-v-lt1000-2
bounds-out-at-then-v-lt1000-2 c = simp length-set (omega (arith, ap length (below_1000 c.args.n (omega arith) (omega arith))))

pub bounds-out-at-then-v-lt1000-3 : goal.bounds-out-at-then-v-lt1000-3
bounds-out-at-then-v-lt1000-3 c = simp length-set (omega (arith, ap length (below_1000 c.args.n (omega arith) (omega arith))))

pub returns-then-v-lt1000 : goal.returns-then-v-lt1000
returns-then-v-lt1000 c =
    let a = c.args in
    let e : number a.n ≡ digit (a.n / 100) ∷ digit (a.n % 100 / 10) ∷ digit (a.n % 100 % 10) ∷ [] = below_1000 a.n (omega arith) (omega arith) in
    same_bytes (sym e) (stored₃ a.out.now a.at (digit (a.n / 100)) (digit (a.n % 100 / 10)) (digit (a.n % 100 % 10)) (omega (arith, ap length e)))

pub bounds-out-at-2 : goal.bounds-out-at-2
bounds-out-at-2 c = omega (arith, ap length (below_10000 c.args.n (omega arith) (omega arith)))

pub bounds-out-at-3 : goal.bounds-out-at-3
bounds-out-at-3 c = simp length-set (omega (arith, ap length (below_10000 c.args.n (omega arith) (omega arith))))

pub bounds-out-at-4 : goal.bounds-out-at-4
bounds-out-at-4 c = simp length-set (omega (arith, ap length (below_10000 c.args.n (omega arith) (omega arith))))

pub bounds-out-at-5 : goal.bounds-out-at-5
bounds-out-at-5 c = simp length-set (omega (arith, ap length (below_10000 c.args.n (omega arith) (omega arith))))

pub returns : goal.returns
returns c =
    let a = c.args in
    let e : number a.n ≡ digit (a.n / 100 / 10) ∷ digit (a.n / 100 % 10) ∷ digit (a.n % 100 / 10) ∷ digit (a.n % 100 % 10) ∷ [] = below_10000 a.n (omega arith) (omega arith) in
    same_bytes (sym e) (stored₄ a.out.now a.at (digit (a.n / 100 / 10)) (digit (a.n / 100 % 10)) (digit (a.n % 100 / 10)) (digit (a.n % 100 % 10)) (omega (arith, ap length e)))
