use mathlib.Core.Path.{◌≡◌, sym, ap, subst, ◌∙◌}
use Prim.Native.Nat.{ℕ, ◌+◌, ◌*◌, ◌^◌, ◌≤◌, ◌<◌}
use borrow.Author.Rules.{rules}
use native.Mathlib.Omega.{arith}
use lib.ListN.{length, get_or}
use lib.Pow.{pow_mono, pow-add}
use lib.Seq.{slice}
use Rattle.x10.proofs.Laws.Pairs.{spelled_from, next_pair, wrong_pair, no_pair, spelled_start}
use Rattle.x10.proofs.pairs.spelled.Goals as goal

-- below 8 bits the number can take one bit more
fits : (i n : ℕ) → i < 8 → n < 2 ^ i → n < 128
fits i n h k = let p : 2 ^ i ≤ 128 = pow_mono {i = i} {j = 7} (omega arith) in omega arith

grown : (i n b : ℕ) → n < 2 ^ i → b ≤ 1 → n * 2 + b < 2 ^ (i + 1)
grown i n b h k = omega (arith, pow-add 2 i 1)

pub loop-i-init : goal.loop-i-init
loop-i-init c =
    let a = c.args in
    let t : ℕ = a.from + 2 * a.width in
    let e : a.from + 2 * 0 ≡ a.from = omega arith in (
      omega arith,
      ap (λ (k : ℕ). spelled_from 0 (slice k t a.s.now)) e ∙ spelled_start (slice a.from t a.s.now),
    )

pub returns-then-from-ne1 : goal.returns-then-from-ne1
returns-then-from-ne1 c =
    let l = c.loop-i in
    let a = c.args in
    let i : ℕ = a.from + 2 * l.i in
    let t : ℕ = a.from + 2 * a.width in
    let h : i + 1 < t = omega arith in
    let k : t ≤ length a.s.now = omega arith in
    let ne : get_or a.s.now i 0 + get_or a.s.now (i + 1) 0 ≡ 1 → ⊥ = λ e. c.if-from-ne1.true (omega arith) in
    record { value = sym (wrong_pair a.s.now i t l.n h k ne) ∙ l.invariant.1; upper_bound = search rules }

pub overflow_mul-n : goal.overflow_mul-n
overflow_mul-n c =
    let l = c.loop-i in
    omega (arith, fits l.i l.n (omega arith) l.invariant.0)

pub overflow_add-n : goal.overflow_add-n
overflow_add-n c =
    let l = c.loop-i in
    omega (arith, fits l.i l.n (omega arith) l.invariant.0)

pub loop-i-preserved : goal.loop-i-preserved
loop-i-preserved c =
    let l = c.loop-i in
    let a = c.args in
    let i : ℕ = a.from + 2 * l.i in
    let t : ℕ = a.from + 2 * a.width in
    let h : i + 1 < t = omega arith in
    let k : t ≤ length a.s.now = omega arith in
    let e : get_or a.s.now i 0 + get_or a.s.now (i + 1) 0 ≡ 1 = omega arith in
    let b : ℕ = get_or a.s.now i 0 in
    let next : i + 2 ≡ a.from + 2 * (l.i + 1) = omega arith in (
      grown l.i l.n b l.invariant.0 (omega arith),
      ap (λ (j : ℕ). spelled_from (l.n * 2 + b) (slice j t a.s.now)) (sym next)
          ∙ sym (next_pair a.s.now i t l.n h k e)
          ∙ l.invariant.1,
    )

pub returns : goal.returns
returns c =
    let l = c.loop-i in
    let a = c.args in
    let e : l.i ≡ a.width = omega arith in
    record {
      value = sym (no_pair (a.from + 2 * a.width) l.n a.s.now)
          ∙ ap (λ (k : ℕ). spelled_from l.n (slice (a.from + 2 * k) (a.from + 2 * a.width) a.s.now)) (sym e)
          ∙ l.invariant.1;
      upper_bound = subst (λ (k : ℕ). l.n < 2 ^ k) e l.invariant.0;
    }
