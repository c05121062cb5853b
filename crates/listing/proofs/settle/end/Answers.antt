use Prim.Native.Nat.{ℕ, ◌+◌, ◌-◌, ◌*◌, ◌<◌, ◌≤◌}
use lib.ListN.{length, take, drop, length-append, length-drop}
use lib.Seq.{take_all, length-take-le, drop-drop}
use mathlib.Core.Bool.{false}
use mathlib.Core.List.{List, ◌++◌}
use mathlib.Core.Path.{◌≡◌, refl, sym, ap, subst, subst⁻¹, ◌∙◌}
use native.Mathlib.Omega.{arith}
use Rattle.listing.proofs.Laws.FramesText.{last_within}
use Rattle.listing.proofs.Laws.Settling.{ends_none, ends_on, part-kept}
use Rattle.listing.specs.declared.place.FrameAt.{FrameAt}
use Rattle.listing.specs.Parts.{last_end, Settles, Ends}
use Rattle.listing.specs.State.{settled}
use Rattle.listing.proofs.settle.end.Invariants.{Going}
use Rattle.listing.proofs.settle.end.Goals as goal

-- from one place to the next, with what is handed on and put back
module _ {s : List ℕ} {base : ℕ} {found₀ found : List FrameAt} {at n : ℕ} (g : Going s base found₀ found at n) (in-it : at < length s) where
  abbrev behind : List ℕ
  behind = take (length s - (at + 1)) (drop (at + 1) s)

  behind-all : behind ≡ drop (at + 1) s
  behind-all = take_all (length s - (at + 1)) (drop (at + 1) s) (omega (arith, length-drop (at + 1) s))

  behind-long : length behind ≡ length s - (at + 1)
  behind-long = ap length behind-all ∙ length-drop (at + 1) s

  abbrev lent : List FrameAt
  lent = take (length found - n) (drop n found)

  lent-long : length lent ≡ length found - n
  lent-long = ap length (take_all (length found - n) (drop n found) (omega (arith, length-drop n found))) ∙ length-drop n found

  enough : length behind < 5 * (length lent + 1)
  enough = omega (arith, behind-long, lent-long, (g.ends 0 (omega arith)).few, length-take-le n found g.counted, g.counted, g.long)

  module _ (part : List FrameAt) (more count : ℕ) (as_long : length part ≡ length lent)
      (settles : (from : ℕ) → from ≤ base + (at + 1) → Settles behind (base + (at + 1)) from (take count part) more)
      (counted : count ≤ length part) (stopped : more < length s - (at + 1) → settled (drop more behind) ≡ false) where
    abbrev found' : List FrameAt
    found' = take n found ++ (part ++ drop (length found - n) (drop n found))

    found-long : length found' ≡ length found
    found-long =
        let later = drop (length found - n) (drop n found) in
        omega (
          arith,
          length-append (take n found) (part ++ later),
          length-append part later,
          length-take-le n found g.counted,
          length-drop (length found - n) (drop n found),
          length-drop n found,
          as_long,
          lent-long,
          g.counted,
        )

    inside : at + 1 + more ≤ length s
    inside = omega (arith, (settles 0 (omega arith)).within, behind-long)

    onward : Going s base found₀ found' (at + 1 + more) (n + count)
    onward = record {
      ends = one;
      counted = omega (arith, found-long, counted, as_long, lent-long, g.counted);
      unsettled = λ h. ap settled (sym (drop-drop more (at + 1) s)) ∙ ap (λ (x : List ℕ). settled (drop more x)) (sym behind-all) ∙ stopped (omega (arith, h));
      same = found-long ∙ g.same;
      long = omega (arith, found-long, g.long);
    }
      where
        one : (from : ℕ) → from ≤ base → Ends s base from (take (n + count) found') (at + 1 + more)
        one from b =
            let es = take n found in
            let before : last_end from es ≤ base + (at + 1) = omega (arith, last_within from es (base + at) (g.ends from b).inside) in
            let k : Settles (drop (at + 1) s) (base + (at + 1)) (last_end from es) (take count part) more =
            subst (λ (x : List ℕ). Settles x (base + (at + 1)) (last_end from es) (take count part) more) behind-all (settles (last_end from es) before) in
            subst⁻¹ (λ (x : List FrameAt). Ends s base from x (at + 1 + more)) (part-kept n count found part (drop (length found - n) (drop n found)) g.counted counted)
            (ends_on (g.ends from b) in-it (g.unsettled in-it) (take count part) more k)

pub loop-at-init : goal.loop-at-init
loop-at-init c =
    record {
      ends = λ from h. ends_none c.args.bytes.now c.args.base from h;
      counted = omega arith;
      unsettled = λ h. c.requires.bytes_value;
      same = refl;
      long = c.requires.bytes_len_bound;
    }

pub settle-reached-requires : goal.settle-reached-requires
settle-reached-requires c =
    let l = c.loop-at in
    let in-it : l.at < length c.args.bytes.now = c.loop-at-test.true in record {
      bytes_bound = omega (arith, c.requires.bytes_bound, behind-long l.invariant in-it);
      limit_in_bounds = omega (arith, behind-long l.invariant in-it);
      bytes_len_bound = enough l.invariant in-it;
    }

pub overflow_add-at : goal.overflow_add-at
overflow_add-at c =
    let l = c.loop-at in
    let in-it : l.at < length c.args.bytes.now = c.loop-at-test.true in
    let settle = c.settle-reached in
    omega (arith, c.requires.bytes_bound, inside l.invariant in-it _ settle.result.at settle.result.count settle.auto.found settle.ensures.settles settle.ensures.counted settle.ensures.stopped)

pub loop-at-smaller : goal.loop-at-smaller
loop-at-smaller c = omega (arith, c.loop-at-test.true)

pub loop-at-preserved : goal.loop-at-preserved
loop-at-preserved c =
    let l = c.loop-at in
    let in-it : l.at < length c.args.bytes.now = c.loop-at-test.true in
    let settle = c.settle-reached in
    onward l.invariant in-it _ settle.result.at settle.result.count settle.auto.found settle.ensures.settles settle.ensures.counted settle.ensures.stopped

pub returns : goal.returns
returns c =
    let l = c.loop-at in
    let all : l.at ≡ length c.args.bytes.now = omega (arith, c.loop-at-test.false, (l.invariant.ends 0 (omega arith)).within) in record {
      ends = λ from h. subst (λ (k : ℕ). Ends c.args.bytes.now c.args.base from (take l.n l.found) k) all (l.invariant.ends from h);
      counted = l.invariant.counted;
    }
