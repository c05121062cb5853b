use Prim.Native.Nat.{ℕ, ◌+◌, ◌-◌, ◌<◌}
use lib.ListN.{length, get_or, take, drop, set, length-set}
use lib.Seq.{take-suc-set, length-take-le}
use mathlib.Core.Bool.{Bool, true}
use mathlib.Core.List.{List, ◌∷◌, [], ◌++◌}
use mathlib.Core.Path.{◌≡◌, refl, sym, ap, subst, ◌∙◌}
use native.Mathlib.Numerals.{add-one}
use native.Mathlib.Omega.{arith}
use Rattle.std.specs.Prelude.{Some, None}
use Rattle.answer.specs.Answer.{accepted}
use Rattle.link.specs.Frame.{read_first, size}
use Rattle.listing.proofs.Laws.Output.{behind-all}
use Rattle.listing.proofs.Laws.Frames.{inside, judged_none, judged_some}
use Rattle.listing.proofs.Laws.Settling.{settles_none, settles_noise, settles_frame}
use Rattle.listing.specs.declared.place.FrameAt.{FrameAt}
use Rattle.listing.specs.Parts.{judgement, behind, shifted, Stands, Settles}
use Rattle.listing.specs.State.{settled}
use Rattle.listing.proofs.settle.settle.Invariants.{Going}
use Rattle.listing.proofs.settle.settle.Goals as goal

-- from one settled place to the next
module _ {s : List ℕ} {base : ℕ} {kept₀ kept : List FrameAt} {at count : ℕ} (g : Going s base kept₀ kept at count) (in-it : at < length s)
    (here : settled (drop at s) ≡ true) where
  noisy : None ≡ judgement at (read_first (drop at s)) → Going s base kept₀ kept (at + 1) count
  noisy is = record {
    settles = λ from b. settles_noise (g.settles from b) in-it here (judged_none s at is);
    counted = g.counted;
    same = g.same;
    long = g.long;
  }

  module _ (small : (i : ℕ) → get_or s i 0 < 256) (e : FrameAt) (is : Some e ≡ judgement at (read_first (drop at s))) where
    stands : (e.offset ≡ at) × Stands s e
    stands = judged_some s at e small is

    place : count < length kept
    place =
        let w = inside stands.1 in
        omega (arith, stands.0, w.most, w.least, (g.settles 0 (omega arith)).few, length-take-le count kept g.counted, g.long)

    forward : at < behind e
    forward = omega (arith, stands.0, (inside stands.1).least)

    framed : Going s base kept₀ (set kept count (shifted base e)) (behind e) (count + 1)
    framed =
        let d = shifted base e in
        let f = stands.1.held in
        let read : read_first (drop at s) ≡ accepted f = ap (λ (n : ℕ). read_first (drop n s)) (sym stands.0) ∙ stands.1.read in
        let to : at + size f ≡ behind e = omega (arith, stands.0, stands.1.count) in
        let one : take count kept ++ (d ∷ []) ≡ take (count + 1) (set kept count d) = sym (ap (λ (k : ℕ). take k (set kept count d)) (add-one count) ∙ take-suc-set kept count d place) in
        let long : length (set kept count d) ≡ length kept = length-set kept count d in
        subst (λ (n : ℕ). Going s base kept₀ (set kept count d) n (count + 1)) to
        (record {
          settles = λ from b. subst (λ (es : List FrameAt). Settles s base from es (at + size f)) one
              (settles_frame (g.settles from b) f read d (omega (arith, stands.0)) stands.1.count stands.1.kind (omega (arith, stands.1.kind, stands.1.byte)));
          counted = omega (arith, place);
          same = long ∙ g.same;
          long = omega (arith, g.long);
        })

pub loop-at-init : goal.loop-at-init
loop-at-init c =
    record {
      settles = λ from h. settles_none c.args.bytes.now c.args.base from h;
      counted = omega arith;
      same = refl;
      long = c.requires.bytes_len_bound;
    }

pub judge-requires : goal.judge-requires
judge-requires c = record {
  bytes_len_bound = omega (arith, c.requires.bytes_bound);
  at_in_bounds = omega (arith, c.loop-at-test.true, c.requires.limit_in_bounds);
}

-- the place is settled, as the code asks it of the bytes from there on
there : (s : List ℕ) (at : ℕ) (b : Bool) (answer : Bool) → answer ≡ settled (take (length s - at) (drop at s)) → answer ≡ b → settled (drop at s) ≡ b
there s at b answer e is = ap settled (sym (behind-all s at)) ∙ sym e ∙ is

pub shifted-requires : goal.shifted-requires
shifted-requires c =
    let known = c.type_inv.bytes in
    let l = c.loop-at in
    let w = judged_some c.args.bytes.now l.at c.in-Some.frame (λ i. omega (arith, known i)) (sym c.in-Some.is ∙ c.judge.ensures) in
    omega (arith, w.0, c.loop-at-test.true, c.requires.bytes_bound, c.requires.limit_in_bounds)

pub bounds-found-count : goal.bounds-found-count
bounds-found-count c =
    let known = c.type_inv.bytes in
    let l = c.loop-at in
    place l.invariant (omega (arith, c.loop-at-test.true, c.requires.limit_in_bounds)) (there c.args.bytes.now c.loop-at.at _ _ c.is_settled.ensures c.if-is_settled.true)
    (λ i. omega (arith, known i)) c.in-Some.frame (sym c.in-Some.is ∙ c.judge.ensures)

pub loop-at-smaller-in-Some : goal.loop-at-smaller-in-Some
loop-at-smaller-in-Some c =
    let known = c.type_inv.bytes in
    let l = c.loop-at in
    omega (
      arith,
      c.loop-at-test.true,
      c.end-at.ensures,
      forward l.invariant (omega (arith, c.loop-at-test.true, c.requires.limit_in_bounds)) (there c.args.bytes.now c.loop-at.at _ _ c.is_settled.ensures c.if-is_settled.true)
          (λ i. omega (arith, known i)) c.in-Some.frame (sym c.in-Some.is ∙ c.judge.ensures),
    )

pub loop-at-preserved-in-Some : goal.loop-at-preserved-in-Some
loop-at-preserved-in-Some c =
    let known = c.type_inv.bytes in
    let l = c.loop-at in
    rw (c.shifted.ensures, c.end-at.ensures)
    (framed l.invariant (omega (arith, c.loop-at-test.true, c.requires.limit_in_bounds)) (there c.args.bytes.now c.loop-at.at _ _ c.is_settled.ensures c.if-is_settled.true)
    (λ i. omega (arith, known i)) c.in-Some.frame (sym c.in-Some.is ∙ c.judge.ensures))

pub loop-at-preserved : goal.loop-at-preserved
loop-at-preserved c =
    noisy c.loop-at.invariant (omega (arith, c.loop-at-test.true, c.requires.limit_in_bounds)) (there c.args.bytes.now c.loop-at.at _ _ c.is_settled.ensures c.if-is_settled.true)
    (sym c.in-None.is ∙ c.judge.ensures)

pub shape_of-found-else-is_settled : goal.shape_of-found-else-is_settled
shape_of-found-else-is_settled c = c.loop-at.invariant.same

pub returns-else-is_settled : goal.returns-else-is_settled
returns-else-is_settled c =
    let l = c.loop-at in record {
      settles = l.invariant.settles;
      counted = l.invariant.counted;
      stopped = λ h. there c.args.bytes.now c.loop-at.at _ _ c.is_settled.ensures c.if-is_settled.false;
    }

pub returns-after-loop-at : goal.returns-after-loop-at
returns-after-loop-at c =
    let l = c.loop-at in record {
      settles = l.invariant.settles;
      counted = l.invariant.counted;
      stopped = λ h. let z : ⊥ = omega (arith, c.loop-at-test.false) in absurd z;
    }
