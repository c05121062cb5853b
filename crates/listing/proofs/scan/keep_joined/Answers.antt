use Prim.Native.Nat.{ℕ, ◌+◌, ◌<◌}
use lib.ListN.{length, set, length-set}
use mathlib.Core.List.{List}
use mathlib.Core.Path.{◌≡◌, refl, sym, subst⁻¹, ◌∙◌}
use native.Mathlib.Omega.{arith}
use Rattle.listing.proofs.Laws.Found.{found_quiet, found_place, found_frame}
use Rattle.listing.proofs.Laws.Frames.{inside, judged_none, judged_some}
use Rattle.listing.proofs.Laws.Places.{quiet_none, quiet_more}
use Rattle.listing.specs.declared.place.FrameAt.{FrameAt}
use Rattle.listing.specs.Parts.{behind, Found}
use Rattle.listing.proofs.scan.keep_joined.Invariants.{Keeping}
use Rattle.listing.proofs.scan.keep_joined.Goals as goal

-- and after it
module _ {s : List ℕ} {first : FrameAt} {kept₀ kept : List FrameAt} {taken : FrameAt} {count : ℕ} (k : Keeping s first kept₀ kept taken count) where
  place : count < length kept
  place = found_place k.found k.stands k.long

  more : Found s (set kept count taken) (count + 1) (behind taken)
  more = found_frame k.found k.stands k.long

  onward : first.offset < behind taken
  onward = omega (arith, k.forward, (inside k.stands).least)

pub loop-n-init : goal.loop-n-init
loop-n-init c =
    record { found = c.requires.found_2; stands = c.requires.stands; forward = omega arith; same = refl; long = c.requires.bytes_len_bound_2 }

pub offset_bounds-found-count : goal.offset_bounds-found-count
offset_bounds-found-count c = omega (arith, place c.loop-n.invariant, c.loop-n.invariant.same)

pub bounds-found-count : goal.bounds-found-count
bounds-found-count c = place c.loop-n.invariant

pub overflow_add-count : goal.overflow_add-count
overflow_add-count c = omega (arith, place c.loop-n.invariant, c.loop-n.invariant.same)

pub shape_of-found-then-limit-from : goal.shape_of-found-then-limit-from
shape_of-found-then-limit-from c =
    let l = c.loop-n in
    length-set l.found l.count l.taken ∙ l.invariant.same

pub returns-then-limit-from : goal.returns-then-limit-from
returns-then-limit-from c =
    let l = c.loop-n in
    let s = c.args.bytes.now in record {
      found = subst⁻¹ (Found s (set l.found l.count l.taken) (l.count + 1)) c.end-from.ensures (more l.invariant);
      forward = omega (arith, onward l.invariant, c.end-from.ensures);
    }

pub judge-requires : goal.judge-requires
judge-requires c = record {
  bytes_len_bound = c.requires.bytes_len_bound;
  at_in_bounds = omega (arith, c.if-limit-from.false, c.requires.limit_in_bounds);
}

pub overflow_add-result : goal.overflow_add-result
overflow_add-result c = omega (arith, c.if-limit-from.false)

pub shape_of-found-in_default : goal.shape_of-found-in_default
shape_of-found-in_default c =
    let l = c.loop-n in
    length-set l.found l.count l.taken ∙ l.invariant.same

pub returns-in_default : goal.returns-in_default
returns-in_default c =
    let l = c.loop-n in
    let s = c.args.bytes.now in
    let from = c.end-from.result in
    let here : from ≡ behind l.taken = c.end-from.ensures in
    let in-it : from < length s = omega (arith, c.if-limit-from.false, c.requires.limit_in_bounds) in record {
      found = found_quiet (subst⁻¹ (Found s (set l.found l.count l.taken) (l.count + 1)) here (more l.invariant))
          (quiet_more s from from (quiet_none s from (omega arith)) in-it (judged_none s from (sym c.in_default.is ∙ c.judge.ensures)));
      forward = omega (arith, onward l.invariant);
    }

pub loop-n-smaller : goal.loop-n-smaller
loop-n-smaller c =
    let l = c.loop-n in
    let s = c.args.bytes.now in
    let known = c.type_inv.bytes in
    let from = c.end-from.result in
    let next = judged_some s from c.in-Some.next (λ i. omega (arith, known i)) (sym c.in-Some.is ∙ c.judge.ensures) in
    omega (arith, next.0, c.end-from.ensures, (inside l.invariant.stands).least, (inside next.1).most)

pub loop-n-preserved : goal.loop-n-preserved
loop-n-preserved c =
    let l = c.loop-n in
    let s = c.args.bytes.now in
    let known = c.type_inv.bytes in
    let from = c.end-from.result in
    let next = judged_some s from c.in-Some.next (λ i. omega (arith, known i)) (sym c.in-Some.is ∙ c.judge.ensures) in
    let here : c.in-Some.next.offset ≡ behind l.taken = next.0 ∙ c.end-from.ensures in
    let long : length (set l.found l.count l.taken) ≡ length l.found = length-set l.found l.count l.taken in
    record {
      found = subst⁻¹ (Found s (set l.found l.count l.taken) (l.count + 1)) here (more l.invariant);
      stands = next.1;
      forward = omega (arith, onward l.invariant);
      same = long ∙ l.invariant.same;
      long = omega (arith, l.invariant.long);
    }
