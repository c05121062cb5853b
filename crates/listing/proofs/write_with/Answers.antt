use Prim.Native.Nat.{ℕ}
use borrow.Author.Tests.{leb-true, leb-false}
use lib.ListN.{length}
use lib.Seq.{length-take-le}
use mathlib.Core.List.{List}
use mathlib.Core.Path.{◌≡◌, refl, sym, ap, ◌∙◌}
use native.Mathlib.Omega.{arith}
use Rattle.answer.specs.Answer.{Outcome, refused, accepted, on_accepted, in_room, out_after}
use Rattle.listing.proofs.Laws.Answers.{found_size, found_too_little, found_fits}
use Rattle.listing.proofs.Laws.Found.{found_few, found_all}
use Rattle.listing.proofs.Laws.Output.{from_start, size_from_start}
use Rattle.listing.specs.Text.{listing}
use Rattle.listing.proofs.write_with.Goals as goal

pub slice_bounds-has_room-end-2 : goal.slice_bounds-has_room-end-2
slice_bounds-has_room-end-2 c = sym (length-take-le c.find-n.result _ c.find-n.ensures.counted)

pub has_room-requires : goal.has_room-requires
has_room-requires c =
    let s = c.args.bytes.now in
    let known = c.type_inv.bytes in
    let told = found_all c.find-n.ensures refl in record {
      len_bound = c.requires.bytes_len_bound;
      within = told.within;
      found_len_bound = omega (arith, c.requires.bytes_len_bound, found_few c.find-n.ensures);
      len_len_bound = found_size s _ c.requires.bytes_len_bound told (λ i. omega (arith, known i));
    }

pub returns-then-not-has_room : goal.returns-then-not-has_room
returns-then-not-has_room c =
    let a = c.args in
    let told = found_all c.find-n.ensures refl in
    let o : in_room (length a.out.now) (listing a.bytes.now) ≡ refused 9 =
    found_too_little a.bytes.now _ c.requires.bytes_len_bound told (length a.out.now) (leb-false _ _ (sym c.has_room.ensures ∙ c.if-not-has_room.true)) in record {
      result_value = sym (ap (on_accepted length) o);
      out_after = sym (ap (λ (x : Outcome (List ℕ)). out_after x a.out.now) o);
    }

pub slice_bounds-put_listing-end-2 : goal.slice_bounds-put_listing-end-2
slice_bounds-put_listing-end-2 c = sym (length-take-le c.find-n.result _ c.find-n.ensures.counted)

pub put_listing-size-requires : goal.put_listing-size-requires
put_listing-size-requires c =
    let told = found_all c.find-n.ensures refl in record {
      len_bound = c.requires.bytes_len_bound;
      within = told.within;
      len_in_bounds = leb-true _ _ (sym c.has_room.ensures ∙ c.if-not-has_room.false);
    }

pub overflow_cast-result : goal.overflow_cast-result
overflow_cast-result c =
    let s = c.args.bytes.now in
    let known = c.type_inv.bytes in
    let told = found_all c.find-n.ensures refl in
    omega (arith, c.put_listing-size.ensures.moved, found_size s _ c.requires.bytes_len_bound told (λ i. omega (arith, known i)))

pub returns : goal.returns
returns c =
    let a = c.args in
    let told = found_all c.find-n.ensures refl in
    let put = c.put_listing-size.ensures in
    let o = found_fits a.bytes.now _ c.requires.bytes_len_bound told (length a.out.now) (leb-true _ _ (sym c.has_room.ensures ∙ c.if-not-has_room.false)) in record {
      result_value = ap accepted (size_from_start put) ∙ sym (ap (on_accepted length) o);
      out_after = from_start put ∙ sym (ap (λ (x : Outcome (List ℕ)). out_after x a.out.now) o);
    }
