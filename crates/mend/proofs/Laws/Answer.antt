-- What is printed of an answer of mending. Assumes nothing.
use mathlib.Core.Path.{◌≡◌, sym, ap, ap₂, ◌∙◌}
use mathlib.Core.List.{List, ◌++◌}
use Prim.Native.Nat.{ℕ, ◌<◌, ◌≤◌}
use native.Mathlib.Omega.{arith}
use lib.ListN.{length, take, drop, length-append}
use lib.Seq.{take_at}
use Rattle.answer.specs.Answer.{Outcome, refused, accepted, on_accepted, out_after}
use Rattle.answer.proofs.Laws.Test.{on_accepted_lem, still_refused}
use Rattle.listing.specs.Parts.{Put}
use Rattle.listing.specs.Text.{field, line_feed, refusal_text}
use Rattle.listing.proofs.Laws.Output.{from_start, size_from_start}
use Rattle.mending.specs.Mending.{Mended, mend, mend_in_room, numbers}
use Rattle.mending.specs.declared.FrameMended.{FrameMended}
use Rattle.mending.proofs.Laws.Sizes.{enough, small_place, frame-size}
use Rattle.mend.specs.Printed.{place_word, hex_line, printed}

-- a place and a count that mending answers, and the output after it: what is printed of them is what is printed of the answer
pub record Told (s after : List ℕ) (p n : ℕ) : Type 0 where
  pub small : p < 1000
  pub some : 0 < n
  pub few : n ≤ 69
  pub within : n ≤ length after
  pub text : place_word ++ (field p line_feed ++ hex_line (take n after)) ≡ printed (mend s)

module _ (s : List ℕ) (room : ℕ) (h : 69 ≤ room) where
  -- the answer without a room
  answered : {o : Outcome FrameMended} → o ≡ on_accepted numbers (mend_in_room room s) → on_accepted numbers (mend s) ≡ o
  answered e = ap (on_accepted numbers) (sym (enough s room h)) ∙ sym e

  pub told : {after : List ℕ} (n : ℕ) (old : List ℕ) (r : FrameMended) → n ≡ r.count → accepted r ≡ on_accepted numbers (mend_in_room room s)
      → after ≡ out_after (on_accepted (λ (m : Mended). m.frame) (mend_in_room room s)) old → Told s after r.place n
  told {after} n old r count-is e f =
      let a = on_accepted_lem numbers (mend s) r (answered e) in
      let m = a.0 in
      let w : mend s ≡ accepted m = a.1 in
      let place : m.place ≡ r.place = ap (λ (x : FrameMended). x.place) a.2 in
      let count : length m.frame ≡ n = ap (λ (x : FrameMended). x.count) a.2 ∙ sym count-is in
      let behind = drop (length m.frame) old in
      let there : after ≡ m.frame ++ behind =
      f ∙ ap (λ (o : Outcome Mended). out_after (on_accepted (λ (x : Mended). x.frame) o) old) (enough s room h ∙ w) in
      let taken : take n after ≡ m.frame = ap (take n) there ∙ take_at m.frame behind n count in
      record {
        small = omega (arith, small_place s m w);
        some = omega (arith, (frame-size s m w).0);
        few = omega (arith, (frame-size s m w).1);
        within = omega (arith, ap length there, length-append m.frame behind);
        text = ap₂ (λ (q : ℕ) (t : List ℕ). place_word ++ (field q line_feed ++ hex_line t)) (sym place) taken ∙ ap printed (sym w);
      }

  pub told_refused : (n : ℕ) → refused n ≡ on_accepted numbers (mend_in_room room s) → refusal_text n ≡ printed (mend s)
  told_refused n e = ap printed (sym (still_refused numbers (mend s) n (answered e)))

-- what is put from the start on is all that is printed
pub whole : {next : ℕ} {xs ys old after : List ℕ} → xs ≡ ys → Put 0 xs old after next
    → (next ≡ length ys) × ((after ≡ ys ++ drop (length ys) old) × (next ≤ length old))
whole {next} {xs} {ys} {old} {after} e p =
    (size_from_start p ∙ ap length e, (from_start p ∙ ap (λ (t : List ℕ). t ++ drop (length t) old) e, omega (arith, p.moved, p.fits)))
