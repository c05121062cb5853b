use Prim.Native.Nat.{ℕ}
use mathlib.Core.List.{List, ◌++◌}
use mathlib.Core.Path.{ap}
use native.Mathlib.Omega.{arith}
use Rattle.listing.proofs.Laws.Output.{first_fits, next_fits, joined, same_bytes}
use Rattle.listing.specs.Text.{line_text, field, space, line_feed, frame_word}
use Rattle.listing.proofs.text.put_frame.Goals as goal

-- the text behind each part
abbrev from₂ : ℕ → ℕ → List ℕ
from₂ count kind = field count space ++ field kind line_feed

abbrev from₁ : ℕ → ℕ → ℕ → List ℕ
from₁ offset count kind = field offset space ++ from₂ count kind

pub put_word-first-requires : goal.put_word-first-requires
unfolding line_text
put_word-first-requires c =
    let f = c.args.frame in
    first_fits _ _ frame_word (from₁ f.offset f.count f.kind) c.requires.frame_in_bounds

pub put_field-second-requires : goal.put_field-second-requires
unfolding line_text
put_field-second-requires c =
    let f = c.args.frame in
    let fit₁ = next_fits (from₁ f.offset f.count f.kind) c.put_word-first.ensures c.requires.frame_in_bounds in record {
      n_bound = omega (arith, c.from.ensures);
      closing_in_bounds = rw c.from.ensures (first_fits _ _ (field f.offset space) (from₂ f.count f.kind) fit₁);
    }

pub put_field-third-requires : goal.put_field-third-requires
unfolding line_text
put_field-third-requires c =
    let f = c.args.frame in
    let fit₁ = next_fits (from₁ f.offset f.count f.kind) c.put_word-first.ensures c.requires.frame_in_bounds in
    let put₂ = same_bytes (ap (λ (n : ℕ). field n space) c.from.ensures) c.put_field-second.ensures in
    let fit₂ = next_fits (from₂ f.count f.kind) put₂ fit₁ in record {
      n_bound = omega arith;
      closing_in_bounds = rw c.from-2.ensures (first_fits _ _ (field f.count space) (field f.kind line_feed) fit₂);
    }

pub put_field-requires : goal.put_field-requires
unfolding line_text
put_field-requires c =
    let f = c.args.frame in
    let fit₁ = next_fits (from₁ f.offset f.count f.kind) c.put_word-first.ensures c.requires.frame_in_bounds in
    let put₂ = same_bytes (ap (λ (n : ℕ). field n space) c.from.ensures) c.put_field-second.ensures in
    let fit₂ = next_fits (from₂ f.count f.kind) put₂ fit₁ in
    let put₃ = same_bytes (ap (λ (n : ℕ). field n space) c.from-2.ensures) c.put_field-third.ensures in record {
      n_bound = omega arith;
      closing_in_bounds = rw c.from-3.ensures (next_fits (field f.kind line_feed) put₃ fit₂);
    }

pub returns : goal.returns
unfolding line_text
returns c =
    joined c.put_word-first.ensures
    (joined (same_bytes (ap (λ (n : ℕ). field n space) c.from.ensures) c.put_field-second.ensures)
    (joined (same_bytes (ap (λ (n : ℕ). field n space) c.from-2.ensures) c.put_field-third.ensures)
    (same_bytes (ap (λ (n : ℕ). field n line_feed) c.from-3.ensures) c.put_field.ensures)))
