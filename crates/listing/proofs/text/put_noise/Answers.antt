use Prim.Native.Nat.{ℕ}
use mathlib.Core.List.{List, ◌++◌}
use Rattle.listing.proofs.Laws.Output.{first_fits, next_fits, joined}
use Rattle.listing.specs.Text.{line_text, field, space, line_feed, noise_word}
use Rattle.listing.proofs.text.put_noise.Goals as goal

-- the text behind the word
abbrev from₁ : ℕ → ℕ → List ℕ
from₁ offset count = field offset space ++ field count line_feed

pub put_word-first-requires : goal.put_word-first-requires
unfolding line_text
put_word-first-requires c =
    first_fits _ _ noise_word (from₁ c.args.offset c.args.count) c.requires.count_in_bounds

pub put_field-second-requires : goal.put_field-second-requires
unfolding line_text
put_field-second-requires c =
    let a = c.args in
    let fit₁ = next_fits (from₁ a.offset a.count) c.put_word-first.ensures c.requires.count_in_bounds in record {
      n_bound = c.requires.offset_bound;
      closing_in_bounds = first_fits _ _ (field a.offset space) (field a.count line_feed) fit₁;
    }

pub put_field-requires : goal.put_field-requires
unfolding line_text
put_field-requires c =
    let a = c.args in
    let fit₁ = next_fits (from₁ a.offset a.count) c.put_word-first.ensures c.requires.count_in_bounds in record {
      n_bound = c.requires.count_bound;
      closing_in_bounds = next_fits (field a.count line_feed) c.put_field-second.ensures fit₁;
    }

pub returns : goal.returns
unfolding line_text
returns c =
    joined c.put_word-first.ensures (joined c.put_field-second.ensures c.put_field.ensures)
