use Rattle.listing.proofs.Laws.Output.{first_fits, next_fits, joined}
use Rattle.listing.specs.Text.{line_text, field, line_feed, end_word}
use Rattle.listing.proofs.text.put_end.Goals as goal

pub put_word-first-requires : goal.put_word-first-requires
unfolding line_text
put_word-first-requires c =
    first_fits _ _ end_word (field c.args.offset line_feed) c.requires.offset_in_bounds

pub put_field-requires : goal.put_field-requires
unfolding line_text
put_field-requires c = record {
  n_bound = c.requires.offset_bound;
  closing_in_bounds = next_fits (field c.args.offset line_feed) c.put_word-first.ensures c.requires.offset_in_bounds;
}

pub returns : goal.returns
unfolding line_text
returns c =
    joined c.put_word-first.ensures c.put_field.ensures
