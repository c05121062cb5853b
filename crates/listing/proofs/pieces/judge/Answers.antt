use Prim.Native.Nat.{ℕ, ◌+◌, ◌-◌, ◌≤◌}
use lib.ListN.{length, take, drop, length-drop}
use lib.Seq.{length-take-le}
use mathlib.Core.List.{List, ◌++◌}
use mathlib.Core.Path.{◌≡◌, sym, ap, subst, ◌∙◌}
use native.Mathlib.Omega.{arith}
use Rattle.listing.specs.declared.place.FrameAt.{FrameAt}
use Rattle.listing.specs.Parts.{Settles, last_end}
use Rattle.listing.specs.State.{settled}
use Rattle.listing.proofs.Laws.Output.{behind-all}
use Rattle.listing.proofs.Laws.FramesText.{last_within}
use Rattle.listing.proofs.Laws.Settling.{part-kept}
use Rattle.listing.proofs.Laws.Window.{all_of_it, in_window, on_in_piece, stopped_in_piece, kept_count}
use Rattle.listing.proofs.pieces.judge.Goals as goal

-- the window after the copies
filled : (unread piece window : List ℕ) (more : ℕ) → more ≤ length piece
    → take (length unread + length (take more piece)) window ≡ unread ++ take more piece → take (length unread + more) window ≡ unread ++ take more piece
filled unread piece window more h e = ap (λ (n : ℕ). take (length unread + n) window) (sym (length-take-le more piece h)) ∙ e

pub slice_bounds-join-end : goal.slice_bounds-join-end
slice_bounds-join-end c = sym (length-take-le _ _ c.ahead-more.ensures.within)

pub join-requires : goal.join-requires
join-requires c =
    let ahead = c.ahead-more in
    omega (arith, c.requires.unread_len_bound, c.requires.window_len, ahead.ensures.most, length-take-le ahead.result c.args.piece.now ahead.ensures.within)

pub slice_bounds-settle-end-2 : goal.slice_bounds-settle-end-2
slice_bounds-settle-end-2 c =
    sym (length-take-le _ _ (omega (arith, c.join.auto.window, c.requires.unread_len_bound, c.requires.window_len, c.ahead-more.ensures.most)))

pub settle-first-requires : goal.settle-first-requires
settle-first-requires c =
    let ahead = c.ahead-more in
    let join = c.join in
    let u = c.args.unread.now in
    let p = c.args.piece.now in
    let w = c.join.new.window in
    let size : length (take (length u + ahead.result) w) ≡ length u + ahead.result = length-take-le _ w (omega (arith, join.auto.window, c.requires.unread_len_bound, c.requires.window_len, ahead.ensures.most)) in record {
      bytes_bound = omega (arith, size, c.requires.piece_bound, ahead.ensures.within);
      limit_in_bounds = omega (arith, size);
      bytes_len_bound = omega (arith, size, c.requires.piece_len_bound, ahead.ensures.within);
    }

pub returns-then-at-held : goal.returns-then-at-held
returns-then-at-held c =
    let ahead = c.ahead-more in
    let join = c.join in
    let u = c.args.unread.now in
    let p = c.args.piece.now in
    let w = c.join.new.window in
    let size : length (take (length u + ahead.result) w) ≡ length u + ahead.result = length-take-le _ w (omega (arith, join.auto.window, c.requires.unread_len_bound, c.requires.window_len, ahead.ensures.most)) in
    let first = c.settle-first in
    let is = filled u p w ahead.result ahead.ensures.within join.ensures in
    let not_yet = first.ensures.stopped c.if-at-held.true in
    let all = all_of_it u p ahead.result ahead.ensures.within _ is first.result.at c.if-at-held.true ahead.ensures.all not_yet in
    let whole = in_window u p ahead.result ahead.ensures.within _ is first.result.at c.if-at-held.true ahead.ensures.all not_yet in record {
      settles = λ from h. subst (λ (s : List ℕ). Settles s c.args.base from (take first.result.count first.new.found) first.result.at) whole (first.ensures.settles from h);
      counted = first.ensures.counted;
      stopped = ap (λ (s : List ℕ). settled (drop first.result.at s)) (sym whole) ∙ not_yet;
      short = λ h. omega (arith, all, ahead.ensures.most);
      window = λ h. ap (λ (n : ℕ). take (length u + n) w) (sym all) ∙ whole;
    }

pub slice_bounds-settle-count : goal.slice_bounds-settle-count
slice_bounds-settle-count c =
    let ahead = c.ahead-more in
    let join = c.join in
    let u = c.args.unread.now in
    let p = c.args.piece.now in
    let w = c.join.new.window in
    let size : length (take (length u + ahead.result) w) ≡ length u + ahead.result = length-take-le _ w (omega (arith, join.auto.window, c.requires.unread_len_bound, c.requires.window_len, ahead.ensures.most)) in
    let first = c.settle-first in
    let inside = (first.ensures.settles 0 (omega arith)).within in
    omega (arith, size, ahead.ensures.within)

pub slice_bounds-settle-start : goal.slice_bounds-settle-start
slice_bounds-settle-start c =
    let ahead = c.ahead-more in
    let join = c.join in
    let u = c.args.unread.now in
    let p = c.args.piece.now in
    let w = c.join.new.window in
    let size : length (take (length u + ahead.result) w) ≡ length u + ahead.result = length-take-le _ w (omega (arith, join.auto.window, c.requires.unread_len_bound, c.requires.window_len, ahead.ensures.most)) in
    let first = c.settle-first in
    let inside = (first.ensures.settles 0 (omega arith)).within in
    omega (arith, size, ahead.ensures.within)

pub overflow_add-base : goal.overflow_add-base
overflow_add-base c =
    let ahead = c.ahead-more in
    let join = c.join in
    let u = c.args.unread.now in
    let p = c.args.piece.now in
    let w = c.join.new.window in
    let size : length (take (length u + ahead.result) w) ≡ length u + ahead.result = length-take-le _ w (omega (arith, join.auto.window, c.requires.unread_len_bound, c.requires.window_len, ahead.ensures.most)) in
    let first = c.settle-first in
    let inside = (first.ensures.settles 0 (omega arith)).within in
    omega (arith, size, c.requires.piece_bound, ahead.ensures.within)

pub overflow_sub-piece : goal.overflow_sub-piece
overflow_sub-piece c =
    let ahead = c.ahead-more in
    let join = c.join in
    let u = c.args.unread.now in
    let p = c.args.piece.now in
    let w = c.join.new.window in
    let size : length (take (length u + ahead.result) w) ≡ length u + ahead.result = length-take-le _ w (omega (arith, join.auto.window, c.requires.unread_len_bound, c.requires.window_len, ahead.ensures.most)) in
    let first = c.settle-first in
    let inside = (first.ensures.settles 0 (omega arith)).within in
    omega (arith, size, ahead.ensures.within)

pub settle-second-requires : goal.settle-second-requires
settle-second-requires c =
    let ahead = c.ahead-more in
    let join = c.join in
    let u = c.args.unread.now in
    let p = c.args.piece.now in
    let w = c.join.new.window in
    let size : length (take (length u + ahead.result) w) ≡ length u + ahead.result = length-take-le _ w (omega (arith, join.auto.window, c.requires.unread_len_bound, c.requires.window_len, ahead.ensures.most)) in
    let first = c.settle-first in
    let g = first.ensures.settles 0 (omega arith) in
    let k = first.result.at - length u in
    let left : length (take (length p - k) (drop k p)) ≡ length p - k = ap length (behind-all p k) ∙ length-drop k p in
    let n = c.settle-first.result.count in
    let kept = c.settle-first.new.found in
    let lists : length (take (length kept - n) (drop n kept)) ≡ length kept - n = ap length (behind-all kept n) ∙ length-drop n kept in
    let same = c.settle-first.auto.found in record {
      bytes_bound = omega (arith, left, c.requires.piece_bound);
      limit_in_bounds = omega (arith, left);
      bytes_len_bound = omega (arith, left, lists, same, c.requires.piece_len_bound, g.few, length-take-le n kept first.ensures.counted);
    }

pub overflow_add-result : goal.overflow_add-result
overflow_add-result c =
    let ahead = c.ahead-more in
    let join = c.join in
    let u = c.args.unread.now in
    let p = c.args.piece.now in
    let w = c.join.new.window in
    let size : length (take (length u + ahead.result) w) ≡ length u + ahead.result = length-take-le _ w (omega (arith, join.auto.window, c.requires.unread_len_bound, c.requires.window_len, ahead.ensures.most)) in
    let first = c.settle-first in
    let second = c.settle-second in
    let k = first.result.at - length u in
    let left : length (take (length p - k) (drop k p)) ≡ length p - k = ap length (behind-all p k) ∙ length-drop k p in
    omega (arith, (first.ensures.settles 0 (omega arith)).within, (second.ensures.settles 0 (omega arith)).within, left, size, c.requires.piece_bound, ahead.ensures.within)

pub overflow_add-result-2 : goal.overflow_add-result-2
overflow_add-result-2 c =
    let ahead = c.ahead-more in
    let join = c.join in
    let u = c.args.unread.now in
    let p = c.args.piece.now in
    let w = c.join.new.window in
    let size : length (take (length u + ahead.result) w) ≡ length u + ahead.result = length-take-le _ w (omega (arith, join.auto.window, c.requires.unread_len_bound, c.requires.window_len, ahead.ensures.most)) in
    let first = c.settle-first in
    let second = c.settle-second in
    omega (arith, first.ensures.counted, second.ensures.counted)

pub returns : goal.returns
returns c =
    let ahead = c.ahead-more in
    let join = c.join in
    let u = c.args.unread.now in
    let p = c.args.piece.now in
    let w = c.join.new.window in
    let size : length (take (length u + ahead.result) w) ≡ length u + ahead.result = length-take-le _ w (omega (arith, join.auto.window, c.requires.unread_len_bound, c.requires.window_len, ahead.ensures.most)) in
    let first = c.settle-first in
    let is = filled u p w ahead.result ahead.ensures.within join.ensures in
    let second = c.settle-second in
    let past = c.if-at-held.false in
    let at = c.settle-first.result.at in
    let k = at - length u in
    let n = c.settle-first.result.count in
    let kept = c.settle-first.new.found in
    let part = c.settle-second.new.found in
    let slice : take (length p - k) (drop k p) ≡ drop k p = behind-all p k in
    let both = sym (part-kept n second.result.count kept part _ first.ensures.counted second.ensures.counted) in
    let base = c.args.base in record {
      settles = λ from h.
          let g = first.ensures.settles from h in
          let last = last_within from (take n kept) (base + at) g.inside in
          subst (λ (es : List FrameAt). Settles (u ++ p) base from es (at + second.result.at)) both
          (on_in_piece u p ahead.result ahead.ensures.within _ is at past g
          (subst (λ (s : List ℕ). Settles s (base + at) (last_end from (take n kept)) (take second.result.count part) second.result.at) slice (second.ensures.settles _ last)));
      counted = kept_count kept part _ n second.result.count first.ensures.counted second.ensures.counted;
      stopped = stopped_in_piece u p ahead.result ahead.ensures.within _ is at past
          (omega (arith, (second.ensures.settles 0 (omega arith)).within, ap length slice))
          (λ h. ap (λ (s : List ℕ). settled (drop second.result.at s)) (sym slice) ∙ second.ensures.stopped (omega (arith, length-drop k p)));
      short = λ h. let z : ⊥ = omega (arith, past) in absurd z;
      window = λ h. let z : ⊥ = omega (arith, past) in absurd z;
    }
