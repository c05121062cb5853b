use Rattle.std.proofs.Common.{◌≡◌, ℕ, ◌+◌, ◌-◌, ◌≤◌, List, ◌++◌, rules, length, take, drop, sym, ap, ◌∙◌, subst, le_refl, drop_at, length-take-le}
use Rattle.std.proofs.lemmas.Slice.{take-put_mid_below}
use Rattle.std.specs.Io.KnownBytes.{Consumes}
use Rattle.std.proofs.KnownBytes.{Consumes-trans}
use Rattle.std.proofs.lemmas.List.{take-append-le}
use borrow.Rule.Slice.PartMut.{put_mid, post_of}
use lib.Seq.{take-add}
use Rattle.input.proofs.read_full.Goals as goal

-- what is read stands behind what was there
put_behind : (a n : ℕ) (old ys : List ℕ) → a ≤ length old → n ≤ length ys
    → take (a + n) (put_mid a (length old - a) old ys) ≡ take a old ++ take n ys
put_behind a n old ys within fits =
    let k = length old - a in
    let after = post_of a k old in
    take-add a n (put_mid a k old ys)
    ∙ ap (λ l. l ++ take n (drop a (put_mid a k old ys))) (take-put_mid_below _ _ _ _ _ (le_refl _) within)
    ∙ ap (λ l. take a old ++ take n l) (drop_at (take a old) (ys ++ after) a (length-take-le a old within))
    ∙ ap (λ l. take a old ++ l) (take-append-le n ys after fits)

pub loop-done-preserved : goal.loop-done-preserved
loop-done-preserved g c =
    let read = c.read_once-n.ensures in (
      search rules,
      search rules,
      subst (Consumes _ _) (sym (put_behind _ _ _ _ c.loop-done.invariant.1 read.count.0))
          (Consumes-trans _ _ _ _ _ c.loop-done.invariant.2 read.bytes),
    )
