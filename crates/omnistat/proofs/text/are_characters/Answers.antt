use mathlib.Core.Path.{sym, ap, ◌∙◌}
use mathlib.Core.Bool.{Bool, ◌&&◌, and-true, and_assoc}
use Prim.Native.Nat.{◌+◌}
use lib.ListN.{get_or, drop}
use Rattle.omnistat.specs.Text.{is_character, are_characters}
use Rattle.omnistat.proofs.Laws.Text.{characters_next, no_more_characters}
use Rattle.omnistat.proofs.text.are_characters.Goals as goal

pub loop-b-preserved : goal.loop-b-preserved
loop-b-preserved c =
    let s = c.args.bytes.now in
    let i = c.loop-b.b-index in
    let all = c.loop-b.all in
    c.loop-b.invariant
    ∙ ap (λ (b : Bool). all && b) (characters_next s i c.loop-b-test.true)
    ∙ sym (and_assoc all (is_character (get_or s i 0)) (are_characters (drop (i + 1) s)))
    ∙ ap (λ (b : Bool). (all && b) && are_characters (drop (i + 1) s)) (sym c.is_character-all.ensures)

pub returns : goal.returns
returns c =
    let s = c.args.bytes.now in
    let all = c.loop-b.all in
    sym (c.loop-b.invariant ∙ ap (λ (b : Bool). all && b) (no_more_characters s c.loop-b.b-index c.loop-b-test.false) ∙ and-true all)
