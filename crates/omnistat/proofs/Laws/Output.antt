-- What a writer leaves in the lent output: a message's bytes, and the sum after them. Assumes nothing.
use mathlib.Core.Path.{◌≡◌, refl, sym, ap, ◌∙◌, subst}
use mathlib.Core.List.{List, ◌++◌}
use Prim.Native.Nat.{ℕ, ◌+◌, ◌<◌, ◌≤◌}
use native.Mathlib.Omega.{arith}
use lib.ListN.{length, drop, set, length-append}
use lib.Seq.{paste}
use Rattle.std.proofs.lemmas.List.Edits.{paste-paste, paste_all}
use Rattle.answer.specs.Answer.{Outcome, refused, accepted, in_room, out_after, on_accepted}
use Rattle.answer.proofs.Laws.Output.{begun, put_next, no_room, with_room}
use Rattle.omnistat.specs.Frame.{framed, sum_of, summed, bytes_of}

-- bytes put at the start, then others behind them
pub placed : (h p old : List ℕ) → length h + length p ≤ length old → paste (paste old 0 h (length h)) (length h) p (length p) ≡ begun (h ++ p) old
placed h p old room =
    let at : length h ≡ 0 + length h = omega arith in
    let n : length h + length p ≡ length (h ++ p) = sym (length-append h p) in
    let all : 0 + (length h + length p) ≡ length (h ++ p) = omega (arith, n) in
    ap (λ (k : ℕ). paste (paste old 0 h (length h)) k p (length p)) at
    ∙ paste-paste old 0 h p (length h) (length p) refl refl (omega arith)
    ∙ paste_all old 0 (h ++ p) (length h + length p) n
    ∙ ap (λ (k : ℕ). (h ++ p) ++ drop k old) all

pub bytes_length : (first kind : ℕ) (p : List ℕ) → length (bytes_of (framed first kind p)) ≡ length p + 3
unfolding bytes_of
bytes_length first kind p = simp length-append (omega arith)

-- a writer that refuses, and one that goes by another's outcome
module _ (old : List ℕ) where
  abbrev pub Leaves : Outcome (List ℕ) → Outcome ℕ → List ℕ → Type 0
  Leaves o answer after = (answer ≡ on_accepted length (in_room (length old) o)) × (after ≡ out_after (in_room (length old) o) old)

  pub leaves_refused : (o : Outcome (List ℕ)) (n : ℕ) → o ≡ refused n → Leaves o (refused n) old
  leaves_refused o n e = (
    ap (λ (p : Outcome (List ℕ)). on_accepted length (in_room (length old) p)) (sym e),
    ap (λ (p : Outcome (List ℕ)). out_after (in_room (length old) p) old) (sym e),
  )

  pub leaves_same : (o p : Outcome (List ℕ)) (answer : Outcome ℕ) (after : List ℕ) → o ≡ p → Leaves p answer after → Leaves o answer after
  leaves_same o p answer after e h = subst (λ (q : Outcome (List ℕ)). Leaves q answer after) (sym e) h

  -- a message's earlier bytes: no room for the sum, or the sum after them
  module _ (earlier : List ℕ) where
    summed-length : length (summed earlier) ≡ length earlier + 1
    summed-length = simp length-append

    pub leaves_no_room : length old ≤ length earlier → Leaves (accepted (summed earlier)) (refused 9) old
    leaves_no_room h =
        let e : in_room (length old) (accepted (summed earlier)) ≡ refused 9
        = no_room (length old) (summed earlier) (omega (arith, summed-length)) in
        (ap (on_accepted length) (sym e), ap (λ (o : Outcome (List ℕ)). out_after o old) (sym e))

    pub leaves_summed : (last s : ℕ) (after : List ℕ) → last ≡ length earlier → s ≡ sum_of earlier → last < length old
        → after ≡ begun earlier old → Leaves (accepted (summed earlier)) (accepted (last + 1)) (set after last s)
    leaves_summed last s after n t h b =
        let l : length earlier < length old = omega arith in
        let w : last + 1 ≡ length (summed earlier) = omega (arith, summed-length) in
        let e : in_room (length old) (accepted (summed earlier)) ≡ accepted (summed earlier)
        = with_room (length old) (summed earlier) (omega (arith, summed-length)) in (
          ap accepted w ∙ ap (on_accepted length) (sym e),
          ap (λ (x : List ℕ). set x last s) b
              ∙ ap (λ (k : ℕ). set (begun earlier old) k s) n
              ∙ ap (set (begun earlier old) (length earlier)) t
              ∙ put_next earlier old (sum_of earlier) l
              ∙ ap (λ (o : Outcome (List ℕ)). out_after o old) (sym e),
        )
