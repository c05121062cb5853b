use Prim.Native.Nat.{ℕ}
use lib.ListN.{length, drop}
use mathlib.Core.List.{List, ◌++◌}
use mathlib.Core.Path.{sym, ap, ◌∙◌}
use Rattle.capture.proofs.Laws.{refusal}
use Rattle.capture.proofs.put_refusal.Goals as goal

pub returns : goal.returns
returns c = record {
  value = ap length (sym refusal);
  out_after = ap (λ (x : List ℕ). x ++ drop 10 c.args.out.now) c.copy_from_slice.ensures.after
      ∙ ap (λ (x : List ℕ). x ++ drop (length x) c.args.out.now) (sym refusal);
}
