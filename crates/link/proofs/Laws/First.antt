-- The frame that starts a byte string. Assumes nothing.
use mathlib.Core.Path.{◌≡◌, refl, sym, ap, ◌∙◌}
use mathlib.Core.List.{List, ◌++◌}
use Prim.Native.Nat.{ℕ, min, ◌+◌, ◌<◌, ◌≤◌}
use native.Mathlib.Omega.{arith}
use lib.ListN.{length, get_or, take, length-take}
use lib.Seq.{get_or-take, take-take, take-length, take_at}
use Rattle.answer.specs.Answer.{accepted}
use Rattle.link.specs.Frame.{Frame, read_frame, read_first, write_frame, size}
use Rattle.link.proofs.Laws.RoundTrip.{read_after_write}
use Rattle.link.proofs.Laws.Whole.{Whole, whole, counted, few}

-- what is known of the bytes where a frame starts
pub record Starting (s : List ℕ) (f : Frame) : Type 0 where
  pub start : get_or s 0 0 ≡ 0x5A
  pub sized : size f ≡ get_or s 1 0 + 4
  pub inside : size f ≤ length s
  pub least : 5 ≤ size f
  pub most : size f ≤ 69
  pub whole : read_frame (take (size f) s) ≡ accepted f
  pub kind : (bound : ℕ) → ((i : ℕ) → get_or s i 0 < bound) → f.kind < bound

pub starting : (s : List ℕ) (f : Frame) → read_first s ≡ accepted f → Starting s f
unfolding read_first
starting s f e =
    let n = get_or s 1 0 + 4 in
    let w : Whole (take n s) f = whole (take n s) f e in
    let c : size f ≡ length (take n s) = counted (take n s) f e in
    let l : get_or (take n s) 1 0 ≡ get_or s 1 0 = get_or-take n s 1 0 (omega arith) in
    let t : length (take n s) ≡ min n (length s) = length-take n s in
    let all : size f ≡ n = omega (arith, w.whole) in
    let type-byte : f.kind ≡ get_or s 2 0 = ap (λ (g : Frame). g.kind) w.is ∙ get_or-take n s 2 0 (omega arith) in
    record {
      start = sym (get_or-take n s 0 0 (omega arith)) ∙ w.start;
      sized = all;
      inside = omega arith;
      least = omega arith;
      most = omega (arith, few (take n s) f e);
      whole = ap (λ (k : ℕ). read_frame (take k s)) all ∙ e;
      kind = λ bound small. omega (arith, small 2);
    }

-- a frame of any length that starts a byte string is the one that the length byte names
pub only_one : (s : List ℕ) (n : ℕ) (f : Frame) → read_frame (take n s) ≡ accepted f → read_first s ≡ accepted f
unfolding read_first
only_one s n f e =
    let w : Whole (take n s) f = whole (take n s) f e in
    let t : length (take n s) ≡ min n (length s) = length-take n s in
    let l : get_or (take n s) 1 0 ≡ get_or s 1 0 = get_or-take n s 1 0 (omega (arith, w.whole)) in
    let m : get_or s 1 0 + 4 ≡ length (take n s) = omega (arith, w.whole) in
    ap (λ (k : ℕ). read_frame (take k s)) m
    ∙ ap read_frame (sym (take-take (length (take n s)) n s (omega arith)) ∙ take-length (take n s))
    ∙ e

-- what is written is the frame that starts it, whatever follows
pub first_after_write : (kind : ℕ) (bytes s rest : List ℕ) → write_frame kind bytes ≡ accepted s → read_first (s ++ rest) ≡ accepted (record { kind = kind; bytes = bytes })
first_after_write kind bytes s rest e =
    only_one (s ++ rest) (length s) (record { kind = kind; bytes = bytes })
    (ap read_frame (take_at s rest (length s) refl) ∙ read_after_write kind bytes s e)
