-- A message in its frame, by what the frame reader hands back. Assumes nothing.
use mathlib.Core.Path.{◌≡◌, refl, sym, ap, ◌∙◌}
use mathlib.Core.Bool.{Bool, not}
use mathlib.Core.List.{List}
use Prim.Native.Nat.{ℕ}
use lib.Dec.{eqb}
use lib.ListN.{length}
use borrow.Author.Tests.{eq-eqb, ne_eqb}
use Rattle.answer.specs.Answer.{Outcome, refused, accepted, refuse_if, and_then, on_accepted, in_room, out_after}
use Rattle.link.specs.Frame.{Frame, header, read_frame, data_part}
use Rattle.link.specs.declared.frame.Header.{Header}
use Rattle.link.proofs.Laws.Whole.{data_part_lem}
use Rattle.message.specs.Typed.{write_counted}
use Rattle.message.specs.declared.message.Message.{Message as Counted}
use Rattle.message.proofs.Laws.Checked.{was_accepted, was_refused}

-- what is done of the frame that was read is done of its kind and its data part
module _ (s : List ℕ) (o : Outcome Frame) (was_read : (f : Frame) → o ≡ accepted f → read_frame s ≡ accepted f) where
  pub framed : {A : Type 0} (h : Header) (g : ℕ → List ℕ → Outcome A) → accepted h ≡ on_accepted header o
      → and_then o (λ f. g f.kind f.bytes) ≡ g h.kind (data_part s h.count)
  framed h g e =
      let w = was_accepted header o h e in
      let f = w.0 in
      ap (λ (x : Outcome Frame). and_then x (λ f. g f.kind f.bytes)) w.1
      ∙ ap (g f.kind) (sym (data_part_lem s f (was_read f w.1)))
      ∙ ap (λ (h : Header). g h.kind (data_part s h.count)) (sym w.2)

pub unframed : {A : Type 0} (o : Outcome Frame) (m : ℕ) (g : Frame → Outcome A) → refused m ≡ on_accepted header o → and_then o g ≡ refused m
unframed o m g e = ap (λ (x : Outcome Frame). and_then x g) (was_refused header o m e)

-- the data part of a frame that was read has as many bytes as its header says
pub part_length : (s : List ℕ) (h : Header) → accepted h ≡ on_accepted header (read_frame s) → length (data_part s h.count) ≡ h.count
part_length s h e =
    let w = was_accepted header (read_frame s) h e in
    let count : h.count ≡ length w.0.bytes = ap (λ (x : Header). x.count) w.2 in
    ap (λ (m : ℕ). length (data_part s m)) count ∙ ap length (data_part_lem s w.0 w.1) ∙ sym count

-- what a call below leaves is what the call above leaves, where their outcomes are the same
pub leaves_same : (o below : Outcome (List ℕ)) (old final : List ℕ) (w : Outcome ℕ) → o ≡ below
    → w ≡ on_accepted length below → final ≡ out_after below old → (w ≡ on_accepted length o) × (final ≡ out_after o old)
leaves_same o below old final w e a f =
    (a ∙ sym (ap (on_accepted length) e), f ∙ sym (ap (λ (x : Outcome (List ℕ)). out_after x old) e))

-- of a typed message, by its case
pub leaves_same_case : (room : ℕ) (m case : Counted) (items old final : List ℕ) (w : Outcome ℕ) → m ≡ case
    → w ≡ on_accepted length (in_room room (write_counted case items)) → final ≡ out_after (in_room room (write_counted case items)) old
    → (w ≡ on_accepted length (in_room room (write_counted m items))) × (final ≡ out_after (in_room room (write_counted m items)) old)
leaves_same_case room m case items old final w is a f =
    leaves_same (in_room room (write_counted m items)) (in_room room (write_counted case items)) old final w
    (ap (λ (x : Counted). in_room room (write_counted x items)) is) a f

pub leaves_nothing : (o : Outcome (List ℕ)) (old : List ℕ) (n : ℕ) → o ≡ refused n
    → (refused n ≡ on_accepted length o) × (old ≡ out_after o old)
leaves_nothing o old n e = leaves_same o (refused n) old old (refused n) e refl refl

-- behind a check that a number is the one asked for, else n
module _ (room a b n : ℕ) (later : Outcome (List ℕ)) (old : List ℕ) where
  abbrev checked : Outcome (List ℕ)
  checked = in_room room (refuse_if (not (eqb a b)) n later)

  pub leaves_another : (a ≡ b → ⊥) → (refused n ≡ on_accepted length checked) × (old ≡ out_after checked old)
  leaves_another h = leaves_nothing checked old n (ap (λ (t : Bool). in_room room (refuse_if (not t) n later)) (ne_eqb a b h))

  pub leaves_equal : (final : List ℕ) (w : Outcome ℕ) → a ≡ b → w ≡ on_accepted length (in_room room later) → final ≡ out_after (in_room room later) old
      → (w ≡ on_accepted length checked) × (final ≡ out_after checked old)
  leaves_equal final w h = leaves_same checked (in_room room later) old final w (ap (λ (t : Bool). in_room room (refuse_if (not t) n later)) (eq-eqb a b h))
