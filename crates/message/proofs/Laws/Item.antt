-- Whole messages by their headers, and their items in the part of the caller's slice that holds the data bytes. Assumes nothing.
use mathlib.Core.Path.{◌≡◌, refl, sym, ap, ap₂, ◌∙◌}
use mathlib.Core.Bool.{not}
use mathlib.Core.List.{List}
use Prim.Native.Nat.{ℕ}
use lib.Dec.{eqb}
use lib.ListN.{length}
use borrow.Author.Tests.{eqb-true}
use Rattle.answer.specs.Answer.{Outcome, refused, accepted, refuse_if, and_then, on_accepted}
use Rattle.answer.proofs.Laws.Test.{same, passed_not, then_accepted, not_accepted}
use Rattle.link.specs.Frame.{Frame, header, read_frame, data_part}
use Rattle.link.specs.declared.frame.Header.{Header}
use Rattle.message.specs.Message.{Message, message_of, with_data, read_message}
use Rattle.message.specs.Item.{frame_of, item_of}
use Rattle.message.specs.Log.{read_log, log_of, log_listed}
use Rattle.message.specs.Parts.{nothing, message_header}
use Rattle.message.proofs.Laws.Accepts.{every_log}
use Rattle.message.proofs.Laws.Checked.{was_accepted, was_refused, behind_check}
use Rattle.message.proofs.Laws.Framed.{framed, unframed}

-- a frame of a type
abbrev of_kind : ℕ → Frame → Outcome Frame
of_kind wanted g = refuse_if (not (eqb g.kind wanted)) 8 (accepted g)

module _ (s : List ℕ) where
  -- the header of a whole message, from what the frame reader hands back and what the check says of the data bytes
  pub header_unread : (n : ℕ) → refused n ≡ on_accepted header (read_frame s) → refused n ≡ message_header s
  unfolding message_header read_message
  header_unread n read =
      ap (λ (x : Outcome Frame). and_then (and_then x (λ f. message_of f.kind f.bytes)) (λ m. on_accepted header x))
      (sym (was_refused header (read_frame s) n read))

  module _ (h : Header) (read : accepted h ≡ on_accepted header (read_frame s)) (d : List ℕ) (part : d ≡ data_part s h.count) where
    read_data : read_message s ≡ message_of h.kind d
    unfolding read_message
    read_data = framed s (read_frame s) (λ f q. q) h message_of read ∙ sym (ap (message_of h.kind) part)

    pub header_unchecked : (n : ℕ) → refused n ≡ on_accepted nothing (message_of h.kind d) → refused n ≡ message_header s
    unfolding message_header
    header_unchecked n e =
        ap (λ (o : Outcome Message). and_then o (λ m. on_accepted header (read_frame s))) (sym (read_data ∙ was_refused nothing (message_of h.kind d) n e))

    pub header_checked : accepted tt ≡ on_accepted nothing (message_of h.kind d) → accepted h ≡ message_header s
    unfolding message_header
    header_checked e =
        read
        ∙ ap (λ (o : Outcome Message). and_then o (λ m. on_accepted header (read_frame s))) (sym (read_data ∙ (was_accepted nothing (message_of h.kind d) tt e).1))

  -- and what the header says of the message
  pub not_headed : (n : ℕ) → refused n ≡ message_header s → read_message s ≡ refused n
  unfolding message_header read_message
  not_headed n e = by (read_frame s) (λ f. message_of f.kind f.bytes) e
    where
      by : (o : Outcome Frame) (g : Frame → Outcome Message) → refused n ≡ and_then (and_then o g) (λ m. on_accepted header o) → and_then o g ≡ refused n
      by (refused k) g e = let same : n ≡ k = cc in ap refused (sym same)
      by (accepted f) g e = behind (g f) e
        where
          behind : (p : Outcome Message) → refused n ≡ and_then p (λ m. on_accepted header (accepted f)) → p ≡ refused n
          behind (refused k) e = let same : n ≡ k = cc in ap refused (sym same)
          behind (accepted m) e = absurd (not_accepted n (header f) e)

  module _ (h : Header) (headed : accepted h ≡ message_header s) where
    its_message : (m : Message) × (read_message s ≡ accepted m) × (on_accepted header (read_frame s) ≡ accepted h)
    unfolding message_header
    its_message = then_accepted (read_message s) (λ m. on_accepted header (read_frame s)) h (sym headed)

    pub header_read : accepted h ≡ on_accepted header (read_frame s)
    header_read = sym its_message.2

    pub message_headed : read_message s ≡ message_of h.kind (data_part s h.count)
    message_headed = read_data h header_read (data_part s h.count) refl

    pub headed_taken : (m : Message) × (message_of h.kind (data_part s h.count) ≡ accepted m)
    headed_taken = (its_message.0, sym message_headed ∙ its_message.1)

module _ (wanted : ℕ) (s : List ℕ) where
  -- the header of a message of a type, from the header of a message
  pub header_of_type : and_then (message_header s) (λ h. refuse_if (not (eqb h.kind wanted)) 8 (accepted h)) ≡ on_accepted header (frame_of wanted s)
  unfolding message_header frame_of
  header_of_type = by (read_message s) (read_frame s)
    where
      by : (p : Outcome Message) (o : Outcome Frame)
          → and_then (and_then p (λ m. on_accepted header o)) (λ h. refuse_if (not (eqb h.kind wanted)) 8 (accepted h))
          ≡ on_accepted header (and_then p (λ m. and_then o (of_kind wanted)))
      by (refused n) o = refl
      by (accepted m) (refused n) = refl
      by (accepted m) (accepted f) = sym (behind_check header (not (eqb f.kind wanted)) 8 (accepted f))

  -- the frame of a message of a type is the frame that was read
  was_read : (f : Frame) → frame_of wanted s ≡ accepted f → read_frame s ≡ accepted f
  unfolding frame_of
  was_read f e =
      let m = then_accepted (read_message s) (λ m. and_then (read_frame s) (of_kind wanted)) f e in
      let g = then_accepted (read_frame s) (of_kind wanted) f m.2 in
      g.1 ∙ (passed_not (eqb g.0.kind wanted) 8 (accepted g.0) f g.2).1

  -- an accepted header of a type is that of a message of that type, in the data part
  pub item_carried : (h : Header) → accepted h ≡ on_accepted header (frame_of wanted s) → (m : Message) × (message_of wanted (data_part s h.count) ≡ accepted m)
  item_carried h e =
      let r = then_accepted (message_header s) (λ h. refuse_if (not (eqb h.kind wanted)) 8 (accepted h)) h (header_of_type ∙ sym e) in
      let q = passed_not (eqb r.0.kind wanted) 8 (accepted r.0) h r.2 in
      let t = headed_taken s r.0 (sym r.1) in
      let kind : r.0.kind ≡ wanted = eqb-true r.0.kind wanted q.0 in
      (t.0, ap₂ message_of (sym kind) (ap (λ (x : Header). data_part s x.count) (sym (same q.1))) ∙ t.1)

-- what an item call answers, from the header and from what is found in the data part
module _ {A : Type 0} (wanted : ℕ) (look : List ℕ → Outcome A) (s : List ℕ) where
  pub item_found : (h : Header) (d : List ℕ) (answer : Outcome A) → accepted h ≡ on_accepted header (frame_of wanted s) → d ≡ data_part s h.count
      → answer ≡ look d → answer ≡ item_of wanted look s
  unfolding item_of
  item_found h d answer headed part e =
      e ∙ ap look part
      ∙ sym (framed s (frame_of wanted s) (was_read wanted s) h (λ _ x. look x) headed)

  pub item_refused : (n : ℕ) → refused n ≡ on_accepted header (frame_of wanted s) → refused n ≡ item_of wanted look s
  unfolding item_of
  item_refused n headed = sym (unframed (frame_of wanted s) n (λ f. look f.bytes) headed)

-- data bytes that carry a log entry
pub log_taken : (d : List ℕ) (m : Message) → message_of 0x0E d ≡ accepted m → (length d ≡ 10) × (read_log d ≡ accepted (log_of d))
unfolding message_of with_data read_log
log_taken d m =
    every_log (λ _. (length d ≡ 10) × (read_log d ≡ accepted (log_of d))) d (λ e r.
    let p = passed_not (eqb (length d) 10) 7 (refuse_if (not (log_listed (log_of d))) 8 (accepted (log_of d))) e r in
    let q = passed_not (log_listed (log_of d)) 8 (accepted (log_of d)) e p.1 in
    (eqb-true (length d) 10 p.0, r ∙ sym q.1)) m
