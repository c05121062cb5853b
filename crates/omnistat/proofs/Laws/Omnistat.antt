-- Reading and writing at both ends undo each other, whatever is known there: with either habit, after each poll. Assumes nothing.
use mathlib.Core.Path.{◌≡◌, refl, sym, ap, ◌∙◌, subst}
use mathlib.Core.Bool.{Bool, true, false, not, ◌&&◌}
use mathlib.Core.List.{List, [], ◌∷◌, ◌++◌}
use mathlib.Core.Logic.{⊎_elim}
use Prim.Native.Nat.{ℕ, ◌+◌, ◌*◌, ◌≤◌, ◌<◌}
use native.Mathlib.Omega.{arith}
use lib.Dec.{leb, T}
use lib.ListN.{length}
use lib.Pow.{are_bytes}
use borrow.Author.Tests.{leb-true, leb-false}
use Rattle.answer.specs.Answer.{Outcome, refused, accepted, refuse_if, on_accepted, and_then}
use Rattle.omnistat.specs.declared.frame.End.{End}
use Rattle.omnistat.specs.declared.frame.End.TheVariants.{Thermostat, Host}
use Rattle.omnistat.specs.Register.{is_text}
use Rattle.omnistat.specs.Frame.{Frame, frame, directed, address_of, first_of, bytes_of, summed}
use Rattle.omnistat.specs.Message.{Counted, Known, as_message_by, body_by, is_polled}
use Rattle.omnistat.specs.Text.{Text, are_characters, text_type, carries_text, read_text, write_text, text_allowed, text_bytes}
use Rattle.omnistat.specs.Omnistat.{Message, counted, text, Addressed, addressed, addressed_counted, addressed_text, read_counted_by, read_by, bytes_to, sent, write_bytes_by, write_by}
use Rattle.omnistat.specs.Parts.{passed}
use Rattle.answer.proofs.Laws.Test.{same, passed_not, then_accepted, on_accepted_lem, still_refused, chosen}
use Rattle.omnistat.proofs.Laws.Frame.{taken_apart, read_back}
use Rattle.omnistat.proofs.Laws.Message.{too_low, too_high, inside, within_both, and_parts}
use Rattle.omnistat.proofs.Laws.Typed.{told, kind_fits, again}
use Rattle.omnistat.proofs.Laws.Text.{no_text, text_carried, text_read_back, text_taken_apart, text_fits}

-- reading, by the type and the third byte, and by the frame
module _ (end : End) (known : Known end) (s : List ℕ) where
  pub read-counted : carries_text end s ≡ false → read_by end known s ≡ read_counted_by end known s
  unfolding read_by
  read-counted e = simp e

  pub read_text_lem : carries_text end s ≡ true → read_by end known s ≡ on_accepted (addressed_text end) (read_text end s)
  unfolding read_by
  read_text_lem e = simp e

  pub counted-refused : (n : ℕ) → refused n ≡ frame end s → read_counted_by end known s ≡ refused n
  unfolding read_counted_by
  counted-refused n e = rw (← e)

  pub counted_whole : (f : Frame) → accepted f ≡ frame end s
      → read_counted_by end known s ≡ on_accepted (addressed_counted end (address_of end f.first)) (as_message_by end known f.kind f.payload)
  unfolding read_counted_by
  counted_whole f e = rw (← e)

-- the first byte and the address name one another
pub from_host : (s : List ℕ) (f : Frame) → accepted f ≡ frame Host s → 0x80 ≤ f.first
from_host s f e =
    let p = within_both 129 255 f.first (taken_apart Host s f (sym e)).0 in
    omega (arith, p.0)

-- a reply has a first byte of the host's where its number is 01 to 7F
module _ (number : ℕ) where
  pub number_too_low : number < 1 → directed Host (first_of Host number) ≡ false
  number_too_low h = let l : number + 128 < 129 = omega arith in too_low 129 255 (number + 128) l

  pub as_number : 1 ≤ number → leb number 127 ≡ directed Host (first_of Host number)
  as_number h = go (leb number 127) refl
    where
      go : (t : Bool) → leb number 127 ≡ t → t ≡ directed Host (first_of Host number)
      go true e =
          let l : 129 ≤ number + 128 = omega arith in
          let m : number + 128 ≤ 255 = omega (arith, leb-true number 127 e) in
          sym (inside 129 255 (number + 128) l m)
      go false e =
          let l : 255 < number + 128 = omega (arith, leb-false number 127 e) in
          sym (too_high 129 255 (number + 128) l)

address_of_first : (end : End) (a : ℕ) → address_of end (first_of end a) ≡ a
address_of_first Thermostat a = refl
address_of_first Host a = omega arith

first_of_address : (end : End) (first : ℕ) → directed end first ≡ true → first_of end (address_of end first) ≡ first
first_of_address Thermostat first e = refl
first_of_address Host first e =
    let p = within_both 129 255 first e in
    omega (arith, p.0)

-- what is written for a type and data bytes is read as the message that they name
pub read_after_sent : (end : End) (known : Known end) (polled : Bool) (address kind : ℕ) (payload bytes : List ℕ)
    → sent end known polled address kind payload ≡ accepted bytes
    → (c : Counted end) × (as_message_by end known kind payload ≡ accepted c) × (read_by end known bytes ≡ accepted (addressed_counted end address c)) × (polled ≡ true)
unfolding sent
read_after_sent end known polled address kind payload bytes e =
    let f : Frame = record { first = first_of end address; kind = kind; payload = payload } in
    let p = then_accepted (as_message_by end known kind payload) (λ m. refuse_if (not polled) 8 (bytes_to end address kind payload)) bytes e in
    let o = passed_not polled 8 (bytes_to end address kind payload) bytes p.2 in
    let q = passed_not (directed end (first_of end address)) 8 (accepted (bytes_of f)) bytes o.1 in
    let k : kind < 16 = subst (λ (n : ℕ). n < 16) (told end known kind payload p.0 p.1).0 (kind_fits end known p.0) in
    let r =
    ap (read_by end known) (sym (same q.1))
    ∙ read-counted end known (bytes_of f) (no_text end known (first_of end address) kind payload p.0 k p.1)
    ∙ counted_whole end known (bytes_of f) f (sym (read_back end f q.0 k))
    ∙ ap (λ (a : ℕ). on_accepted (addressed_counted end a) (as_message_by end known kind payload)) (address_of_first end address) in
    (p.0, p.1, r ∙ ap (on_accepted (addressed_counted end address)) p.1, o.0)

pub read_after_write_bytes : (end : End) (known : Known end) (address kind : ℕ) (payload bytes : List ℕ) → write_bytes_by end known address kind payload ≡ accepted bytes
    → (c : Counted end) × (as_message_by end known kind payload ≡ accepted c) × (read_by end known bytes ≡ accepted (addressed_counted end address c))
read_after_write_bytes end known address kind payload bytes e =
    let r = read_after_sent end known true address kind payload bytes e in
    (r.0, r.1, r.2)

-- a text that is written is read back as the same text
text_after_write : (end : End) (known : Known end) (address : ℕ) (t : Text) (bytes : List ℕ) → write_text end address t ≡ accepted bytes
    → read_by end known bytes ≡ accepted (addressed address (text t))
unfolding write_text
text_after_write end known address t bytes e =
    let first = first_of end address in
    let p = passed_not (directed end first && text_allowed t) 8 (accepted (text_bytes end first t)) bytes e in
    let q = and_parts (directed end first) (text_allowed t) p.0 in
    ap (read_by end known) (sym (same p.1))
    ∙ read_text_lem end known (text_bytes end first t) (text_carried end first t q.1)
    ∙ ap (on_accepted (addressed_text end)) (text_read_back end first t q.0 q.1)
    ∙ ap (λ (a : ℕ). accepted (addressed a (text t))) (address_of_first end address)

-- what is written is read back as the same message
pub read_after_write : (end : End) (known : Known end) (address : ℕ) (m : Message end) (bytes : List ℕ) → write_by end known address m ≡ accepted bytes
    → read_by end known bytes ≡ accepted (addressed address m)
read_after_write end known address (counted c) bytes e =
    let r = read_after_sent end known (is_polled end known c) address (body_by end known c).kind (body_by end known c).payload bytes e in
    r.2 ∙ ap (λ (x : Counted end). accepted (addressed_counted end address x)) (sym (again end known c r.0 r.3 r.1))
read_after_write end known address (text t) bytes e = text_after_write end known address t bytes e

-- the bytes of a frame are written for its type and data bytes, where these name a message
written_again : (end : End) (known : Known end) (f : Frame) (m : Counted end) → as_message_by end known f.kind f.payload ≡ accepted m → directed end f.first ≡ true
    → write_bytes_by end known (address_of end f.first) f.kind f.payload ≡ accepted (bytes_of f)
unfolding sent
written_again end known f m e d =
    simp (e, ap (directed end) (first_of_address end f.first d) ∙ d)
    (ap (λ (first : ℕ). accepted (bytes_of (record { first = first; kind = f.kind; payload = f.payload }))) (first_of_address end f.first d))

-- a counted message that is read is written as the same bytes
counted_after_read : (end : End) (known : Known end) (address : ℕ) (m : Message end) (bytes : List ℕ) → read_counted_by end known bytes ≡ accepted (addressed address m)
    → write_by end known address m ≡ accepted bytes
unfolding read_counted_by
counted_after_read end known address m bytes e =
    let p =
    then_accepted (frame end bytes) (λ f. on_accepted (addressed_counted end (address_of end f.first)) (as_message_by end known f.kind f.payload))
    (addressed address m) e in
    let f : Frame = p.0 in
    let q = on_accepted_lem (addressed_counted end (address_of end f.first)) (as_message_by end known f.kind f.payload) (addressed address m) p.2 in
    let t = taken_apart end bytes f p.1 in
    let n = told end known f.kind f.payload q.0 q.1 in
    let a : address_of end f.first ≡ address = ap (λ (x : Addressed (Message end)). x.address) q.2 in
    let g : counted q.0 ≡ m = ap (λ (x : Addressed (Message end)). x.message) q.2 in
    ap (λ (x : Message end). write_by end known address x) (sym g)
    ∙ ap (λ (b : Bool). sent end known b address (body_by end known q.0).kind (body_by end known q.0).payload) n.1.2
    ∙ ap (λ (i : ℕ). write_bytes_by end known i (body_by end known q.0).kind (body_by end known q.0).payload) (sym a)
    ∙ ap (λ (k : ℕ). write_bytes_by end known (address_of end f.first) k (body_by end known q.0).payload) n.0
    ∙ ap (λ (d : List ℕ). write_bytes_by end known (address_of end f.first) f.kind d) n.1.0
    ∙ written_again end known f q.0 q.1 t.0
    ∙ ap accepted t.2

-- a text that is read is written as the same bytes, with the same half-byte
text_after_read : (end : End) (known : Known end) (address : ℕ) (m : Message end) (bytes : List ℕ) → T (are_bytes bytes) → carries_text end bytes ≡ true
    → on_accepted (addressed_text end) (read_text end bytes) ≡ accepted (addressed address m) → write_by end known address m ≡ accepted bytes
unfolding write_text
text_after_read end known address m bytes b k e =
    let q = on_accepted_lem (addressed_text end) (read_text end bytes) (addressed address m) e in
    let t = q.0.1 in
    let p = text_taken_apart end bytes q.0 b k q.1 in
    let a : q.0.0 ≡ address = ap (λ (x : Addressed (Message end)). x.address) q.2 in
    let g : text t ≡ m = ap (λ (x : Addressed (Message end)). x.message) q.2 in
    let f : first_of end address ≡ p.0 = ap (first_of end) (sym a ∙ p.2) ∙ first_of_address end p.0 p.1 in
    let d : directed end (first_of end address) ≡ true = ap (directed end) f ∙ p.1 in
    ap (λ (x : Message end). write_by end known address x) (sym g)
    ∙ simp (d, p.3)
    (ap (λ (first : ℕ). accepted (text_bytes end first t)) f ∙ ap accepted p.4)

-- what is read from bytes is written as the same bytes
pub write_after_read : (end : End) (known : Known end) (address : ℕ) (m : Message end) (bytes : List ℕ) → T (are_bytes bytes)
    → read_by end known bytes ≡ accepted (addressed address m) → write_by end known address m ≡ accepted bytes
unfolding read_by
write_after_read end known address m bytes b e =
    ⊎_elim (λ p. text_after_read end known address m bytes b p.0 p.1) (λ p. counted_after_read end known address m bytes p.1)
    (chosen (carries_text end bytes) (on_accepted (addressed_text end) (read_text end bytes)) (read_counted_by end known bytes) (accepted (addressed address m)) e)

-- a message is a text or counted
counted_is_no_text : (end : End) (a b : ℕ) (c : Counted end) (t : Text) → addressed_counted end a c ≡ addressed b (text t) → ⊥
counted_is_no_text end a b c t h =
    let z : ◌≡◌ {A = ℕ} 0 1 = ap (λ (x : Addressed (Message end)). which x.message) h in
    absurd (omega arith)
  where
    which : Message end → ℕ
    which (counted x) = 0
    which (text x) = 1

-- a counted message was read as one, so that it is written as the same bytes whatever they are
pub write_after_read_counted : (end : End) (known : Known end) (address : ℕ) (c : Counted end) (bytes : List ℕ) → read_by end known bytes ≡ accepted (addressed_counted end address c)
    → write_by end known address (counted c) ≡ accepted bytes
unfolding read_by
write_after_read_counted end known address c bytes e =
    ⊎_elim
    (λ p.
    let q = on_accepted_lem (addressed_text end) (read_text end bytes) (addressed_counted end address c) p.1 in
    absurd (counted_is_no_text end address q.0.0 c q.0.1 (sym q.2)))
    (λ p. counted_after_read end known address (counted c) bytes p.1)
    (chosen (carries_text end bytes) (on_accepted (addressed_text end) (read_text end bytes)) (read_counted_by end known bytes) (accepted (addressed_counted end address c)) e)

-- a text was read as one: its register holds text, and its characters may be held
pub text_heard : (end : End) (known : Known end) (address : ℕ) (t : Text) (bytes : List ℕ) → read_by end known bytes ≡ accepted (addressed address (text t))
    → (is_text t.start ≡ true) × (length t.characters ≤ 60) × (are_characters t.characters ≡ true)
unfolding read_by read_counted_by
text_heard end known address t bytes e =
    ⊎_elim
    (λ p.
    let q = on_accepted_lem (addressed_text end) (read_text end bytes) (addressed address (text t)) p.1 in
    subst Fits (ap (λ (x : Addressed (Message end)). text_of x.message) q.2) (text_fits end bytes q.0 p.0 q.1))
    (λ p.
    let f =
    then_accepted (frame end bytes) (λ f. on_accepted (addressed_counted end (address_of end f.first)) (as_message_by end known f.kind f.payload))
    (addressed address (text t)) p.1 in
    let q =
    on_accepted_lem (addressed_counted end (address_of end f.0.first)) (as_message_by end known f.0.kind f.0.payload) (addressed address (text t)) f.2 in
    absurd (counted_is_no_text end (address_of end f.0.first) address q.0 t q.2))
    (chosen (carries_text end bytes) (on_accepted (addressed_text end) (read_text end bytes)) (read_counted_by end known bytes) (accepted (addressed address (text t))) e)
  where
    text_of : Message end → Text
    text_of (counted x) = t
    text_of (text x) = x

    Fits : Text → Type 0
    Fits x = (is_text x.start ≡ true) × (length x.characters ≤ 60) × (are_characters x.characters ≡ true)

-- the bytes to an address
module _ (end : End) (address kind : ℕ) (payload : List ℕ) where
  pub misaddressed : directed end (first_of end address) ≡ false → bytes_to end address kind payload ≡ refused 8
  misaddressed a = simp a

  pub to_summed : directed end (first_of end address) ≡ true → (second : ℕ) → second ≡ length payload * 16 + kind
      → bytes_to end address kind payload ≡ accepted (summed (first_of end address ∷ second ∷ payload))
  unfolding bytes_of
  to_summed a second s = simp a (ap (λ (n : ℕ). accepted (summed (first_of end address ∷ n ∷ payload))) (sym s))

-- writing, by what the checks of the type and the data bytes say
module _ (end : End) (known : Known end) (address kind : ℕ) (payload : List ℕ) where
  pub write-refused : (n : ℕ) → refused n ≡ on_accepted passed (as_message_by end known kind payload) → write_bytes_by end known address kind payload ≡ refused n
  unfolding sent
  write-refused n e = simp (still_refused passed (as_message_by end known kind payload) n (sym e))

  -- the check of the type and the data bytes, that of the polled group, and then the bytes
  pub sent_in_steps : (polled : Bool) → sent end known polled address kind payload
      ≡ and_then (and_then (on_accepted passed (as_message_by end known kind payload)) (λ fit. refuse_if (not polled) 8 (accepted fit))) (λ fit. bytes_to end address kind payload)
  unfolding sent
  sent_in_steps polled = by (as_message_by end known kind payload) polled
    where
      by : (o : Outcome (Counted end)) (b : Bool)
          → and_then o (λ m. refuse_if (not b) 8 (bytes_to end address kind payload))
          ≡ and_then (and_then (on_accepted passed o) (λ fit. refuse_if (not b) 8 (accepted fit))) (λ fit. bytes_to end address kind payload)
      by (refused n) b = refl
      by (accepted m) true = refl
      by (accepted m) false = refl

  module _ (e : accepted tt ≡ on_accepted passed (as_message_by end known kind payload)) where
    pub frame_fits : (kind < 16) × (length payload ≤ 15)
    frame_fits =
        let p = on_accepted_lem passed (as_message_by end known kind payload) tt (sym e) in (
          subst (λ (k : ℕ). k < 16) (told end known kind payload p.0 p.1).0 (kind_fits end known p.0),
          (told end known kind payload p.0 p.1).1.1,
        )

    pub write_checked : write_bytes_by end known address kind payload ≡ bytes_to end address kind payload
    write_checked =
        sent_in_steps true
        ∙ ap (λ (o : Outcome (Unit {0})). and_then (and_then o (λ fit. refuse_if (not true) 8 (accepted fit))) (λ fit. bytes_to end address kind payload)) (sym e)

    pub write_misaddressed : directed end (first_of end address) ≡ false → write_bytes_by end known address kind payload ≡ refused 8
    write_misaddressed a = write_checked ∙ misaddressed end address kind payload a

    pub write-summed : directed end (first_of end address) ≡ true → (second : ℕ) → second ≡ length payload * 16 + kind
        → write_bytes_by end known address kind payload ≡ accepted (summed (first_of end address ∷ second ∷ payload))
    write-summed a second s = write_checked ∙ to_summed end address kind payload a second s

-- writing a text, by what its checks say
module _ (end : End) (address : ℕ) (t : Text) where
  pub text_misaddressed : directed end (first_of end address) ≡ false → write_text end address t ≡ refused 8
  unfolding write_text
  text_misaddressed d = simp d

  module _ (d : directed end (first_of end address) ≡ true) where
    pub text_not_allowed : text_allowed t ≡ false → write_text end address t ≡ refused 8
    unfolding write_text
    text_not_allowed a = ap (λ (b : Bool). refuse_if (not (b && text_allowed t)) 8 (accepted (text_bytes end (first_of end address) t))) d ∙ ap (λ (b : Bool). refuse_if (not b) 8 (accepted (text_bytes end (first_of end address) t))) a

    pub text_summed : text_allowed t ≡ true → (second : ℕ) → second ≡ t.half * 16 + text_type end
        → write_text end address t ≡ accepted (summed (first_of end address ∷ second ∷ t.start ∷ (t.characters ++ (3 ∷ []))))
    unfolding write_text
    text_summed a second s =
        ap (λ (b : Bool). refuse_if (not (b && text_allowed t)) 8 (accepted (text_bytes end (first_of end address) t))) d
        ∙ ap (λ (b : Bool). refuse_if (not b) 8 (accepted (text_bytes end (first_of end address) t))) a
        ∙ ap (λ (n : ℕ). accepted (summed (first_of end address ∷ n ∷ t.start ∷ (t.characters ++ (3 ∷ []))))) (sym s)
