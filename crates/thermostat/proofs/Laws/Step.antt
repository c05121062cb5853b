-- A step's reply is always accepted by the writer and fits; what a message that was read says of its registers. Assumes nothing.
use mathlib.Core.Path.{◌≡◌, refl, sym, ap, ◌∙◌, subst}
use mathlib.Core.Bool.{Bool, true, false, not, cond, ◌&&◌}
use mathlib.Core.List.{List, []}
use Prim.Native.Nat.{ℕ, ◌+◌, ◌-◌, ◌<◌, ◌≤◌}
use native.Mathlib.Omega.{arith}
use lib.ListN.{length, take, drop, length-drop, length-append}
use lib.Seq.{length-take-le}
use native.Mathlib.Nat.{add-sub_cancel_left}
use lib.Dec.{eqb, leb}
use borrow.Author.Tests.{le-leb, leb-true, eq-eqb, ne_eqb, lt-ltb, le-ltb}
use Rattle.answer.specs.Answer.{Outcome, refused, accepted, refuse_if, on_accepted, in_room, out_after}
use Rattle.answer.proofs.Laws.Output.{with_room}
use Rattle.omnistat.specs.declared.group.Group.{Group}
use Rattle.omnistat.specs.declared.group.Group.TheVariants.{First, Second, Third}
use Rattle.omnistat.specs.declared.frame.End.TheVariants.{Thermostat, Host}
use Rattle.omnistat.specs.Register.{within, is_text, run_allowed, poll_allowed}
use Rattle.omnistat.specs.Frame.{directed, first_of}
use Rattle.omnistat.specs.Message.{Reply, numbered, poll, set_from, poll_group, acknowledge, negative, data_from, group, as_message, as_message_by, body_of}
use Rattle.omnistat.specs.Text.{text_type, text_allowed}
use Rattle.omnistat.specs.Omnistat.{Message, counted, text, addressed_counted, read, write, sent}
use Rattle.answer.proofs.Laws.Test.{passed_not}
use Rattle.omnistat.proofs.Laws.Message.{and_parts, within_both}
use Rattle.omnistat.proofs.Laws.Heard.{message_read_lem}
use Rattle.omnistat.proofs.Laws.Omnistat.{text_summed}
use Rattle.omnistat.proofs.Laws.Output.{bytes_length}
use Rattle.omnistat.proofs.Laws.Run.{poll_of_run}
use Rattle.omnistat.proofs.Laws.Typed.{told}
use Rattle.thermostat.specs.Map.{contents, run}
use Rattle.thermostat.specs.Texts.{held_text, store_allowed}
use Rattle.thermostat.proofs.Laws.Map.{contents-run}
use Rattle.thermostat.proofs.Laws.Texts.{held_fits}
use Rattle.thermostat.specs.Step.{is_for, all_settable, all_listed, registers_of, register_reply, text_reply, reply_to, reply_bytes, sent_by, after, Done, done, step, map_of, texts_of, sent_of}

-- ---- either way of a test
pub chosen : {A : Type 0} (b : Bool) (x y : A) → b ≡ true → cond b x y ≡ x
chosen b x y e = ap (λ (t : Bool). cond t x y) e

pub not_chosen : {A : Type 0} (b : Bool) (x y : A) → b ≡ false → cond b x y ≡ y
not_chosen b x y e = ap (λ (t : Bool). cond t x y) e

-- ---- the writer accepts every reply, and each fits the least room

-- a reply that its own type and data bytes make
abbrev Made : Reply → Type 0
Made reply = as_message Host (body_of Host reply).kind (body_of Host reply).payload ≡ accepted reply

pub acknowledge_made : Made acknowledge
unfolding as_message_by
acknowledge_made = refl

pub negative_made : Made negative
unfolding as_message_by
negative_made = refl

pub group_made : (m : List ℕ) (g : Group) → Made (group g (contents m (registers_of g)))
unfolding as_message_by
group_made m First = refl
group_made m Second = refl
group_made m Third = refl

data_made : (start : ℕ) (values : List ℕ) → 1 ≤ length values → length values ≤ 14 → run_allowed start (length values) ≡ true
    → Made (data_from start values)
unfolding as_message_by
data_made start values a b r = simp (le-leb 1 (length values) a, le-leb (length values) 14 b, r)

-- what a writer of these bytes answers and leaves
abbrev pub Sends : List ℕ → List ℕ → Outcome ℕ → List ℕ → Type 0
Sends old bytes w out = (w ≡ accepted (length bytes)) × (out ≡ out_after (accepted bytes) old)

module _ (own : ℕ) (l : 1 ≤ own) (h : own ≤ 127) where
  own-directed : directed Host (first_of Host own) ≡ true
  own-directed = simp (le-leb 129 (own + 128) (omega arith), le-leb (own + 128) 255 (omega arith))

  -- a text of a store that a step takes is written
  pub text_written : (texts : List ℕ) (r : ℕ) → store_allowed texts ≡ true → is_text r ≡ true
      → write Host own (text (text_reply texts r)) ≡ accepted (reply_bytes own (text (text_reply texts r)))
  text_written texts r a t =
      let f = held_fits texts a r t in
      let allowed : text_allowed (text_reply texts r) ≡ true = simp (t, le-leb (length (held_text texts r)) 60 f.0, f.1) in
      text_summed Host own (text_reply texts r) own-directed allowed (text_type Host) refl

  module _ (old : List ℕ) where
    -- a reply that fits, as the writer leaves it
    sends : (reply : Message Host) → in_room (length old) (write Host own reply) ≡ accepted (reply_bytes own reply) → (w : Outcome ℕ) (out : List ℕ)
        → (w ≡ on_accepted length (in_room (length old) (write Host own reply))) × (out ≡ out_after (in_room (length old) (write Host own reply)) old)
        → Sends old (reply_bytes own reply) w out
    sends reply i w out p = (p.0 ∙ ap (λ (o : Outcome (List ℕ)). on_accepted length o) i, p.1 ∙ ap (λ (o : Outcome (List ℕ)). out_after o old) i)

    in_room_lem : 18 ≤ length old → (reply : Reply) → Made reply → in_room (length old) (write Host own (counted reply)) ≡ accepted (reply_bytes own (counted reply))
    unfolding sent
    in_room_lem b reply e =
        let f : length (reply_bytes own (counted reply)) ≤ length old
        = omega (arith, (told Host (numbered Host) _ _ reply e).1.1, bytes_length (first_of Host own) (body_of Host reply).kind (body_of Host reply).payload) in
        simp (e, own-directed) (with_room (length old) (reply_bytes own (counted reply)) f)

    -- the same of a reply that goes by another name too
    pub replied : 18 ≤ length old → (q reply : Reply) → q ≡ reply → Made reply → (w : Outcome ℕ) (out : List ℕ)
        → (w ≡ on_accepted length (in_room (length old) (write Host own (counted reply)))) × (out ≡ out_after (in_room (length old) (write Host own (counted reply))) old)
        → Sends old (reply_bytes own (counted q)) w out
    replied b q reply k e w out p =
        subst (λ (x : Reply). Sends old (reply_bytes own (counted x)) w out) (sym k) (sends (counted reply) (in_room_lem b reply e) w out p)

    -- a text of a store that a step takes
    pub text_replied : 65 ≤ length old → (texts : List ℕ) (r : ℕ) → store_allowed texts ≡ true → is_text r ≡ true → (cs : List ℕ) → cs ≡ held_text texts r
        → (w : Outcome ℕ) (out : List ℕ)
        → (w ≡ on_accepted length (in_room (length old) (write Host own (text (record { half = 0; start = r; characters = cs })))))
        × (out ≡ out_after (in_room (length old) (write Host own (text (record { half = 0; start = r; characters = cs })))) old)
        → Sends old (reply_bytes own (text (text_reply texts r))) w out
    text_replied b texts r a t cs e w out p = sends (text (text_reply texts r)) room w out (subst Written e p)
      where
        Written : List ℕ → Type 0
        Written x =
            (w ≡ on_accepted length (in_room (length old) (write Host own (text (record { half = 0; start = r; characters = x })))))
            × (out ≡ out_after (in_room (length old) (write Host own (text (record { half = 0; start = r; characters = x })))) old)

        room : in_room (length old) (write Host own (text (text_reply texts r))) ≡ accepted (reply_bytes own (text (text_reply texts r)))
        room =
            let n : length (reply_bytes own (text (text_reply texts r))) ≡ length (held_text texts r) + 5 = simp length-append (omega arith) in
            ap (in_room (length old)) (text_written texts r a t)
            ∙ with_room (length old) (reply_bytes own (text (text_reply texts r))) (omega (arith, n, (held_fits texts a r t).0))

-- a group known by its name
pub group_sends : (own : ℕ) (m old : List ℕ) (g h : Group) → g ≡ h → (w : Outcome ℕ) (out : List ℕ)
    → Sends old (reply_bytes own (counted (register_reply m (poll_group h)))) w out → Sends old (reply_bytes own (counted (register_reply m (poll_group g)))) w out
group_sends own m old g h e w out p = subst (λ (x : Group). Sends old (reply_bytes own (counted (register_reply m (poll_group x)))) w out) (sym e) p

-- ---- a poll

pub run_end : (start count : ℕ) → run_allowed start count ≡ true → start + count ≤ 256
unfolding run_allowed
run_end start count e = leb-true (start + count) 256 (and_parts (leb (start + count) 256) _ e).0

module _ (m : List ℕ) (start count : ℕ) (s : length m ≡ 256) (r : run_allowed start count ≡ true) where
  -- the part of the map that the code lends
  abbrev part : List ℕ
  part = take (start + count - start) (drop start m)

  fits_map : start + count ≤ length m
  fits_map = omega (arith, run_end start count r)

  part_is : part ≡ take count (drop start m)
  part_is = ap (λ (n : ℕ). take n (drop start m)) (add-sub_cancel_left start count)

  pub part_length : length part ≡ count
  part_length =
      let l : count ≤ length (drop start m) = simp length-drop (omega (arith, fits_map)) in
      ap length part_is ∙ length-take-le count (drop start m) l

  pub reported : all_listed (run start count) ≡ true → register_reply m (poll start count) ≡ data_from start part
  reported e =
      chosen (all_listed (run start count)) (data_from start (contents m (run start count))) negative e
      ∙ ap (λ (v : List ℕ). data_from start v) (contents-run m start count fits_map ∙ sym part_is)

  pub not_reported : all_listed (run start count) ≡ false → register_reply m (poll start count) ≡ negative
  not_reported e = not_chosen (all_listed (run start count)) (data_from start (contents m (run start count))) negative e

  pub part_made : 1 ≤ count → count ≤ 14 → Made (data_from start part)
  part_made d f =
      let l : 1 ≤ length part = omega (arith, part_length) in
      let h : length part ≤ 14 = omega (arith, part_length) in
      data_made start part l h (ap (λ (n : ℕ). run_allowed start n) part_length ∙ r)

-- ---- which polls are of a text

module _ (m texts : List ℕ) (start count : ℕ) where
  pub polls_text : is_text start ≡ true → reply_to m texts (counted (poll start count)) ≡ text (text_reply texts start)
  polls_text e = chosen (is_text start) (text (text_reply texts start)) (counted (register_reply m (poll start count))) e

  module _ (e : is_text start ≡ false) where
    pub polls_registers : reply_to m texts (counted (poll start count)) ≡ counted (register_reply m (poll start count))
    polls_registers = not_chosen (is_text start) (text (text_reply texts start)) (counted (register_reply m (poll start count))) e

    pub polls_run : poll_allowed start count ≡ true → ((1 ≤ count) × (count ≤ 14)) × (run_allowed start count ≡ true)
    polls_run a =
        let p = and_parts (within 1 14 count) (run_allowed start count) (sym (poll_of_run start count e) ∙ a) in
        (within_both 1 14 count p.0, p.1)

-- ---- a set

pub confirmed : (own start : ℕ) (m values old : List ℕ) (taken : Bool) → taken ≡ all_settable start values → (w : Outcome ℕ) (out : List ℕ)
    → Sends old (reply_bytes own (counted (cond taken acknowledge negative))) w out
    → Sends old (reply_bytes own (counted (register_reply m (set_from start values)))) w out
confirmed own start m values old taken e w out p = subst (λ (b : Bool). Sends old (reply_bytes own (counted (cond b acknowledge negative))) w out) e p

-- ---- who is answered

module _ (own first : ℕ) where
  pub unheard_after : (new old : List ℕ) → is_for own first ≡ false → after own first new old ≡ old
  unfolding after
  unheard_after new old e = not_chosen (is_for own first) new old e

  pub heard_after : (new old : List ℕ) → is_for own first ≡ true → after own first new old ≡ new
  unfolding after
  heard_after new old e = chosen (is_for own first) new old e

  -- a message that changes nothing
  pub after_same : (old : List ℕ) → old ≡ after own first old old
  unfolding after
  after_same old = go (is_for own first)
    where
      go : (b : Bool) → old ≡ cond b old old
      go true = refl
      go false = refl

  pub answered_by : (reply : Message Host) → is_for own first ≡ true → (first ≡ 0 → ⊥) → sent_by own first reply ≡ reply_bytes own reply
  unfolding sent_by
  answered_by reply e n =
      chosen (is_for own first) (cond (eqb first 0) [] (reply_bytes own reply)) [] e
      ∙ not_chosen (eqb first 0) [] (reply_bytes own reply) (ne_eqb first 0 n)

  module _ (reply : Message Host) (old : List ℕ) where
    sent_as : (bytes : List ℕ) → sent_by own first reply ≡ bytes → (w : Outcome ℕ) (out : List ℕ) → Sends old bytes w out → Sends old (sent_by own first reply) w out
    sent_as bytes e w out p = subst (λ (x : List ℕ). Sends old x w out) (sym e) p

    pub unheard : is_for own first ≡ false → Sends old (sent_by own first reply) (accepted 0) old
    unfolding sent_by
    unheard e = sent_as [] (not_chosen (is_for own first) (cond (eqb first 0) [] (reply_bytes own reply)) [] e) (accepted 0) old (refl, refl)

    pub unanswered : is_for own first ≡ true → first ≡ 0 → Sends old (sent_by own first reply) (accepted 0) old
    unfolding sent_by
    unanswered e z =
        sent_as []
        (chosen (is_for own first) (cond (eqb first 0) [] (reply_bytes own reply)) [] e
        ∙ chosen (eqb first 0) [] (reply_bytes own reply) (eq-eqb first 0 z))
        (accepted 0) old (refl, refl)

    pub answered : is_for own first ≡ true → (first ≡ 0 → ⊥) → (w : Outcome ℕ) (out : List ℕ) → Sends old (reply_bytes own reply) w out
        → Sends old (sent_by own first reply) w out
    answered e n = sent_as (reply_bytes own reply) (answered_by reply e n)

    -- the same by one test
    pub silent : (is_for own first && not (eqb first 0)) ≡ false → Sends old (sent_by own first reply) (accepted 0) old
    unfolding sent_by
    silent e = sent_as [] (go (is_for own first) (eqb first 0) e) (accepted 0) old (refl, refl)
      where
        go : (p q : Bool) → (p && not q) ≡ false → cond p (cond q [] (reply_bytes own reply)) [] ≡ []
        go true true e = refl
        go true false e = cc
        go false q e = refl

    pub answers : (is_for own first && not (eqb first 0)) ≡ true → (w : Outcome ℕ) (out : List ℕ) → Sends old (reply_bytes own reply) w out
        → Sends old (sent_by own first reply) w out
    unfolding sent_by
    answers e = sent_as (reply_bytes own reply) (go (is_for own first) (eqb first 0) e)
      where
        go : (p q : Bool) → (p && not q) ≡ true → cond p (cond q [] (reply_bytes own reply)) [] ≡ reply_bytes own reply
        go true true e = cc
        go true false e = refl
        go false q e = cc

  -- a reply that goes by another name
  pub sent_same : (q reply : Message Host) (old : List ℕ) → q ≡ reply → (w : Outcome ℕ) (out : List ℕ) → Sends old (sent_by own first reply) w out → Sends old (sent_by own first q) w out
  sent_same q reply old e w out p = subst (λ (x : Message Host). Sends old (sent_by own first x) w out) (sym e) p

-- ---- what a message that was read says of its registers

module _ (s : List ℕ) (first start : ℕ) where
  pub poll-read : (count : ℕ) → read Thermostat s ≡ accepted (addressed_counted Thermostat first (poll start count)) → poll_allowed start count ≡ true
  unfolding as_message_by
  poll-read count e =
      let q = poll start count in
      (passed_not (poll_allowed start count) 8 (accepted q) q (message_read_lem Thermostat tt first q s e).0).0

  pub set-read : (values : List ℕ) → read Thermostat s ≡ accepted (addressed_counted Thermostat first (set_from start values)) → start + length values ≤ 256
  unfolding as_message_by
  set-read values e =
      let q = set_from start values in
      let n = length values in
      let p = passed_not (within 1 14 n) 7 (refuse_if (not (run_allowed start n)) 8 (accepted q)) q (message_read_lem Thermostat tt first q s e).0 in
      run_end start n (passed_not (run_allowed start n) 8 (accepted q) q p.1).0

-- ---- the checks of a step

module _ (own : ℕ) (m texts s : List ℕ) (room : ℕ) where
  pub too_little_room : room < 65 → step own m texts s room ≡ refused 9
  unfolding step
  too_little_room h = simp (lt-ltb room 65 h)

  module _ (a : 65 ≤ room) where
    pub wrong_map : (length m ≡ 256 → ⊥) → step own m texts s room ≡ refused 9
    unfolding step
    wrong_map n = simp (le-ltb room 65 a, ne_eqb (length m) 256 n)

    module _ (b : length m ≡ 256) where
      pub wrong_texts : (length texts ≡ 610 → ⊥) → step own m texts s room ≡ refused 9
      unfolding step
      wrong_texts n = simp (le-ltb room 65 a, eq-eqb (length m) 256 b, ne_eqb (length texts) 610 n)

      module _ (c : length texts ≡ 610) where
        pub wrong_address : within 1 127 own ≡ false → step own m texts s room ≡ refused 8
        unfolding step
        wrong_address e = simp (le-ltb room 65 a, eq-eqb (length m) 256 b, eq-eqb (length texts) 610 c, e)

        module _ (l : 1 ≤ own) (h : own ≤ 127) where
          pub store_refused : store_allowed texts ≡ false → step own m texts s room ≡ refused 8
          unfolding step
          store_refused t = simp (le-ltb room 65 a, eq-eqb (length m) 256 b, eq-eqb (length texts) 610 c, le-leb 1 own l, le-leb own 127 h, t)

          module _ (t : store_allowed texts ≡ true) where
            pub after_checks : step own m texts s room ≡ on_accepted (done own m texts) (read Thermostat s)
            unfolding step
            after_checks = simp (le-ltb room 65 a, eq-eqb (length m) 256 b, eq-eqb (length texts) 610 c, le-leb 1 own l, le-leb own 127 h, t)

-- ---- the four parts of a step's promise, by what the step is

module _ (m texts old : List ℕ) where
  abbrev pub Promise : Outcome Done → Outcome ℕ → List ℕ → List ℕ → List ℕ → Type 0
  Promise o w map store out = (w ≡ on_accepted length (sent_of o)) × ((map ≡ map_of o m) × ((store ≡ texts_of o texts) × (out ≡ out_after (sent_of o) old)))

  pub promised_as : (o p : Outcome Done) (w : Outcome ℕ) (map store out : List ℕ) → o ≡ p → Promise p w map store out → Promise o w map store out
  promised_as o p w map store out e h = subst (λ (x : Outcome Done). Promise x w map store out) (sym e) h

  pub when_refused : (o : Outcome Done) (n : ℕ) → o ≡ refused n → Promise o (refused n) m texts old
  when_refused o n e = promised_as o (refused n) (refused n) m texts old e (refl, (refl, (refl, refl)))

-- ---- the map and the store whole, as the code works on them

module _ (m texts old m' texts' : List ℕ) (e : m' ≡ m) (f : texts' ≡ texts) where
  pub promised_in : (o : Outcome Done) (w : Outcome ℕ) (map store out : List ℕ) → Promise m' texts' old o w map store out → Promise m texts old o w map store out
  promised_in o w map store out p = (p.0, (p.1.0 ∙ ap (map_of o) e, (p.1.1.0 ∙ ap (texts_of o) f, p.1.1.1)))

  pub refused_in : (o : Outcome Done) (n : ℕ) → o ≡ refused n → Promise m texts old o (refused n) m' texts' old
  refused_in o n r = promised_in o (refused n) m' texts' old (when_refused m' texts' old o n r)
