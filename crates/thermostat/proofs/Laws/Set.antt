-- What an accepted step leaves in the map. A set: the addressed registers hold the values and no others changed, or none did; every other
-- message, and one for another address: the same map. Only a text changes the text store. Assumes nothing.
use mathlib.Core.Path.{◌≡◌, refl, sym, ap, ◌∙◌}
use mathlib.Core.Bool.{Bool, true, false, cond}
use mathlib.Core.List.{List, [], ◌∷◌}
use mathlib.Core.Logic.{◌⊎◌, ⊎_elim}
use Prim.Native.Nat.{ℕ, suc, ◌+◌, ◌<◌, ◌≤◌}
use native.Mathlib.Omega.{arith}
use lib.ListN.{length, get_or}
use lib.Dec.{eqb, ltb}
use borrow.Author.Tests.{eqb-true}
use Rattle.answer.specs.Answer.{Outcome, accepted, on_accepted}
use Rattle.omnistat.specs.declared.frame.End.TheVariants.{Thermostat}
use Rattle.omnistat.specs.Register.{within}
use Rattle.omnistat.specs.Message.{poll, set_from, poll_group}
use Rattle.omnistat.specs.Omnistat.{Message, counted, text, Addressed, addressed, addressed_counted, read}
use Rattle.answer.proofs.Laws.Test.{same, passed, passed_not}
use Rattle.thermostat.specs.Map.{content, put, stored}
use Rattle.thermostat.specs.Texts.{store_allowed}
use Rattle.thermostat.specs.Step.{is_for, all_settable, changed, texts_changed, reply_to, sent_by, after, Done, done, step}
use Rattle.thermostat.proofs.Laws.Map.{put-length, stored_in, stored_before, stored_past}
use Rattle.thermostat.proofs.Laws.Step.{chosen, not_chosen, heard_after, unheard_after, after_same, set-read}

-- the map keeps its length
stored-length : (m : List ℕ) (r : ℕ) (vs : List ℕ) → length (stored m r vs) ≡ length m
unfolding stored
stored-length m r [] = refl
stored-length m r (v ∷ vs) = stored-length (put m r v) (suc r) vs ∙ put-length m r v

kept : (b : Bool) (x y : List ℕ) → length x ≡ length y → length (cond b x y) ≡ length y
kept true x y e = e
kept false x y e = refl

changed-length : (m : List ℕ) (q : Message Thermostat) → length (changed m q) ≡ length m
changed-length m (counted (poll start count)) = refl
changed-length m (counted (set_from start values)) = kept (all_settable start values) (stored m start values) m (stored-length m start values)
changed-length m (counted (poll_group g)) = refl
changed-length m (text t) = refl

pub after_length : (own first : ℕ) (new old : List ℕ) → length new ≡ length old → length (after own first new old) ≡ length old
unfolding after
after_length own first new old e = kept (is_for own first) new old e

-- a step that accepts a message was lent what it takes, and does what the message says
module _ (own : ℕ) (m texts s : List ℕ) (room : ℕ) (d : Done) (e : step own m texts s room ≡ accepted d) where
  abbrev Later : Outcome Done
  Later = on_accepted (done own m texts) (read Thermostat s)

  pub lent : (length m ≡ 256) × (length texts ≡ 610) × (within 1 127 own ≡ true) × (store_allowed texts ≡ true) × (Later ≡ accepted d)
  unfolding step
  lent =
      let p = passed (ltb room 65) 9 _ d e in
      let q = passed_not (eqb (length m) 256) 9 _ d p.1 in
      let r = passed_not (eqb (length texts) 610) 9 _ d q.1 in
      let t = passed_not (within 1 127 own) 8 _ d r.1 in
      let u = passed_not (store_allowed texts) 8 Later d t.1 in
      (eqb-true (length m) 256 q.0, eqb-true (length texts) 610 r.0, t.0, u.0, u.1)

  module _ (first : ℕ) (q : Message Thermostat) (r : read Thermostat s ≡ accepted (addressed first q)) where
    done_as : done own m texts (addressed first q) ≡ d
    done_as = same (sym (ap (λ (o : Outcome (Addressed (Message Thermostat))). on_accepted (done own m texts) o) r) ∙ lent.4)

    map_after : d.map ≡ after own first (changed m q) m
    map_after = ap (λ (x : Done). x.map) (sym done_as)

    pub texts_after : d.texts ≡ after own first (texts_changed texts q) texts
    texts_after = ap (λ (x : Done). x.texts) (sym done_as)

    pub sent_as : d.sent ≡ sent_by own first (reply_to m texts q)
    sent_as = ap (λ (x : Done). x.sent) (sym done_as)

    pub another_address_leaves : is_for own first ≡ false → (d.map ≡ m) × (d.texts ≡ texts)
    another_address_leaves f =
        (map_after ∙ unheard_after own first (changed m q) m f, texts_after ∙ unheard_after own first (texts_changed texts q) texts f)

    -- a message that changes nothing of the map
    pub leaves_the_map : changed m q ≡ m → d.map ≡ m
    leaves_the_map c = map_after ∙ ap (λ (x : List ℕ). after own first x m) c ∙ sym (after_same own first m)

    -- a message that is no text
    pub leaves_the_texts : texts_changed texts q ≡ texts → d.texts ≡ texts
    leaves_the_texts c = texts_after ∙ ap (λ (x : List ℕ). after own first x texts) c ∙ sym (after_same own first texts)

    pub length-left : length d.map ≡ length m
    length-left = ap length map_after ∙ after_length own first (changed m q) m (changed-length m q)

  module _ (first start : ℕ) (values : List ℕ) (r : read Thermostat s ≡ accepted (addressed_counted Thermostat first (set_from start values))) where
    -- a register set changes nothing of the text store
    pub set_leaves_the_texts : d.texts ≡ texts
    set_leaves_the_texts = leaves_the_texts first (counted (set_from start values)) r refl

    module _ (f : is_for own first ≡ true) where
      map_left : d.map ≡ changed m (counted (set_from start values))
      map_left =
          map_after first (counted (set_from start values)) r ∙ heard_after own first (changed m (counted (set_from start values))) m f

      -- every register listed, writable and in range: all values are stored
      module _ (a : all_settable start values ≡ true) where
        all-stored : d.map ≡ stored m start values
        all-stored = map_left ∙ chosen (all_settable start values) (stored m start values) m a

        pub set_stores : (i : ℕ) → i < length values → content d.map (start + i) ≡ get_or values i 0
        set_stores i h =
            let l : start + length values ≤ length m = omega (arith, set-read s first start values r, lent.0) in
            ap (λ (x : List ℕ). content x (start + i)) all-stored ∙ stored_in m start values i l h

        pub set_leaves_the_others : (q : ℕ) → (q < start) ⊎ (start + length values ≤ q) → content d.map q ≡ content m q
        set_leaves_the_others q h =
            ap (λ (x : List ℕ). content x q) all-stored
            ∙ ⊎_elim (λ l. stored_before m start values q l) (λ l. stored_past m start values q l) h

      -- one register that is not: none is stored
      pub set_stores_none : all_settable start values ≡ false → d.map ≡ m
      set_stores_none b = map_left ∙ not_chosen (all_settable start values) (stored m start values) m b
