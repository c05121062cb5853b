-- What an accepted step with a text leaves in the text store, and what a poll of it then gives. Assumes nothing.
use mathlib.Core.Path.{◌≡◌, refl, ap, ◌∙◌}
use mathlib.Core.Bool.{Bool, true, false, cond}
use mathlib.Core.List.{List}
use mathlib.Core.Logic.{◌⊎◌}
use Prim.Native.Nat.{ℕ, ◌+◌, ◌<◌, ◌≤◌}
use lib.ListN.{length, get_or}
use Rattle.answer.specs.Answer.{accepted}
use Rattle.omnistat.specs.declared.frame.End.TheVariants.{Thermostat, Host}
use Rattle.omnistat.specs.Register.{is_text}
use Rattle.omnistat.specs.Message.{numbered, poll}
use Rattle.omnistat.specs.Text.{Text, are_characters}
use Rattle.omnistat.specs.Omnistat.{Message, counted, text, addressed, addressed_counted, read}
use Rattle.omnistat.proofs.Laws.Message.{within_both}
use Rattle.omnistat.proofs.Laws.Omnistat.{text_heard, read_after_write}
use Rattle.thermostat.specs.Texts.{text_place, text_count, held_text, text_stored, store_allowed}
use Rattle.thermostat.specs.Step.{is_for, texts_changed, text_reply, reply_to, reply_bytes, after, Done, step}
use Rattle.thermostat.proofs.Laws.Set.{lent, texts_after, sent_as, leaves_the_map, after_length}
use Rattle.thermostat.proofs.Laws.Step.{heard_after, answered_by, polls_text, text_written}
use Rattle.thermostat.proofs.Laws.Texts.{text_stored-length, text_stored_count, text_stored_text, text_stored_elsewhere, text_stored-allowed}

module _ (own : ℕ) (m texts s : List ℕ) (room : ℕ) (d : Done) (e : step own m texts s room ≡ accepted d) where
  module _ (first : ℕ) (t : Text) (r : read Thermostat s ≡ accepted (addressed first (text t))) where
    fits : (is_text t.start ≡ true) × (length t.characters ≤ 60) × (are_characters t.characters ≡ true)
    fits = text_heard Thermostat tt first t s r

    -- nothing of the map
    pub text_set_leaves_the_map : d.map ≡ m
    text_set_leaves_the_map = leaves_the_map own m texts s room d e first (text t) r refl

    module _ (f : is_for own first ≡ true) where
      stored_as : d.texts ≡ text_stored texts t.start t.characters
      stored_as =
          texts_after own m texts s room d e first (text t) r ∙ heard_after own first (text_stored texts t.start t.characters) texts f

      -- its own count and characters
      pub text_set_stores : (text_count d.texts t.start ≡ length t.characters) × (held_text d.texts t.start ≡ t.characters)
      text_set_stores = (
        ap (λ (x : List ℕ). text_count x t.start) stored_as ∙ text_stored_count texts t.start t.characters (lent own m texts s room d e).1 fits.0 fits.1,
        ap (λ (x : List ℕ). held_text x t.start) stored_as ∙ text_stored_text texts t.start t.characters (lent own m texts s room d e).1 fits.0 fits.1,
      )

      -- and no other byte of the store
      pub text_set_leaves_the_others : (p : ℕ) → (p < text_place t.start) ⊎ (text_place t.start + length t.characters < p) → get_or d.texts p 0 ≡ get_or texts p 0
      text_set_leaves_the_others p h =
          ap (λ (x : List ℕ). get_or x p 0) stored_as
          ∙ text_stored_elsewhere texts t.start t.characters (lent own m texts s room d e).1 fits.0 fits.1 p h

  -- the store that a step leaves is taken by the next one
  module _ (first : ℕ) (q : Message Thermostat) (r : read Thermostat s ≡ accepted (addressed first q)) where
    pub texts-length-left : length d.texts ≡ length texts
    texts-length-left = ap length (texts_after own m texts s room d e first q r) ∙ after_length own first (texts_changed texts q) texts (go q r)
      where
        go : (q : Message Thermostat) → read Thermostat s ≡ accepted (addressed first q) → length (texts_changed texts q) ≡ length texts
        go (counted c) r = refl
        go (text t) r = text_stored-length texts t.start t.characters (lent own m texts s room d e).1 (fits first t r).0 (fits first t r).1

    pub texts-left-allowed : store_allowed d.texts ≡ true
    unfolding after
    texts-left-allowed = ap store_allowed (texts_after own m texts s room d e first q r) ∙ either (is_for own first) (go q r)
      where
        allowed : store_allowed texts ≡ true
        allowed = (lent own m texts s room d e).3

        go : (q : Message Thermostat) → read Thermostat s ≡ accepted (addressed first q) → store_allowed (texts_changed texts q) ≡ true
        go (counted c) r = allowed
        go (text t) r = text_stored-allowed texts t.start t.characters (lent own m texts s room d e).1 (fits first t r).0 (fits first t r).1 allowed (fits first t r).2

        either : (b : Bool) → store_allowed (texts_changed texts q) ≡ true → store_allowed (cond b (texts_changed texts q) texts) ≡ true
        either true h = h
        either false h = allowed

-- a poll of a text that is answered carries what the store holds, with half-byte 0, and is read at the host as that
module _ (own : ℕ) (m texts s : List ℕ) (room : ℕ) (d : Done) (e : step own m texts s room ≡ accepted d)
    (first start count : ℕ) (r : read Thermostat s ≡ accepted (addressed_counted Thermostat first (poll start count)))
    (t : is_text start ≡ true) (f : is_for own first ≡ true) (n : first ≡ 0 → ⊥) where
  pub text_polled : d.sent ≡ reply_bytes own (text (text_reply texts start))
  text_polled =
      sent_as own m texts s room d e first (counted (poll start count)) r
      ∙ answered_by own first (reply_to m texts (counted (poll start count))) f n
      ∙ ap (reply_bytes own) (polls_text m texts start count t)

  pub text_polled_back : read Host d.sent ≡ accepted (addressed own (text (text_reply texts start)))
  text_polled_back =
      let p = within_both 1 127 own (lent own m texts s room d e).2 in
      ap (read Host) text_polled
      ∙ read_after_write Host (numbered Host) own (text (text_reply texts start)) (reply_bytes own (text (text_reply texts start)))
      (text_written own p.0 p.1 texts start (lent own m texts s room d e).3 t)

-- a polled text is what was set: the characters of a text that a step stored are those that a later step answers with, from that store
pub polled_text_is_what_was_set : (own : ℕ) (m texts s : List ℕ) (room : ℕ) (d : Done) → step own m texts s room ≡ accepted d
    → (first : ℕ) (t : Text) → read Thermostat s ≡ accepted (addressed first (text t)) → is_for own first ≡ true
    → (map later : List ℕ) (room₂ : ℕ) (d₂ : Done) → step own map d.texts later room₂ ≡ accepted d₂
    → (first₂ count : ℕ) → read Thermostat later ≡ accepted (addressed_counted Thermostat first₂ (poll t.start count)) → is_for own first₂ ≡ true → (first₂ ≡ 0 → ⊥)
    → read Host d₂.sent ≡ accepted (addressed own (text (record { half = 0; start = t.start; characters = t.characters })))
polled_text_is_what_was_set own m texts s room d e first t r f map later room₂ d₂ e₂ first₂ count r₂ f₂ n =
    text_polled_back own map d.texts later room₂ d₂ e₂ first₂ t.start count r₂ (text_heard Thermostat tt first t s r).0 f₂ n
    ∙ ap (λ (x : List ℕ). accepted (addressed own (text (record { half = 0; start = t.start; characters = x })))) (text_set_stores own m texts s room d e first t r f).1
