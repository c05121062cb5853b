-- What is packed of a whole message, by its header. Assumes nothing.
use mathlib.Core.Path.{◌≡◌, sym, ap, ap₂, ◌∙◌}
use mathlib.Core.List.{List, [], ◌∷◌}
use Prim.Native.Nat.{ℕ}
use Rattle.answer.specs.Answer.{Outcome, refused, accepted, on_accepted}
use Rattle.answer.specs.Packed.{Field, byte}
use Rattle.link.specs.Frame.{data_part}
use Rattle.link.specs.declared.frame.Header.{Header}
use Rattle.message.specs.Fields.{message_fields}
use Rattle.message.specs.Message.{Message, read_message, counted}
use Rattle.message.specs.Parts.{message_header, items_in}
use Rattle.message.proofs.Laws.Carried.{kind_of_lem}
use Rattle.message.proofs.Laws.Fault.{count_of_lem}
use Rattle.message.proofs.Laws.Framed.{part_length}
use Rattle.message.proofs.Laws.Item.{not_headed, message_headed, headed_taken, header_read}

module _ (s : List ℕ) where
  abbrev fields : Outcome Message → Outcome (List Field)
  fields = on_accepted (λ m. message_fields (counted m))

  pub unread : (n : ℕ) → refused n ≡ message_header s → refused n ≡ fields (read_message s)
  unread n e = sym (ap fields (not_headed s n e))

  pub items_checked : (h : Header) → accepted h ≡ message_header s → (items : ℕ) → items ≡ items_in h.kind h.count
      → accepted (byte h.kind ∷ byte items ∷ []) ≡ fields (read_message s)
  items_checked h e items is =
      let m = headed_taken s h e in
      let d = data_part s h.count in
      let count = is ∙ ap (items_in h.kind) (sym (part_length s h (header_read s h e))) ∙ sym (count_of_lem h.kind d m.0 m.1) in
      ap₂ (λ (k n : ℕ). accepted (byte k ∷ byte n ∷ [])) (sym (kind_of_lem h.kind d m.0 m.1)) count
      ∙ sym (ap fields (message_headed s h e ∙ m.1))
