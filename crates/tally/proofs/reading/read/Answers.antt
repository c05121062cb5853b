use mathlib.Core.Path.{◌≡◌, refl, sym, ap, ◌∙◌}
use mathlib.Core.List.{List}
use Prim.Native.Nat.{ℕ}
use Rattle.answer.specs.Answer.{refused, accepted}
use Rattle.omnistat.specs.declared.frame.End.TheVariants.{Host}
use Rattle.omnistat.specs.declared.reply.Reply.{Reply}
use Rattle.omnistat.specs.declared.reply.Reply.TheVariants.{Acknowledge, Negative, Data, Group, Text}
use Rattle.omnistat.specs.Omnistat.{read}
use Rattle.omnistat.specs.Answer.{reply_in}
use Rattle.answer.proofs.Laws.Exit.{passed_up}
use Rattle.tally.specs.Reading.{word_in, word_from, reading}
use Rattle.tally.proofs.Laws.Reading.{reading_when}
use Rattle.tally.proofs.reading.read.Goals as goal

word_of_reply : (reply : List ℕ) (r : Reply) → accepted (reply_in reply r) ≡ read Host reply → word_from (reply_in reply r).message ≡ reading reply
word_of_reply reply r e = sym (reading_when reply (accepted (reply_in reply r)) (sym e))

no_word : (reply : List ℕ) (r : Reply) → ((number start count : ℕ) → r ≡ Data number start count → ⊥) → refused 8 ≡ word_from (reply_in reply r).message
no_word reply (Acknowledge number) h = refl
no_word reply (Negative number) h = refl
no_word reply (Data number start count) h = absurd (h number start count refl)
no_word reply (Group number group count) h = refl
no_word reply (Text number half start count) h = refl

pub returns-in_err-start : goal.returns-in_err-start
returns-in_err-start c =
    passed_up _ _ c.from_residual.ensures.1 ∙ sym (reading_when _ _ (sym c.in_err-start.ensures))

pub returns-in-Data : goal.returns-in-Data
returns-in-Data c =
    let s = c.args.reply.now in
    c.word_in.ensures
    ∙ ap (word_in c.in-Data.start) c.values.ensures
    ∙ ap (λ (r : Reply). word_from (reply_in s r).message) (sym c.in-Data.is)
    ∙ word_of_reply s c.in_ok-start.field-0 c.in_ok-start.ensures

pub returns-in_default : goal.returns-in_default
returns-in_default c =
    let s = c.args.reply.now in
    no_word s c.in_ok-start.field-0 c.in_default.not-Data ∙ word_of_reply s c.in_ok-start.field-0 c.in_ok-start.ensures
