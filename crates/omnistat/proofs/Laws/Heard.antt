-- What a reader answers, from the data bytes to the message that they stand in, and from the message back to its bytes. Assumes nothing.
use mathlib.Core.Path.{◌≡◌, refl, sym, ap, ◌∙◌}
use mathlib.Core.Bool.{Bool, not}
use mathlib.Core.List.{List, ◌∷◌, ◌++◌}
use Prim.Native.Nat.{ℕ}
use lib.ListN.{take, drop, take-append-drop}
use lib.Seq.{drop-drop}
use Rattle.std.specs.Prelude.{Result, Ok, Err}
use Rattle.answer.specs.Answer.{Outcome, accepted, refuse_if, on_accepted, outcome_of}
use Rattle.answer.specs.declared.Refusal.{Refusal}
use Rattle.omnistat.specs.declared.frame.End.{End}
use Rattle.omnistat.specs.declared.frame.End.TheVariants.{Thermostat, Host}
use Rattle.omnistat.specs.declared.message.Run.{Run}
use Rattle.omnistat.specs.declared.request.Request.{Request as RequestAnswer}
use Rattle.omnistat.specs.declared.request.Request.TheVariants.{Poll, Set, PollGroup, Text as RequestText}
use Rattle.omnistat.specs.declared.reply.Reply.{Reply as ReplyAnswer}
use Rattle.omnistat.specs.declared.reply.Reply.TheVariants.{Acknowledge, Negative, Data, Group as GroupAnswer, Text as ReplyText}
use Rattle.omnistat.specs.Frame.{framed, bytes_of, directed, first_of}
use Rattle.omnistat.specs.Message.{Counted, Known, set_from, data_from, as_run, as_message_by, body_by, is_polled}
use Rattle.omnistat.specs.Omnistat.{Message, text, Addressed, addressed, addressed_counted, read_by, bytes_to, sent, write_bytes_by}
use Rattle.omnistat.specs.Answer.{request_in, reply_in}
use Rattle.omnistat.specs.Parts.{run_in, Says}
use Rattle.answer.proofs.Laws.Test.{same, passed_not, then_accepted}
use Rattle.omnistat.proofs.Laws.Message.{run_natural}
use Rattle.omnistat.proofs.Laws.Omnistat.{write_after_read_counted}
use Rattle.omnistat.proofs.Laws.Typed.{told, again}

-- only what follows the second byte is looked at
request_after : (s : List ℕ) (r : RequestAnswer) → request_in s r ≡ request_in (0 ∷ 0 ∷ drop 2 s) r
request_after s (Poll first start count) = refl
request_after s (Set first start count) = ap (λ (x : List ℕ). addressed_counted Thermostat first (set_from start (take count x))) (sym (drop-drop 1 2 s))
request_after s (PollGroup first g) = refl
request_after s (RequestText first half start count) = ap (λ (x : List ℕ). addressed first (text (record { half = half; start = start; characters = take count x }))) (sym (drop-drop 1 2 s))

reply_after : (s : List ℕ) (r : ReplyAnswer) → reply_in s r ≡ reply_in (0 ∷ 0 ∷ drop 2 s) r
reply_after s (Acknowledge number) = refl
reply_after s (Negative number) = refl
reply_after s (Data number start count) = ap (λ (x : List ℕ). addressed_counted Host number (data_from start (take count x))) (sym (drop-drop 1 2 s))
reply_after s (GroupAnswer number g count) = refl
reply_after s (ReplyText number half start count) = ap (λ (x : List ℕ). addressed number (text (record { half = half; start = start; characters = take count x }))) (sym (drop-drop 1 2 s))

-- so what is said of data bytes holds in the message that they are a part of
module _ {A M : Type 0} (reading : List ℕ → A → M) (after : (s : List ℕ) (a : A) → reading s a ≡ reading (0 ∷ 0 ∷ drop 2 s) a) where
  answer_after : (s : List ℕ) (r : Result A Refusal) → on_accepted (reading s) (outcome_of r) ≡ on_accepted (reading (0 ∷ 0 ∷ drop 2 s)) (outcome_of r)
  answer_after s (Ok a) = ap accepted (after s a)
  answer_after s (Err e) = refl

  in_message : (s payload : List ℕ) (n : ℕ) → payload ≡ take n (drop 2 s) → (r : Result A Refusal) (o : Outcome M) → Says reading payload r o
      → on_accepted (reading s) (outcome_of r) ≡ o
  in_message s payload n e r o says =
      answer_after s r
      ∙ ap (λ (x : List ℕ). on_accepted (reading (0 ∷ 0 ∷ x)) (outcome_of r)) (sym (ap (λ (p : List ℕ). p ++ drop n (drop 2 s)) e ∙ take-append-drop n (drop 2 s)))
      ∙ says (drop n (drop 2 s))

module _ (s payload : List ℕ) (n : ℕ) (e : payload ≡ take n (drop 2 s)) where
  pub request_in_lem : (r : Result RequestAnswer Refusal) (o : Outcome (Addressed (Message Thermostat))) → Says request_in payload r o
      → on_accepted (request_in s) (outcome_of r) ≡ o
  request_in_lem = in_message request_in request_after s payload n e

  pub reply_in_lem : (r : Result ReplyAnswer Refusal) (o : Outcome (Addressed (Message Host))) → Says reply_in payload r o
      → on_accepted (reply_in s) (outcome_of r) ≡ o
  reply_in_lem = in_message reply_in reply_after s payload n e

-- a run that was read is made into a message
pub run_made : (end : End) (address : ℕ) (make : ℕ → List ℕ → Counted end) (payload : List ℕ) (r : Result Run Refusal)
    → Says run_in payload r (as_run (λ start values. (start, values)) payload)
    → (rest : List ℕ) → on_accepted (λ p. addressed_counted end address (make p.0 p.1)) (on_accepted (run_in (0 ∷ 0 ∷ (payload ++ rest))) (outcome_of r)) ≡ on_accepted (addressed_counted end address) (as_run make payload)
run_made end address make payload r says rest =
    ap (on_accepted (λ p. addressed_counted end address (make p.0 p.1))) (says rest)
    ∙ run_natural (λ p. addressed_counted end address (make p.0 p.1)) (λ start values. (start, values)) payload
    ∙ sym (run_natural (addressed_counted end address) make payload)

-- a counted message that is accepted was read from its own type and data bytes, and from these bytes alone
pub message_read_lem : (end : End) (known : Known end) (address : ℕ) (c : Counted end) (s : List ℕ) → read_by end known s ≡ accepted (addressed_counted end address c)
    → (as_message_by end known (body_by end known c).kind (body_by end known c).payload ≡ accepted c)
    × (s ≡ bytes_of (framed (first_of end address) (body_by end known c).kind (body_by end known c).payload))
unfolding sent
message_read_lem end known address c s e =
    let kind = (body_by end known c).kind in
    let payload = (body_by end known c).payload in
    let bytes = bytes_of (framed (first_of end address) kind payload) in
    let p =
    then_accepted (as_message_by end known kind payload) (λ n. refuse_if (not (is_polled end known c)) 8 (bytes_to end address kind payload))
    s (write_after_read_counted end known address c s e) in
    let q = passed_not (is_polled end known c) 8 (bytes_to end address kind payload) s p.2 in (
      p.1 ∙ ap accepted (sym (again end known c p.0 q.0 p.1)),
      sym (same (passed_not (directed end (first_of end address)) 8 (accepted bytes) s q.1).1),
    )

-- so its type and data bytes are written as the same bytes
pub written_by_type : (end : End) (known : Known end) (address : ℕ) (c : Counted end) (s : List ℕ) → read_by end known s ≡ accepted (addressed_counted end address c)
    → write_bytes_by end known address (body_by end known c).kind (body_by end known c).payload ≡ accepted s
written_by_type end known address c s e =
    let kind = (body_by end known c).kind in
    let payload = (body_by end known c).payload in
    ap (λ (b : Bool). sent end known b address kind payload) (sym (told end known kind payload c (message_read_lem end known address c s e).0).1.2)
    ∙ write_after_read_counted end known address c s e
