-- What the functions behind the readers and writers promise one another.
use Rattle.std.specs.Prelude.{ℕ, ◌≡◌, List, ◌∷◌, ◌++◌, take, drop, Option, Some, None, Result}
use Rattle.answer.specs.Answer.{Outcome, refused, accepted, on_accepted, outcome_of}
use Rattle.answer.specs.declared.Refusal.{Refusal}
use Rattle.omnistat.specs.Frame.{Frame, framed}
use Rattle.omnistat.specs.declared.frame.Framed.{Framed}
use Rattle.omnistat.specs.declared.group.Group.{Group}
use Rattle.omnistat.specs.declared.message.Run.{Run}
use Rattle.omnistat.specs.declared.text.Texted.{Texted}
use Rattle.omnistat.specs.Text.{Text}
use Rattle.omnistat.specs.Answer.{text_in}

-- a frame's data bytes are the part of the message between its second byte and its sum
abbrev pub framed_in : List ℕ → Framed → Frame
framed_in bytes f = framed f.first f.kind (take f.count (drop 2 bytes))

-- the group that a type names
abbrev pub named_of : Option Group → Outcome Group
named_of (Some g) = accepted g
named_of None = refused 6

-- a start register and the values that follow it in a message
abbrev pub run_in : List ℕ → Run → ℕ × List ℕ
run_in bytes r = (r.start, take r.count (drop 3 bytes))

-- a text with its address
abbrev pub texted_in : List ℕ → Texted → ℕ × Text
texted_in bytes t = (t.address, text_in bytes t.half t.start t.count)

-- an answer about data bytes is this outcome in every message that they stand in, whatever follows them
abbrev pub Says : {A M : Type 0} → (List ℕ → A → M) → List ℕ → Result A Refusal → Outcome M → Type 0
Says reading payload answer o = (rest : List ℕ) → on_accepted (reading (0 ∷ 0 ∷ (payload ++ rest))) (outcome_of answer) ≡ o

-- only that a message is accepted
abbrev pub passed : {M : Type 0} → M → Unit {0}
passed m = tt
