-- Document 01, "Examples; marked ones are proved": the marked cases, the setpoint ones as document 02, K2, has them, with the broadcast that
-- it names, and the cost of 65026 as K4 has it, as one statement about the definitions.
use Rattle.std.specs.Prelude.{ℕ, ◌≤◌, ◌≡◌, true, List, [], ◌∷◌, length}
use Rattle.answer.specs.Answer.{refused, accepted}
use Rattle.link.specs.Frame.{read_frame}
use Rattle.message.specs.Message.{fixed, read_message}
use Rattle.message.specs.declared.message.Fixed.TheVariants.{Acknowledge, NegativeAcknowledge}
use Rattle.omnistat.specs.declared.frame.End.TheVariants.{Thermostat}
use Rattle.omnistat.specs.declared.group.Group.TheVariants.{First}
use Rattle.omnistat.specs.Message.{poll_group}
use Rattle.omnistat.specs.Omnistat as Omnistat
use Rattle.thermostat.specs.Map.{content, put}
use Rattle.thermostat.specs.Texts.{store_allowed}
use Rattle.thermostat.specs.Step.{step}
use Rattle.tally.specs.Cost.{millionths}
use Rattle.x10.specs.Pattern as X10

-- every case of a list holds
unfoldable pub Holds : List (Type 0) → Type 0
Holds [] = Unit {0}
Holds (c ∷ cs) = c × Holds cs

-- house A, unit 1, on the line
abbrev pub a1 : List ℕ
a1 = 1 ∷ 1 ∷ 1 ∷ 0 ∷ 0 ∷ 1 ∷ 1 ∷ 0 ∷ 1 ∷ 0 ∷ 0 ∷ 1 ∷ 0 ∷ 1 ∷ 1 ∷ 0 ∷ 1 ∷ 0 ∷ 0 ∷ 1 ∷ 0 ∷ 1 ∷ []

-- the marked cases in the paper's order, and the broadcast of document 02, K2, in its place among them. Those of thermostat 1 go by its map,
-- its text store and the length of the output
abbrev pub marked : List ℕ → List ℕ → ℕ → List (Type 0)
marked map texts room =
    -- Omni-Link
    (read_message (0x5A ∷ 0x01 ∷ 0x05 ∷ 0xC1 ∷ 0x93 ∷ []) ≡ accepted (fixed Acknowledge))
    ∷ (read_message (0x5A ∷ 0x01 ∷ 0x06 ∷ 0x81 ∷ 0x92 ∷ []) ≡ accepted (fixed NegativeAcknowledge))
    ∷ (read_frame (0x5A ∷ 0x01 ∷ 0x85 ∷ 0xC0 ∷ 0x33 ∷ []) ≡ accepted (record { kind = 0x85; bytes = [] }))
    ∷ (read_message (0x5A ∷ 0x01 ∷ 0x85 ∷ 0xC0 ∷ 0x33 ∷ []) ≡ refused 6)
    ∷ (read_frame (0x5A ∷ 0x00 ∷ []) ≡ refused 3)
    ∷ (read_frame (0x5A ∷ 0x41 ∷ []) ≡ refused 1)
    ∷ (read_frame (0x5A ∷ 0x01 ∷ 0x05 ∷ 0xC1 ∷ 0x92 ∷ []) ≡ refused 5)
    -- Omnistat2
    ∷ (Omnistat.read Thermostat (0x01 ∷ 0x02 ∷ 0x03 ∷ []) ≡ accepted (Omnistat.addressed_counted Thermostat 1 (poll_group First)))
    ∷ (step 1 map texts (0x01 ∷ 0x21 ∷ 0x3B ∷ 0x50 ∷ 0xAD ∷ []) room ≡ accepted (record { sent = 0x81 ∷ 0x01 ∷ 0x82 ∷ []; map = map; texts = texts }))
    ∷ (step 1 map texts (0x01 ∷ 0x21 ∷ 0x3B ∷ 0x7C ∷ 0xD9 ∷ []) room ≡ accepted (record { sent = 0x81 ∷ 0x00 ∷ 0x81 ∷ []; map = put map 59 124; texts = texts }))
    ∷ (content (put map 59 124) 59 ≡ 124)
    ∷ (step 1 map texts (0x00 ∷ 0x21 ∷ 0x3B ∷ 0x50 ∷ 0xAC ∷ []) room ≡ accepted (record { sent = []; map = map; texts = texts }))
    -- cost
    ∷ (millionths 34567 ≡ 4567000)
    ∷ (millionths 65026 ≡ 5026)
    -- X-10
    ∷ (X10.write (X10.unit 0 1) ≡ accepted a1)
    ∷ (X10.read a1 ≡ accepted (X10.unit 0 1))
    ∷ []

-- every marked case holds, whatever the map of 256 bytes, the text store of 610 that a step takes, and the output of at least 65
abbrev pub MarkedExamples : Type 0
MarkedExamples =
    (map texts : List ℕ) (room : ℕ) → length map ≡ 256 → length texts ≡ 610 → store_allowed texts ≡ true → 65 ≤ room → Holds (marked map texts room)
