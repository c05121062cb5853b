-- What the functions behind the reader and the writers promise one another.
use Rattle.std.specs.Prelude.{ℕ, ◌+◌, ◌<◌, ◌≡◌, not, cond, List, eqb, Option, Some, None}
use Rattle.std.proofs.Math.Seq.{slice}
use Rattle.answer.specs.Answer.{Outcome, refused, accepted, refuse_if}
use Rattle.x10.specs.Places.{are_places, start_code, starts_with}
use Rattle.x10.specs.declared.parts.Codes.{Codes}
use Rattle.x10.specs.Codes.{index_of}
use Rattle.x10.specs.Pattern.{Message, unit, ending, read_function, read}

-- what pairs of places say: 5 for a wrong complement
abbrev pub spelling_of : Option ℕ → Outcome ℕ
spelling_of (Some n) = accepted n
spelling_of None = refused 5

-- house and key: a unit, or by the key
unfoldable pub by_codes : List ℕ → ℕ → ℕ → ℕ → Outcome Message
by_codes places house key d16 =
    cond (eqb d16 0)
    (ending 22 places (unit (index_of house) (index_of key + 1)))
    (read_function places house key)

-- what refuses the first 22 places where the start code or a complement is wrong: 8, 2, then 5
unfoldable pub refused_key : List ℕ → Outcome Message
refused_key places =
    refuse_if (not (are_places (slice 0 22 places))) 8
    (refuse_if (not (starts_with start_code places)) 2
    (refused 5))

-- what refuses the rest of an Extended 1 where a complement is wrong: 8, then 5
unfoldable pub refused_rest : List ℕ → Outcome Message
refused_rest places = refuse_if (not (are_places (slice 22 62 places))) 8 (refused 5)

-- what the codes of the first 22 places say of the reader: it goes on by them, or, where there are none, it refuses the first 22 places
abbrev pub Begins : List ℕ → Option Codes → Type 0
Begins places (Some c) = (read places ≡ by_codes places c.house c.key c.d16) × (c.house < 16) × (c.key < 16) × (c.d16 < 2)
Begins places None = read places ≡ refused_key places
