-- Document 01, "X-10 patterns": what a pattern says, its reading and its writing.
use Rattle.std.specs.Prelude.{ℕ, ◌+◌, ◌<◌, not, cond, List, ◌++◌, eqb, ltb, length}
use Rattle.std.proofs.Math.Seq.{slice}
use Rattle.answer.specs.Answer.{Outcome, accepted, refuse_if, and_then}
use Rattle.x10.specs.declared.Function.{Function}
use Rattle.x10.specs.Codes.{index_of, house_code, unit_code, function_code, function_of, extended1}
use Rattle.x10.specs.Places.{are_places, start_code, starts_with, paired, bits, spelled}

-- a house with a unit, a house with a function, and Extended 1 with house, unit, data and command; house 0 to 15, unit 1 to 16
pub data Message : Type 0 where
  unit : ℕ → ℕ → Message
  function : ℕ → Function → Message
  extended : ℕ → ℕ → ℕ → ℕ → Message

-- data and command are bytes
abbrev pub Bytes : Message → Type 0
Bytes (unit house u) = Unit {0}
Bytes (function house f) = Unit {0}
Bytes (extended house u data' command) = (data' < 256) × (command < 256)

-- the last check: 4 where places follow the pattern
abbrev pub ending : ℕ → List ℕ → Message → Outcome Message
ending n places m = refuse_if (ltb n (length places)) 4 (accepted m)

-- the rest of an Extended 1: 1, 8, 5, then 4
unfoldable pub read_rest : List ℕ → ℕ → Outcome Message
read_rest places house =
    refuse_if (ltb (length places) 62) 1
    (refuse_if (not (are_places (slice 22 62 places))) 8
    (and_then (spelled (slice 22 30 places)) λ key.
    and_then (spelled (slice 30 46 places)) λ data'.
    and_then (spelled (slice 46 62 places)) λ command.
    ending 62 places (extended (index_of house) (index_of key + 1) data' command)))

-- a key with D16 1: Extended 1, a function, or 6
unfoldable pub read_function : List ℕ → ℕ → ℕ → Outcome Message
read_function places house key =
    cond (eqb key extended1)
    (read_rest places house)
    (and_then (function_of key) λ f. ending 22 places (function (index_of house) f))

-- house and key: 5 where a complement is wrong
unfoldable pub read_key : List ℕ → Outcome Message
read_key places =
    and_then (spelled (slice 4 12 places)) λ house.
    and_then (spelled (slice 12 20 places)) λ key.
    and_then (spelled (slice 20 22 places)) λ d16.
    cond (eqb d16 0)
    (ending 22 places (unit (index_of house) (index_of key + 1)))
    (read_function places house key)

-- the first 22 places: 1, 8, 2, 5, 6; then what follows them
unfoldable pub read : List ℕ → Outcome Message
read places =
    refuse_if (ltb (length places) 22) 1
    (refuse_if (not (are_places (slice 0 22 places))) 8
    (refuse_if (not (starts_with start_code places)) 2
    (read_key places)))

-- start code, house H8 H4 H2 H1, key D8 D4 D2 D1 D16
unfoldable pub standard : ℕ → ℕ → ℕ → List ℕ
standard house key d16 = start_code ++ (paired (bits 4 house) ++ (paired (bits 4 key) ++ paired (bits 1 d16)))

-- Extended 1 goes on with unit, data and command
unfoldable pub extension : ℕ → ℕ → ℕ → List ℕ
extension key data' command = paired (bits 4 key) ++ (paired (bits 8 data') ++ paired (bits 8 command))

-- the places of a pattern: 8 for a house or a unit outside its list
unfoldable pub write : Message → Outcome (List ℕ)
write (unit house u) =
    and_then (house_code house) λ h.
    and_then (unit_code u) λ k.
    accepted (standard h k 0)
write (function house f) =
    and_then (house_code house) λ h.
    accepted (standard h (function_code f) 1)
write (extended house u data' command) =
    and_then (house_code house) λ h.
    and_then (unit_code u) λ k.
    accepted (standard h extended1 1 ++ extension k data' command)

-- a function by its code: 6 where it is none that takes 22 places
unfoldable pub write_function_code : ℕ → ℕ → Outcome (List ℕ)
write_function_code house code = and_then (function_of code) λ f. write (function house f)
