-- Document 01, "X-10 patterns": the code list of houses and units, and document 001's table of functions.
use Rattle.std.specs.Prelude.{ℕ, suc, ◌-◌, cond, List, [], ◌∷◌, eqb, ltb, get_or}
use Rattle.answer.specs.Answer.{Outcome, refused, accepted, refuse_if}
use Rattle.x10.specs.declared.Function.{Function}
use Rattle.x10.specs.declared.Function.TheVariants.{AllUnitsOff, AllLightsOn, On, Off, Dim, Bright, AllLightsOff, HailRequest, HailAcknowledge, StatusOn, StatusOff, StatusRequest}

-- the code list, in order: houses A to P, and units 1 to 16
abbrev pub codes : List ℕ
codes =
    0b0110 ∷ 0b1110 ∷ 0b0010 ∷ 0b1010 ∷ 0b0001 ∷ 0b1001 ∷ 0b0101 ∷ 0b1101
    ∷ 0b0111 ∷ 0b1111 ∷ 0b0011 ∷ 0b1011 ∷ 0b0000 ∷ 0b1000 ∷ 0b0100 ∷ 0b1100 ∷ []

-- the code at a place of the list: house 0 is A
unfoldable pub code_at : ℕ → ℕ
code_at i = get_or codes i 0

-- the place of a code in a list
abbrev pub position : List ℕ → ℕ → ℕ
position [] code = 0
position (x ∷ xs) code = cond (eqb x code) 0 (suc (position xs code))

-- the place of a code in the code list
unfoldable pub index_of : ℕ → ℕ
index_of code = position codes code

-- to a writer: the code of house 0 to 15, else 8
unfoldable pub house_code : ℕ → Outcome ℕ
house_code house = refuse_if (ltb 15 house) 8 (accepted (code_at house))

-- to a writer: the code of unit 1 to 16, by the same list, else 8
unfoldable pub unit_code : ℕ → Outcome ℕ
unit_code u = refuse_if (eqb u 0) 8 (house_code (u - 1))

-- document 001's functions that take 22 places: D8 D4 D2 D1, with D16 1
abbrev pub function_code : Function → ℕ
function_code AllUnitsOff = 0b0000
function_code AllLightsOn = 0b0001
function_code On = 0b0010
function_code Off = 0b0011
function_code Dim = 0b0100
function_code Bright = 0b0101
function_code AllLightsOff = 0b0110
function_code HailRequest = 0b1000
function_code HailAcknowledge = 0b1001
function_code StatusOn = 0b1101
function_code StatusOff = 0b1110
function_code StatusRequest = 0b1111

-- Extended 1, which goes on in 62 places
abbrev pub extended1 : ℕ
extended1 = 0b0111

abbrev pub functions : List Function
functions =
    AllUnitsOff ∷ AllLightsOn ∷ On ∷ Off ∷ Dim ∷ Bright ∷ AllLightsOff ∷ HailRequest ∷ HailAcknowledge
    ∷ StatusOn ∷ StatusOff ∷ StatusRequest ∷ []

-- the function of a list with a code; 6 where none has it
abbrev pub function_in : List Function → ℕ → Outcome Function
function_in [] code = refused 6
function_in (f ∷ fs) code = cond (eqb (function_code f) code) (accepted f) (function_in fs code)

-- the function with a code; 6 for 1011 and the extended codes
unfoldable pub function_of : ℕ → Outcome Function
function_of code = function_in functions code
