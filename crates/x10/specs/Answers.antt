-- What the code's patterns say in the paper's terms, and how an accepted pattern is packed for C.
use Rattle.std.specs.Prelude.{List, [], ◌∷◌}
use Rattle.answer.specs.Packed.{Field, byte}
use Rattle.x10.specs.declared.Pattern.{Pattern}
use Rattle.x10.specs.declared.Pattern.TheVariants.{Unit as Unit', Function as Function', Extended}
use Rattle.x10.specs.Codes.{function_code}
use Rattle.x10.specs.Pattern.{Message, unit, function, extended}

-- what a pattern of the code says
abbrev pub message : Pattern → Message
message (Unit' house u) = unit house u
message (Function' house f) = function house f
message (Extended house u data' command) = extended house u data' command

-- for C: kind 0, 1 or 2, house, unit or function code, data, command
abbrev pub fields : Message → List Field
fields (unit house u) = byte 0 ∷ byte house ∷ byte u ∷ byte 0 ∷ byte 0 ∷ []
fields (function house f) = byte 1 ∷ byte house ∷ byte (function_code f) ∷ byte 0 ∷ byte 0 ∷ []
fields (extended house u data' command) = byte 2 ∷ byte house ∷ byte u ∷ byte data' ∷ byte command ∷ []
