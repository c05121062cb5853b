-- What the functions of the program promise one another.
use Rattle.std.specs.Prelude.{ℕ, List, [], ◌∷◌, ◌++◌}
use Rattle.listing.specs.Text.{space}
use Rattle.mend.specs.Printed.{hex_field}

-- bytes in hex, each closed by a space
unfoldable pub spaced : List ℕ → List ℕ
spaced [] = []
spaced (b ∷ s) = hex_field b space ++ spaced s
