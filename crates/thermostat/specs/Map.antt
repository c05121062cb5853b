-- Document 01, "Registers and the model thermostat": the map of 256 bytes. What a register holds is said here alone.
use Rattle.std.specs.Prelude.{ℕ, zero, suc, List, [], ◌∷◌, get_or, set}

-- the content of register r
unfoldable pub content : List ℕ → ℕ → ℕ
content m r = get_or m r 0

-- the map with v in register r
unfoldable pub put : List ℕ → ℕ → ℕ → List ℕ
put m r v = set m r v

-- the contents of some registers, in their order
abbrev pub contents : List ℕ → List ℕ → List ℕ
contents m [] = []
contents m (r ∷ rs) = content m r ∷ contents m rs

-- a run of registers from a start
unfoldable pub run : ℕ → ℕ → List ℕ
run start zero = []
run start (suc count) = start ∷ run (suc start) count

-- the map with values in the registers from r on
unfoldable pub stored : List ℕ → ℕ → List ℕ → List ℕ
stored m r [] = m
stored m r (v ∷ vs) = stored (put m r v) (suc r) vs
