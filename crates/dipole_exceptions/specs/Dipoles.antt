-- A station of type 2 that breaks the mirror law, with a slew and, at 90, without. Definitions only.
use Rattle.std.specs.Prelude.{ℕ, List, ◌∷◌, replicate, Float}
use Rattle.floats.specs.Ops.{count, +0}

-- by the sea, at 10 MHz: slot 1 is the type, 2 the permittivity, 3 the conductivity and 4 the frequency

-- type 2: three dipoles in a row, a wave up, slewed by so many degrees
abbrev pub dipoles : ℕ → List Float
dipoles slew =
    +0 ∷ count 2 ∷ count 80 ∷ count 5 ∷ count 10 ∷ count 3 ∷ count 1 ∷ count 10 ∷ count 1 ∷ count slew ∷ count 1 ∷ replicate 9 +0
