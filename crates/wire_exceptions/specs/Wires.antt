-- Two stations, of types 7 and 8, that break the mirror law. Definitions only.
use Rattle.std.specs.Prelude.{List, ◌∷◌, replicate, Float}
use Rattle.floats.specs.Ops.{count, +0}

-- by the sea, at 10 MHz: slot 1 is the type, 2 the permittivity, 3 the conductivity and 4 the frequency

-- type 7: legs of 100 metres, 20 metres up, with a tilt angle of 60 degrees
abbrev pub rhombic : List Float
rhombic = +0 ∷ count 7 ∷ count 80 ∷ count 5 ∷ count 10 ∷ count 100 ∷ count 20 ∷ count 60 ∷ replicate 12 +0

-- type 8, a wave up
abbrev pub quadrant : List Float
quadrant = +0 ∷ count 8 ∷ count 80 ∷ count 5 ∷ count 10 ∷ count 10 ∷ count 1 ∷ replicate 13 +0
