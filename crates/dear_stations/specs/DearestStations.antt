-- The dearest station, and one that is less dear. Definitions only.
use Rattle.std.specs.Prelude.{ℕ, ◌≡◌, List, [], ◌∷◌, Float}
use Rattle.floats.specs.Ops.{+0}
use Rattle.floats.specs.Literals.{literal, half, two, four, ten}
use Rattle.model.specs.Table.{table_size}
use Rattle.answers.specs.Outcome.{accepted}
use Rattle.antenna.specs.SetUp.{set_up_of}
use Rattle.antenna.specs.declared.record.Antenna.{Antenna}

-- a dual-band reflector array of 2 by 2 dipoles, at 10 MHz over ground 4 and 0.01, half a wave up, slewed by 10 degrees
abbrev pub dear_station : List Float
dear_station =
    +0 ∷ two ∷ four ∷ literal 0x3c23d70a ∷ ten ∷ two ∷ two ∷ ten ∷ half ∷ ten ∷ half ∷ +0 ∷ +0 ∷ +0 ∷ +0 ∷ +0 ∷ +0 ∷ +0 ∷ +0 ∷ +0 ∷ []

-- the same without a dipole, so that no gain is above 0, searched from 22.03 degrees
abbrev pub silent_station : List Float
silent_station =
    +0 ∷ two ∷ four ∷ literal 0x3c23d70a ∷ ten ∷ +0 ∷ two ∷ ten ∷ half ∷ ten ∷ half ∷ +0 ∷ literal 0x41b03d71 ∷ +0 ∷ +0 ∷ +0 ∷ +0 ∷ +0 ∷ +0 ∷ +0 ∷ []

-- set-up accepts the parameters with just so many readings
abbrev pub Takes : List Float → ℕ → Type 0
Takes p readings = (a : Antenna) × (set_up_of p table_size ≡ accepted (a, readings))
