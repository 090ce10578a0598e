-- Document 02, card 12: the dearest station to set up. A reading is a gain that the search takes. Definitions only.
use Rattle.std.specs.Prelude.{ℕ, ◌+◌, ◌≤◌, ◌≡◌, ◌⊎◌, List, pos, Float}
use Rattle.std.specs.Float.Ieee.{to_signed}
use Rattle.model.specs.Limits.{slot}
use Rattle.model.specs.Types.{jant_of}
use Rattle.answers.specs.Outcome.{accepted}
use Rattle.antenna.specs.SetUp.{set_up_of}
use Rattle.antenna.specs.declared.record.Antenna.{Antenna}
use Rattle.dear_stations.specs.DearestStations.{dear_station, silent_station, Takes}

-- types 1 to 4 with a slew, slot 9, that does not truncate to 0
abbrev pub Slewed : List Float → Type 0
Slewed p = (jant_of (slot p 1) ≤ 4) × (to_signed 31 (slot p 9) ≡ pos 0 → ⊥)

-- type 4, the tropical antennas
abbrev pub Tropical : List Float → Type 0
Tropical p = jant_of (slot p 1) ≡ 4

pub record Dearest : Type 0 where
  -- never above 141
  pub at_most : (p : List Float) (size : ℕ) (a : Antenna) (readings : ℕ) → set_up_of p size ≡ accepted (a, readings) → readings ≤ 141
  -- 19 for the sweep, up to 21 and 11 for the two azimuth passes, 90 elevations
  pub parts : (p : List Float) (size : ℕ) (a : Antenna) (readings : ℕ) → set_up_of p size ≡ accepted (a, readings) → Slewed p ⊎ Tropical p
      → (first : ℕ) × (last : ℕ) × (first ≤ 21) × (last ≤ 11) × (readings ≡ 19 + first + 90 + last)
  -- unslewed types other than 4: 90
  pub unslewed : (p : List Float) (size : ℕ) (a : Antenna) (readings : ℕ) → set_up_of p size ≡ accepted (a, readings)
      → (Slewed p → ⊥) → (Tropical p → ⊥) → readings ≡ 90
  -- one station takes 141
  pub dear : Takes dear_station 141
  -- and not every slewed one does
  pub less_dear : Takes silent_station 140
