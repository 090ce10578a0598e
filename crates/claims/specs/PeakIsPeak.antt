-- Document 02, card 11: the peak is the peak. A reading is a gain that the search takes; a direction is an elevation and an azimuth.
-- Definitions only.
use Rattle.std.specs.Prelude.{ℕ, ◌+◌, ◌≡◌, true, T, length, Float}
use mathlib.Core.List.{List, ◌∷◌, map, Memᴰ}
use Rattle.std.specs.Float.{binary32}
use Rattle.std.specs.Float.Ieee.{le, fits}
use Rattle.std.specs.Float.Ieee.Scale.{finite}
use Rattle.floats.specs.Ops.{count, +0}
use Rattle.model.specs.Limits.{slot}
use Rattle.model.specs.Types.{jant_of}
use Rattle.ground.specs.Table.{table_of}
use Rattle.answers.specs.Outcome.{accepted}
use Rattle.answers.specs.declared.Kind.{Kind}
use Rattle.antenna.specs.Gain.{floor_level, gain_of}
use Rattle.parameters.specs.Limits.{start_of}
use Rattle.search.specs.Peaks.{Greatest, LastPeak}
use Rattle.plate_row.specs.Row.{larger}
use Rattle.search.specs.Search.{gain_at, plane_directions, peak_directions}
use Rattle.antenna.specs.SetUp.{model_of, set_up_of, lent_after}
use Rattle.antenna.specs.declared.record.Antenna.{Antenna}
use Rattle.claims.specs.Dearest.{Slewed, Tropical}

-- the directions that set-up's search of the parameters p reads in the elevation pass and, where there is one, the last azimuth pass
abbrev pub peak_read : List Float → List (Float × Float)
peak_read p = let m = model_of (jant_of (slot p 1)) p in peak_directions m (table_of m) (start_of (jant_of (slot p 1)) p)

-- and before them in the horizontal plane, where it is searched
abbrev pub plane_read : List Float → List (Float × Float)
plane_read p = let m = model_of (jant_of (slot p 1)) p in plane_directions m (table_of m) (start_of (jant_of (slot p 1)) p).vmax

-- the gain read at a direction
abbrev pub gain_read : List Float → Float × Float → Float
gain_read p = let m = model_of (jant_of (slot p 1)) p in gain_at m (table_of m)

pub record PeakIsPeak : Type 0 where
  -- the reading count of set-up's answer counts each of these directions once
  pub counted : (p : List Float) (size : ℕ) (a : Antenna) (readings : ℕ) → set_up_of p size ≡ accepted (a, readings)
      → readings ≡ length (plane_read p) + length (peak_read p)
  -- z6 is the greatest of 0 and all gains read in the elevation pass and, where there is one, the last azimuth pass
  pub greatest : (p : List Float) (size : ℕ) (a : Antenna) (readings : ℕ) → set_up_of p size ≡ accepted (a, readings)
      → Greatest a.peak.z6 (+0 ∷ map (gain_read p) (peak_read p))
  -- at each such direction `ccirgain`, with the record and the table that set-up left and a finite maximum gain (an f32, as each that a
  -- caller hands over), isn't refused: its number lies between -30 and the larger of -30 and the maximum gain
  pub number : (p lent : List Float) (a : Antenna) (readings : ℕ) → set_up_of p (length lent) ≡ accepted (a, readings)
      → (d : Float × Float) → Memᴰ d (peak_read p) → (giso : Float) → finite giso ≡ true → T (fits binary32 giso)
      → (k : Kind) × (g : Float) × (gain_of a (lent_after p lent) d.0 d.1 giso ≡ accepted (k, g))
      × T (le floor_level g) × T (le g (larger floor_level giso))
  -- without slew and outside type 4, where some reading is 0 or more, the elevation reported is the last of 1 to 90 that has the peak
  pub elevation : (p : List Float) (size : ℕ) (a : Antenna) (readings : ℕ) → set_up_of p size ≡ accepted (a, readings)
      → (Slewed p → ⊥) → (Tropical p → ⊥) → (d : Float × Float) → Memᴰ d (peak_read p) → T (le +0 (gain_read p d))
      → LastPeak (λ (k : ℕ). gain_read p (count k, a.peak.vmax)) 90 a.peak.z6 a.peak.umax
