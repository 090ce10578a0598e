-- Beside demand 3: of type 9, the crossed dipoles, document 01 claims no mirror law. It holds there too, and at 90 and 270 as well. Definitions only.
use Rattle.std.specs.Prelude.{ℕ, ◌-◌, ◌≤◌, ◌≡◌, List, Float}
use Rattle.floats.specs.Ops.{count}
use Rattle.model.specs.Limits.{slot}
use Rattle.model.specs.Types.{jant_of}
use Rattle.answers.specs.Outcome.{accepted}
use Rattle.antenna.specs.SetUp.{set_up_of}
use Rattle.antenna.specs.Gain.{gain_of}
use Rattle.antenna.specs.declared.record.Antenna.{Antenna}

pub record CrossedMirror : Type 0 where
  -- `ccirgain`, with an antenna record of type 9 that set-up left, at every elevation and maximum gain, finite or not, and with every table:
  -- the answer at each whole azimuth v from 0 to 360 is the answer at 360 - v
  pub ccirgain : (p : List Float) (n : ℕ) (a : Antenna) (readings : ℕ) → set_up_of p n ≡ accepted (a, readings) → jant_of (slot p 1) ≡ 9
      → (t : List Float) (u giso : Float) (v : ℕ) → v ≤ 360 → gain_of a t u (count v) giso ≡ gain_of a t u (count (360 - v)) giso
