-- A station that set-up accepts, with an azimuth whose answer isn't that of its mirror. Definitions only.
use Rattle.std.specs.Prelude.{ℕ, ◌-◌, ◌≤◌, ◌≡◌, List, length, Float}
use Rattle.floats.specs.Ops.{count, +0}
use Rattle.model.specs.Table.{table_size}
use Rattle.answers.specs.Outcome.{accepted}
use Rattle.antenna.specs.TableSum.{table_sum}
use Rattle.antenna.specs.SetUp.{set_up_of}
use Rattle.answers.specs.declared.Kind.TheVariants.{Level}
use Rattle.antenna.specs.Gain.{gain_of}
use Rattle.antenna.specs.declared.record.Antenna.{Antenna}

-- the parameters p are accepted, and with a maximum gain of 0 the answers at elevation u are one level at azimuth v and another at 360 - v,
-- whatever stands in the table, as long as it has the record's sum, as set-up's own has (`sum-after-set-up`)
pub record Unlike (p : List Float) (u v : ℕ) (here there : Float) : Type 0 where
  pub antenna : Antenna
  pub readings : ℕ
  pub set_up_lem : (n : ℕ) → table_size ≤ n → set_up_of p n ≡ accepted (antenna, readings)
  pub at_v : (t : List Float) → table_size ≤ length t → table_sum t ≡ antenna.sum → gain_of antenna t (count u) (count v) +0 ≡ accepted (Level, here)
  pub at-mirror : (t : List Float) → table_size ≤ length t → table_sum t ≡ antenna.sum → gain_of antenna t (count u) (count (360 - v)) +0 ≡ accepted (Level, there)
  pub differ : here ≡ there → ⊥
