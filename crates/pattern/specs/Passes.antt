-- The relative gains of a pass. Definitions only.
use Rattle.std.specs.Prelude.{ℕ, suc, List, Float}
use Rattle.floats.specs.Ops.{count}
use Rattle.floats.specs.Filled.{filled_to}
use Rattle.model.specs.declared.record.Model.{Model}
use Rattle.pattern.specs.Gainrel.{gain_rel}

-- at azimuths 0 to n - 1, at elevation u
abbrev pub gains_around : Model → List Float → Float → ℕ → List Float
gains_around m t u n = filled_to (λ (v : ℕ). gain_rel m t u (count v)) 360 n

-- at elevations 1 to n, at azimuth v
abbrev pub gains_up : Model → List Float → Float → ℕ → List Float
gains_up m t v n = filled_to (λ (i : ℕ). gain_rel m t (count (suc i)) v) 90 n
