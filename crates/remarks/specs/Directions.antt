-- Which directions of a plate are remarked on, by `ccirgain`'s answers there. Definitions only.
use Rattle.std.specs.Prelude.{ℕ, zero, suc, ◌+◌, Bool, true, false, cond, ◌&&◌, List, Float}
use Rattle.floats.specs.Ops.{count, +0}
use Rattle.answers.specs.Outcome.{Outcome, refused, accepted}
use Rattle.answers.specs.declared.Kind.{Kind}
use Rattle.answers.specs.declared.Kind.TheVariants.{Level, Floor, Silence}
use Rattle.antenna.specs.Gain.{gain_of}
use Rattle.request.specs.declared.Request.{Request}

unfoldable pub is_floor : Outcome (Kind × Float) → Bool
is_floor (refused n) = false
is_floor (accepted (Level, g)) = false
is_floor (accepted (Floor, g)) = true
is_floor (accepted (Silence, g)) = false

unfoldable pub is_level : Outcome (Kind × Float) → Bool
is_level (refused n) = false
is_level (accepted (Level, g)) = true
is_level (accepted (Floor, g)) = false
is_level (accepted (Silence, g)) = false

-- whether all answers at the azimuths below n are floors
unfoldable pub floors_to : (ℕ → Outcome (Kind × Float)) → ℕ → Bool
floors_to answers zero = true
floors_to answers (suc v) = floors_to answers v && is_floor (answers v)

-- what `ccirgain` answers at an azimuth below the peak: with a maximum gain of 0
abbrev pub relative_at : Request → List Float → ℕ → Outcome (Kind × Float)
relative_at q t v = gain_of q.antenna t q.elevation (count v) +0

-- how many answers at the azimuths below n are at the limit: levels that below the peak are a floor, 30 dB down
unfoldable pub limits_to : (ℕ → Outcome (Kind × Float)) → (ℕ → Outcome (Kind × Float)) → ℕ → ℕ
limits_to answers relative zero = 0
limits_to answers relative (suc v) = limits_to answers relative v + cond (is_level (answers v) && is_floor (relative v)) 1 0
