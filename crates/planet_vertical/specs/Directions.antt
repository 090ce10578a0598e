-- Document 02, card 14: the two parts' directions, and `ccirgain`'s answers there. Definitions only.
use Rattle.std.specs.Prelude.{ℕ, zero, suc, ◌-◌, cond, List, [], ◌∷◌, ◌++◌, ltb, Float}
use Rattle.floats.specs.Ops.{count}
use Rattle.answers.specs.Outcome.{Outcome, accepted}
use Rattle.answers.specs.declared.Kind.{Kind}
use Rattle.antenna.specs.Gain.{gain_of}
use Rattle.request.specs.declared.Request.{Request}
use Rattle.request.specs.Request.{and_then}

-- horizontal: the plate row's, an azimuth at the elevation given
abbrev pub horizontal_gain : Request → List Float → ℕ → Outcome (Kind × Float)
horizontal_gain q t angle = gain_of q.antenna t q.elevation (count angle) q.giso

-- vertical: "0 to 90 are elevations at azimuth 0, 91 to 180 are elevation 180 less the angle at azimuth 180"
unfoldable pub elevation_at : ℕ → ℕ
elevation_at angle = cond (ltb 90 angle) (180 - angle) angle

unfoldable pub azimuth_at : ℕ → ℕ
azimuth_at angle = cond (ltb 90 angle) 180 0

abbrev pub vertical_gain : Request → List Float → ℕ → Outcome (Kind × Float)
vertical_gain q t angle = gain_of q.antenna t (count (elevation_at angle)) (count (azimuth_at angle)) q.giso

-- a gain's number, without its kind
unfoldable pub number_of : Outcome (Kind × Float) → Outcome Float
number_of gain = and_then gain λ (g : Kind × Float). accepted g.1

-- the numbers at the angles below n, or the first refusal among them
unfoldable pub numbers_to : (ℕ → Outcome (Kind × Float)) → ℕ → Outcome (List Float)
numbers_to gain zero = accepted []
numbers_to gain (suc n) = and_then (numbers_to gain n) λ (xs : List Float). and_then (number_of (gain n)) λ (x : Float). accepted (xs ++ (x ∷ []))
