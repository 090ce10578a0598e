-- A slew that truncates to 0 has the sine +0, whatever stands after the point.
use mathlib.Core.Path.{◌≡◌, refl}
use lib.IntN.{pos}
use lib.Ieee.{Float, binary32, mul, of_bits, of_int, to_signed}
use Rattle.sine.specs.Sine.{sine}
use Rattle.sine.proofs.Laws.{sine-zero}
use Rattle.floats.specs.Ops.{◌⊗◌, +0, +0_is, zero±}
use Rattle.floats.specs.Literals.{q1}
use mathlib.Core.Bool.{false}

no_angle : of_int binary32 (pos 0) ⊗ q1 ≡ zero± false
unfolding of_int mul of_bits
no_angle = refl

-- sl, by the source's `(ifs as R * Q1).sin()` with ifs the truncated slot
pub unslewed : (slot : Float) → to_signed 31 slot ≡ pos 0 → sine (of_int binary32 (to_signed 31 slot) ⊗ q1) ≡ +0
unslewed slot e = rw (e, no_angle, +0_is) sine-zero
