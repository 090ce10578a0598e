-- How many readings of the pattern a factor takes.
use Prim.Native.Nat.{◌≤◌}
use mathlib.Core.Path.{◌≡◌}
use mathlib.Core.Bool.{Bool, true, false, cond}
use native.Mathlib.Omega.{arith}
use lib.Ieee.{Float, neg, eq}
use Rattle.curtain_pattern.specs.Literals.{n99999}
use Rattle.curtain.specs.Level.{factor_readings}
use Rattle.curtain_pattern.specs.declared.pattern.Curtain.{Curtain}
use Rattle.curtain_pattern.proofs.ReadingCount.{integral-readings}

-- a factor takes the integral's readings, or none where it is given
pub factor-readings : (ant : Curtain) (gnorm : Float) → factor_readings ant gnorm ≡ cond (eq gnorm (neg n99999)) 16471 0
unfolding factor_readings
factor-readings ant gnorm = rw integral-readings

pub at_most : (ant : Curtain) (gnorm : Float) → factor_readings ant gnorm ≤ 16471
at_most ant gnorm = rw factor-readings (either (eq gnorm (neg n99999)))
  where
    either : (b : Bool) → cond b 16471 0 ≤ 16471
    either true = omega arith
    either false = omega arith
