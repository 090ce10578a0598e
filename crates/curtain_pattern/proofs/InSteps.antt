-- `f2` in two steps, as the integral takes it, is `f2`.
use mathlib.Core.Path.{◌≡◌, refl}
use lib.Ieee.{Float}
use Rattle.curtain_pattern.specs.Pattern.{f2}
use Rattle.curtain_pattern.specs.PatternSteps.{elevation_of, f2_at}
use Rattle.curtain_pattern.specs.declared.pattern.Curtain.{Curtain}

pub f2_in_steps : (ant : Curtain) (theta phi : Float) → f2_at ant (elevation_of ant theta) phi ≡ f2 ant theta phi
unfolding f2 f2_at elevation_of
f2_in_steps ant theta phi = refl
