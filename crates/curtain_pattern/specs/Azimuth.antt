-- The azimuth, in radians, taken from behind the curtain to the front. Definitions only.
use Rattle.std.specs.Prelude.{Bool, ◌&&◌, cond, Float}
use Rattle.std.specs.Float.Ieee.{lt}
use Rattle.numeric.specs.Float.{mag, copy_sign}
use Rattle.floats.specs.Ops.{◌⊖◌, ◌⊗◌}
use Rattle.floats.specs.Literals.{three}
use Rattle.curtain_pattern.specs.Literals.{PI, PIO2}

-- `iaz`: the azimuth lies behind
unfoldable pub iaz : Float → Bool
iaz azim = lt PIO2 (mag azim) && lt (mag azim) (three ⊗ PIO2)

unfoldable pub folded : Float → Float
folded azim = cond (iaz azim) (azim ⊖ copy_sign PI azim) azim
