-- `Opposite x y`: y is x with its sign flipped, or both are zeros, of any sign.
-- The second arm is needed because a sum that cancels is +0 whichever way round its operands' signs stand. Definitions only.
use Rattle.std.specs.Prelude.{◌≡◌, Bool, Float}
use Rattle.std.specs.Float.Ieee.{neg}
use Rattle.floats.specs.Ops.{zero±}

pub data Opposite (x y : Float) : Type 0 where
  negated : y ≡ neg x → Opposite x y
  zeros : (s t : Bool) → x ≡ zero± s → y ≡ zero± t → Opposite x y
