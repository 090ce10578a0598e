-- Whole numbers by Rust's `as i32`. Definitions only.
use Rattle.std.specs.Prelude.{Bool, ◌||◌, ℤ, pos, Float}
use Rattle.std.specs.Int.Signed.{lt_z}
use Rattle.std.specs.Float.{binary32}
use Rattle.std.specs.Float.Ieee.{of_int, to_signed}

-- `x as i32` as a float
abbrev pub whole_of : Float → Float
whole_of x = of_int binary32 (to_signed 31 x)

-- a whole number but 0
unfoldable pub non_zero : ℤ → Bool
non_zero z = lt_z z (pos 0) || lt_z (pos 0) z
