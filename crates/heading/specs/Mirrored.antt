-- Document 01, demand 3: the antennas that the mirror law is about. Definitions only.
use Rattle.std.specs.Prelude.{ℕ, Bool, ◌&&◌, ◌||◌, leb, ℤ, pos, Float}
use Rattle.std.specs.Int.Signed.{le_z}
use Rattle.std.specs.Float.Ieee.{to_signed}

unfoldable pub is_zero : ℤ → Bool
is_zero z = le_z (pos 0) z && le_z z (pos 0)

-- `Symmetric` of crate `claims`, as a test: types 1 to 4 with a slew, slot 9, that truncates to 0; types 5 and 6
unfoldable pub mirrored_of : ℕ → Float → Bool
mirrored_of iant slew = (leb 1 iant && leb iant 4 && is_zero (to_signed 31 slew)) || (leb 5 iant && leb iant 6)
