-- Numbers of `setmaxgain` and its interpolations that no other part of the source has, by their binary32 bits. Definitions only.
use Rattle.std.specs.Prelude.{◌≡◌, true, [], ◌∷◌, refl, Float}
use Rattle.std.specs.Float.Ieee.{round, of_bits, to_bits}
use Rattle.floats.specs.Literals.{literal}
use Rattle.floats.specs.Decimals.{written, nearest, all_nearest}

abbrev pub n0·7 : Float
n0·7 = literal 0x3f333333

abbrev pub n1·4 : Float
n1·4 = literal 0x3fb33333

abbrev pub n0·85 : Float
n0·85 = literal 0x3f59999a

abbrev pub n1·2 : Float
n1·2 = literal 0x3f99999a

abbrev pub n28 : Float
n28 = literal 0x41e00000

pub literals_nearest :
    all_nearest (written 7 1 n0·7 ∷ written 14 1 n1·4 ∷ written 85 2 n0·85 ∷ written 12 1 n1·2 ∷ written 28 0 n28 ∷ []) ≡ true
unfolding nearest all_nearest round of_bits to_bits
literals_nearest = refl
