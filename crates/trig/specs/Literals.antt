-- Numbers of `trigfun` that no other part of the source has, by their binary32 bits. Definitions only.
use Rattle.std.specs.Prelude.{true, ◌≡◌, refl, [], ◌∷◌, Float}
use Rattle.std.specs.Float.Ieee.{round, of_bits, to_bits}
use Rattle.floats.specs.Literals.{literal}
use Rattle.floats.specs.Decimals.{written, nearest, all_nearest}

abbrev pub n0·005 : Float
n0·005 = literal 0x3ba3d70a

abbrev pub n90·05 : Float
n90·05 = literal 0x42b4199a

abbrev pub n90·105 : Float
n90·105 = literal 0x42b435c3

pub literals_nearest : all_nearest (written 5 3 n0·005 ∷ written 9005 2 n90·05 ∷ written 90105 3 n90·105 ∷ []) ≡ true
unfolding nearest all_nearest round of_bits to_bits
literals_nearest = refl
