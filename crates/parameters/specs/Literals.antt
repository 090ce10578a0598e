-- Numbers of the constants that no other part of the source has, by their binary32 bits. Definitions only.
use Rattle.std.specs.Prelude.{true, ◌≡◌, refl, [], ◌∷◌, Float}
use Rattle.std.specs.Float.Ieee.{round, of_bits, to_bits}
use Rattle.floats.specs.Literals.{literal}
use Rattle.floats.specs.Decimals.{written, nearest, all_nearest}

abbrev pub eight : Float
eight = literal 0x41000000

abbrev pub n0·001 : Float
n0·001 = literal 0x3a83126f

abbrev pub n0·048 : Float
n0·048 = literal 0x3d449ba6

-- the speed of light, in metres × MHz
abbrev pub n299·8 : Float
n299·8 = literal 0x4395e666

abbrev pub n18000 : Float
n18000 = literal 0x468ca000

pub literals_nearest :
    all_nearest (written 8 0 eight ∷ written 1 3 n0·001 ∷ written 48 3 n0·048 ∷ written 2998 1 n299·8 ∷ written 18000 0 n18000 ∷ []) ≡ true
unfolding nearest all_nearest round of_bits to_bits
literals_nearest = refl
