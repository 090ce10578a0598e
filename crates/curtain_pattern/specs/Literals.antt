-- The constants of the source's module `curtain`, by their binary32 bits, which are those nearest to the decimals that it writes. Definitions only.
use Rattle.std.specs.Prelude.{true, ◌≡◌, refl, [], ◌∷◌, Float}
use Rattle.std.specs.Float.Ieee.{round, of_bits, to_bits}
use Rattle.floats.specs.Literals.{literal}
use Rattle.floats.specs.Decimals.{written, nearest, all_nearest}

-- not pi's nearest float, which is a unit higher
abbrev pub PI : Float
PI = literal 0x40490fda

-- the speed of light, in metres × MHz
abbrev pub VOFL : Float
VOFL = literal 0x4395e56f

abbrev pub PI2 : Float
PI2 = literal 0x40c90fdb

abbrev pub PIO2 : Float
PIO2 = literal 0x3fc90fdb

-- degrees to radians
abbrev pub D2R : Float
D2R = literal 0x3c8efa35

-- the least that a dipole's field is divided by
abbrev pub tiny : Float
tiny = literal 0x2b8cbccc

abbrev pub n1020 : Float
n1020 = literal 0x447f0000

abbrev pub n99999 : Float
n99999 = literal 0x47c34f80

pub literals_nearest :
    all_nearest
    (written 31415926 7 PI ∷ written 29979246 5 VOFL ∷ written 6283185307 9 PI2 ∷ written 1570796326 9 PIO2 ∷ written 1745329251 11 D2R
    ∷ written 1 12 tiny ∷ written 1020 0 n1020 ∷ written 99999 0 n99999 ∷ [])
    ≡ true
unfolding nearest all_nearest round of_bits to_bits
literals_nearest = refl
