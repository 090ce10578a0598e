-- Numbers of `gainrel` that no other part of the source has, by their binary32 bits. Definitions only.
use Rattle.std.specs.Prelude.{true, ◌≡◌, refl, [], ◌∷◌, Float}
use Rattle.std.specs.Float.Ieee.{round, of_bits, to_bits}
use Rattle.floats.specs.Literals.{literal}
use Rattle.floats.specs.Decimals.{written, nearest, all_nearest}

-- 0.707, which the source has for the cosine of 45 degrees
abbrev pub cos45 : Float
cos45 = literal 0x3f34fdf4

-- azimuths in degrees
abbrev pub deg90 : Float
deg90 = literal 0x42b40000

abbrev pub deg180 : Float
deg180 = literal 0x43340000

abbrev pub deg270 : Float
deg270 = literal 0x43870000

abbrev pub deg360 : Float
deg360 = literal 0x43b40000

abbrev pub deg450 : Float
deg450 = literal 0x43e10000

abbrev pub deg540 : Float
deg540 = literal 0x44070000

pub literals_nearest :
    all_nearest
    (written 707 3 cos45 ∷ written 90 0 deg90 ∷ written 180 0 deg180 ∷ written 270 0 deg270 ∷ written 360 0 deg360 ∷ written 450 0 deg450
    ∷ written 540 0 deg540 ∷ [])
    ≡ true
unfolding nearest all_nearest round of_bits to_bits
literals_nearest = refl
