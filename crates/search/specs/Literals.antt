-- Numbers of the search that no other part of the source has, by their binary32 bits; set-up's limits have the full circle too.
-- Definitions only.
use Rattle.std.specs.Prelude.{◌≡◌, true, [], ◌∷◌, refl, Float}
use Rattle.std.specs.Float.Ieee.{round, of_bits, to_bits}
use Rattle.floats.specs.Literals.{literal}
use Rattle.floats.specs.Decimals.{written, nearest, all_nearest}

abbrev pub five : Float
five = literal 0x40a00000

abbrev pub forty_five : Float
forty_five = literal 0x42340000

-- 270, where the sweep starts
abbrev pub west : Float
west = literal 0x43870000

-- 360
abbrev pub full_circle : Float
full_circle = literal 0x43b40000

pub literals_nearest : all_nearest (written 5 0 five ∷ written 45 0 forty_five ∷ written 270 0 west ∷ written 360 0 full_circle ∷ []) ≡ true
unfolding nearest all_nearest round of_bits to_bits
literals_nearest = refl
