-- The number of the gain that no other part of the source has, by its binary32 bits. Definitions only.
use Rattle.std.specs.Prelude.{◌≡◌, true, [], ◌∷◌, refl, Float}
use Rattle.std.specs.Float.Ieee.{round, of_bits, to_bits}
use Rattle.floats.specs.Literals.{literal}
use Rattle.floats.specs.Decimals.{written, nearest, all_nearest}
use Rattle.search.specs.Literals.{five, forty_five, west, full_circle}
use Rattle.parameters.specs.Literals.{eight, n0·001, n0·048, n299·8, n18000}

-- the ratio to the peak that is the floor of 30 decibels
abbrev pub floor_ratio : Float
floor_ratio = literal 0x3d0186e3

-- of set-up, search and gain, those of the crates below too
pub literals_nearest :
    all_nearest
    (written 5 0 five ∷ written 8 0 eight ∷ written 45 0 forty_five ∷ written 270 0 west ∷ written 360 0 full_circle
    ∷ written 3162278 8 floor_ratio ∷ written 1 3 n0·001 ∷ written 48 3 n0·048 ∷ written 2998 1 n299·8 ∷ written 18000 0 n18000 ∷ [])
    ≡ true
unfolding nearest all_nearest round of_bits to_bits
literals_nearest = refl
