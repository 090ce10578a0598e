-- Numbers of `curcal` and `logparm` that no other part of the source has, by their binary32 bits. Definitions only.
use Rattle.std.specs.Prelude.{◌≡◌, true, List, [], ◌∷◌, refl, Float}
use Rattle.std.specs.Float.Ieee.{round, of_bits, to_bits}
use Rattle.floats.specs.Literals.{literal}
use Rattle.floats.specs.Decimals.{Literal, written, nearest, all_nearest}

abbrev pub n0·316 : Float
n0·316 = literal 0x3ea1cac1

abbrev pub n0·501 : Float
n0·501 = literal 0x3f004189

abbrev pub n0·676 : Float
n0·676 = literal 0x3f2d0e56

abbrev pub n0·707 : Float
n0·707 = literal 0x3f34fdf4

abbrev pub n0·876 : Float
n0·876 = literal 0x3f604189

abbrev pub n0·922 : Float
n0·922 = literal 0x3f6c0831

abbrev pub n0·976 : Float
n0·976 = literal 0x3f79db23

abbrev pub n0·7166 : Float
n0·7166 = literal 0x3f377319

abbrev pub n1·1 : Float
n1·1 = literal 0x3f8ccccd

abbrev pub n30·7 : Float
n30·7 = literal 0x41f5999a

abbrev pub n1·098790227 : Float
n1·098790227 = literal 0x3f8ca528

abbrev pub n1·055146365 : Float
n1·055146365 = literal 0x3f870f09

abbrev pub n3·208544524 : Float
n3·208544524 = literal 0x404d58cb

abbrev pub n5·766460847 : Float
n5·766460847 = literal 0x40b886d9

abbrev pub n4·054233788 : Float
n4·054233788 = literal 0x4081bc48

abbrev pub n142 : Float
n142 = literal 0x430e0000

abbrev pub n150 : Float
n150 = literal 0x43160000

abbrev pub n1000 : Float
n1000 = literal 0x447a0000

unfoldable pub literals : List Literal
literals =
    written 316 3 n0·316
    ∷ written 501 3 n0·501
    ∷ written 676 3 n0·676
    ∷ written 707 3 n0·707
    ∷ written 876 3 n0·876
    ∷ written 922 3 n0·922
    ∷ written 976 3 n0·976
    ∷ written 7166 4 n0·7166
    ∷ written 11 1 n1·1
    ∷ written 307 1 n30·7
    ∷ written 1098790227 9 n1·098790227
    ∷ written 1055146365 9 n1·055146365
    ∷ written 3208544524 9 n3·208544524
    ∷ written 5766460847 9 n5·766460847
    ∷ written 4054233788 9 n4·054233788
    ∷ written 142 0 n142
    ∷ written 150 0 n150
    ∷ written 1000 0 n1000
    ∷ []

pub literals_nearest : all_nearest literals ≡ true
unfolding literals nearest all_nearest round of_bits to_bits
literals_nearest = refl
