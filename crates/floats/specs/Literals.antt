-- Numbers of the source, by their binary32 bits. Definitions only.
use Rattle.std.specs.Prelude.{ℕ, ◌≡◌, refl, Float}
use Rattle.std.specs.Float.{binary32}
use Rattle.std.specs.Float.Ieee.{of_bits, div}
use Rattle.floats.specs.Ops.{◌⊘◌}

abbrev pub literal : ℕ → Float
literal b = of_bits binary32 b

abbrev pub half : Float
half = literal 0x3f000000

abbrev pub one : Float
one = literal 0x3f800000

abbrev pub two : Float
two = literal 0x40000000

abbrev pub three : Float
three = literal 0x40400000

abbrev pub four : Float
four = literal 0x40800000

abbrev pub ten : Float
ten = literal 0x41200000

abbrev pub twenty : Float
twenty = literal 0x41a00000

abbrev pub thirty : Float
thirty = literal 0x41f00000

abbrev pub thirty_one : Float
thirty_one = literal 0x41f80000

abbrev pub sixty_four : Float
sixty_four = literal 0x42800000

abbrev pub ninety : Float
ninety = literal 0x42b40000

abbrev pub n180 : Float
n180 = literal 0x43340000

abbrev pub n1000 : Float
n1000 = literal 0x447a0000

-- P1: the source's pi, 3.1415927
abbrev pub p1 : Float
p1 = literal 0x40490fdb

-- Q1: degrees to radians, P1 / 180
abbrev pub q1 : Float
q1 = literal 0x3c8efa35

pub q1_of_p1 : q1 ≡ p1 ⊘ n180
unfolding of_bits div
q1_of_p1 = refl
