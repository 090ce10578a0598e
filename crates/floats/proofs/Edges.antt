-- The starred edges of `nint`, computed: 2.5 is 3, and -2.5 is -3.
use mathlib.Core.Path.{◌≡◌, refl}
use lib.IntN.{pos, negsuc}
use lib.Ieee.{of_bits, neg, le, add, sub, to_signed}
use Rattle.floats.specs.Rounding.{nint_of}
use Rattle.floats.specs.Literals.{literal}

pub nint_half : nint_of (literal 0x40200000) ≡ pos 3
unfolding nint_of of_bits le add to_signed
nint_half = refl

pub nint_minus_half : nint_of (literal 0xc0200000) ≡ negsuc 2
unfolding nint_of of_bits neg le add sub to_signed
nint_minus_half = refl
