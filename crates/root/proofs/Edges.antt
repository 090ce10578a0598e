-- The starred edge of document 01 that is the square root's, computed. A float is written by its bit pattern.
use mathlib.Core.Path.{◌≡◌, refl}
use lib.Ieee.{binary32, of_bits, round}
use Rattle.root.specs.Root.{root_of, root, sqrt_of}

-- sqrt 4 = 2
pub sqrt_four : sqrt_of (of_bits binary32 0x40800000) ≡ of_bits binary32 0x40000000
unfolding sqrt_of root root_of round of_bits
sqrt_four = refl
