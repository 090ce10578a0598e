-- Numbers at an edge, by their bits: what is printed of them, and which are in span. Assumes nothing.
use mathlib.Core.Path.{◌≡◌, refl}
use Prim.Native.Nat.{ℕ}
use mathlib.Core.Bool.{Bool, true, false}
use mathlib.Core.List.{List}
use lib.Ieee.{binary32, of_bits}
use Rattle.quoted.specs.Quoted.{quoted}
use Rattle.numerals.specs.Numeral.{numeral_in}
use Rattle.hundredths.specs.Hundredths.{in_span, size_of, hundredths_of}
use Rattle.hundredths.specs.Decimals.{decimals, two_decimals}

abbrev printed : ℕ → List ℕ
printed b = two_decimals (hundredths_of (of_bits binary32 b))

abbrev within : ℕ → Bool
within b = in_span (of_bits binary32 b)

-- 0.125 and -0.125, each half way between two hundredths: the even one is 0.12
pub half_up : printed 0x3e000000 ≡ quoted "0.13"
unfolding of_bits hundredths_of size_of two_decimals decimals numeral_in quoted
half_up = refl

pub half_down : printed 0xbe000000 ≡ quoted "-0.13"
unfolding of_bits hundredths_of size_of two_decimals decimals numeral_in quoted
half_down = refl

-- the floats next to 0.005, one below it and one above
pub below_half : printed 0x3ba3d70a ≡ quoted "0.00"
unfolding of_bits hundredths_of size_of two_decimals decimals numeral_in quoted
below_half = refl

pub above_half : printed 0x3ba3d70b ≡ quoted "0.01"
unfolding of_bits hundredths_of size_of two_decimals decimals numeral_in quoted
above_half = refl

-- -0, and -0.004
pub minus-zero : printed 0x80000000 ≡ quoted "0.00"
unfolding of_bits hundredths_of size_of two_decimals decimals numeral_in quoted
minus-zero = refl

pub minus_little : printed 0xbb83126f ≡ quoted "0.00"
unfolding of_bits hundredths_of size_of two_decimals decimals numeral_in quoted
minus_little = refl

-- 1,000 either way, and the next float, which is out of span
pub greatest : printed 0x447a0000 ≡ quoted "1000.00"
unfolding of_bits hundredths_of size_of two_decimals decimals numeral_in quoted
greatest = refl

pub least : printed 0xc47a0000 ≡ quoted "-1000.00"
unfolding of_bits hundredths_of size_of two_decimals decimals numeral_in quoted
least = refl

pub last_in : (within 0x447a0000 ≡ true) × (within 0xc47a0000 ≡ true)
unfolding of_bits in_span
last_in = (refl, refl)

pub first_out : (within 0x447a0001 ≡ false) × (within 0xc47a0001 ≡ false)
unfolding of_bits in_span
first_out = (refl, refl)
