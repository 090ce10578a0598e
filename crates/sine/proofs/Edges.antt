-- The starred edges of document 01 that are the sine's and the cosine's, each computed. A float is written by its bit pattern.
use mathlib.Core.Path.{◌≡◌, refl}
use mathlib.Core.Bool.{false}
use lib.Ieee.{nan, binary32, of_bits, neg, le, round, is_nan}
use Rattle.std.specs.Float.{float_with_sign}
use Rattle.numeric.specs.Rounding.{F}
use Rattle.sine.specs.Sine.{quarter, past, next_term, sums, cut, sine_units, cosine_units, sine_at, cosine_at, sine, cosine}

-- cos 0 = 1
pub cos_zero : cosine (of_bits binary32 0) ≡ of_bits binary32 0x3f800000
unfolding cosine quarter past cosine_at sine_units cosine_units cut sums next_term F neg round le of_bits float_with_sign
cos_zero = refl

-- sin -0 = -0
pub sin_minus_zero : sine (of_bits binary32 0x80000000) ≡ of_bits binary32 0x80000000
unfolding sine quarter past sine_at sine_units cosine_units cut sums next_term F neg round le of_bits float_with_sign
sin_minus_zero = refl

-- not starred, but what the curtain's starred edges rest on: at 2^-22 the sine is 2^-22 and the cosine 1
pub sin_small : sine (of_bits binary32 0x34800000) ≡ of_bits binary32 0x34800000
unfolding sine quarter past sine_at sine_units cosine_units cut sums next_term F neg round le of_bits float_with_sign
sin_small = refl

pub cos_small : cosine (of_bits binary32 0x34800000) ≡ of_bits binary32 0x3f800000
unfolding cosine quarter past cosine_at sine_units cosine_units cut sums next_term F neg round le of_bits float_with_sign
cos_small = refl

-- sin at 65,536 exists, at the next float NaN
pub sin_65536 : is_nan (sine (of_bits binary32 0x47800000)) ≡ false
unfolding sine quarter past sine_at sine_units cosine_units cut sums next_term F neg round le is_nan of_bits float_with_sign
sin_65536 = refl

pub sin_past_65536 : sine (of_bits binary32 0x47800001) ≡ nan
unfolding sine le of_bits float_with_sign
sin_past_65536 = refl
