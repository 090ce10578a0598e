-- The starred edges of document 01 that are the logarithms', and those of document 02's card 3, each computed. A float is written by its bit pattern.
use mathlib.Core.Path.{◌≡◌, refl}
use Prim.Native.Nat.{◌+◌, ◌*◌, ◌^◌}
use lib.IntN.{pos, neg_ℤ}
use lib.Ieee.{binary32, of_bits, size, le, lt, round}
use Rattle.numeric.specs.Rounding.{F}
use Rattle.logarithm.specs.Logarithm.{digits, binary_logarithm, logarithm_times, log10_of, ln_of}

-- L of 1 is 0, of 8 is 3 × 2^30
pub logarithm_one : binary_logarithm (of_bits binary32 0x3f800000) ≡ pos 0
unfolding binary_logarithm digits size of_bits
logarithm_one = refl

pub logarithm_eight : binary_logarithm (of_bits binary32 0x41000000) ≡ pos (3 * 2 ^ 30)
unfolding binary_logarithm digits size of_bits
logarithm_eight = refl

-- log10 1 = 0
pub log10_one : log10_of (of_bits binary32 0x3f800000) ≡ of_bits binary32 0
unfolding logarithm_times binary_logarithm digits size of_bits le lt F round
log10_one = refl

-- card 3: L of the least positive float, 2^-149, is -149 × 2^30; its log10 is -44.853466 and its ln -103.27893
pub logarithm_least : binary_logarithm (of_bits binary32 1) ≡ neg_ℤ (pos (149 * 2 ^ 30))
unfolding binary_logarithm digits size of_bits
logarithm_least = refl

pub log10_least : log10_of (of_bits binary32 1) ≡ of_bits binary32 0xc23369f3
unfolding logarithm_times binary_logarithm digits size of_bits F round
log10_least = refl

pub ln_least : ln_of (of_bits binary32 1) ≡ of_bits binary32 0xc2ce8ed0
unfolding logarithm_times binary_logarithm digits size of_bits F round
ln_least = refl

-- L of the greatest subnormal float is 185 below -126 × 2^30, that of the least normal one; its log10 is -37.929779 and its ln -87.33655
pub logarithm_subnormal : binary_logarithm (of_bits binary32 0x7fffff) ≡ neg_ℤ (pos (126 * 2 ^ 30 + 185))
unfolding binary_logarithm digits size of_bits
logarithm_subnormal = refl

pub logarithm_normal : binary_logarithm (of_bits binary32 0x800000) ≡ neg_ℤ (pos (126 * 2 ^ 30))
unfolding binary_logarithm digits size of_bits
logarithm_normal = refl

pub log10_subnormal : log10_of (of_bits binary32 0x7fffff) ≡ of_bits binary32 0xc217b818
unfolding logarithm_times binary_logarithm digits size of_bits F round
log10_subnormal = refl

pub ln_subnormal : ln_of (of_bits binary32 0x7fffff) ≡ of_bits binary32 0xc2aeac50
unfolding logarithm_times binary_logarithm digits size of_bits F round
ln_subnormal = refl
