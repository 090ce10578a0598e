-- The starred edges of document 01 that are the gain's, each computed.
use Rattle.std.proofs.Common.{◌≡◌, refl}
use lib.Ieee.{Float, of_bits, neg, div, lt, le, eq}
use Rattle.floats.specs.Ops.{◌⊕◌}
use Rattle.floats.specs.Literals.{one, thirty}
use Rattle.antenna.specs.Literals.{floor_ratio}
use Rattle.antenna.specs.Gain.{floored, ratio_level, decibels_of}

-- the ratio 0.03162278 gives -30 before the maximum gain is added
pub ratio-at-floor : ratio_level floor_ratio ≡ neg thirty
unfolding ratio_level le of_bits
ratio-at-floor = refl

pub ratio_of_one : (giso : Float) → decibels_of floor_ratio one giso ≡ floored (neg thirty ⊕ giso)
unfolding decibels_of ratio_level floored eq le lt div neg of_bits
ratio_of_one giso = refl
