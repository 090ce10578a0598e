-- The starred edges of the curtain: slots 4 and 7 at 10, all others 0, factor 1, elevation 0.
use mathlib.Core.Path.{◌≡◌}
use mathlib.Core.List.{List, [], ◌∷◌}
use Rattle.std.specs.Float.{float_with_sign}
use lib.Ieee.{Float, of_bits, neg, add, sub, mul, div, lt, le, eq, ne, to_signed}
use Rattle.sine.proofs.Edges.{cos_zero, sin_small, cos_small}
use Rattle.sine.proofs.Laws.{sine-zero}
use Rattle.floats.specs.Ops.{+0}
use Rattle.floats.specs.Literals.{one, ten, n180, n1000}
use Rattle.floats.specs.Ranges.{between, from_to, finite_to, all_finite}
use Rattle.floats.specs.Rounding.{nint_of}
use Rattle.model.specs.Limits.{in_band}
use Rattle.answers.specs.Outcome.{accepted}
use Rattle.curtain_pattern.specs.Literals.{n1020}
use Rattle.curtain_pattern.specs.Azimuth.{iaz, folded}
use Rattle.curtain_pattern.specs.Pattern.{ef_of, bay_cosines, bay_sines, bay_power, stack_sines, stack_power, f2}
use Rattle.curtain_parameters.specs.Pattrn0.{nostak_of, nbs_of, to_metres, beta_of, lengths_of, curtain_of}
use Rattle.curtain.specs.Level.{factor_of, decibels, level_at, level_of}
use Rattle.curtain.specs.Answers.{station_finite, band_ok, aim_ok, station_refusal_of, refusal_of, graded, curtain_gain}

abbrev pub bare : List Float
bare =
    +0 ∷ +0 ∷ +0 ∷ +0 ∷ ten ∷ +0 ∷ +0 ∷ ten ∷ +0 ∷ +0
    ∷ +0 ∷ +0 ∷ +0 ∷ +0 ∷ +0 ∷ +0 ∷ +0 ∷ +0 ∷ +0 ∷ +0 ∷ []

-- -1000 at azimuth 0, -1020 at 180
pub bare-curtain :
    (curtain_gain bare +0 +0 one ≡ accepted (neg n1000))
    × (curtain_gain bare n180 +0 one ≡ accepted (neg n1020))
unfolding curtain_gain refusal_of station_refusal_of station_finite all_finite finite_to band_ok in_band from_to aim_ok between graded level_of level_at factor_of decibels curtain_of nostak_of nbs_of lengths_of to_metres beta_of iaz folded f2 ef_of bay_power bay_cosines bay_sines stack_sines stack_power nint_of float_with_sign of_bits neg add sub mul div lt le eq ne to_signed
bare-curtain =
    (rw (sine-zero, cos_zero, sine-zero, cos_zero), rw (sine-zero, cos_zero, sin_small, cos_small, sine-zero, cos_zero))
