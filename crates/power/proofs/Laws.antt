-- Where powf is a NaN: exactly outside its domain.
use mathlib.Core.Path.{◌≡◌}
use mathlib.Core.Bool.{not, ◌&&◌}
use lib.Ieee.{Float, is_nan}
use Rattle.numeric.proofs.Domains.{choice}
use Rattle.numeric.proofs.rounding.Laws.{round_number}
use Rattle.power.specs.Power.{normal, is_exponent, antilogarithm, powf_of}

pub powf_domain : (x y : Float) → is_nan (powf_of x y) ≡ not (normal x && is_exponent y)
unfolding powf_of antilogarithm
powf_domain x y = choice (normal x && is_exponent y) _ (round_number _ _)
