-- Where a logarithm is a NaN: exactly outside the positive finite numbers.
use mathlib.Core.Path.{◌≡◌}
use mathlib.Core.Bool.{not}
use Prim.Native.Nat.{ℕ}
use lib.Ieee.{Float, is_nan}
use lib.Ieee.Positive.{positive}
use Rattle.numeric.proofs.Domains.{choice}
use Rattle.numeric.proofs.rounding.Laws.{F-number}
use Rattle.logarithm.specs.Logarithm.{logarithm_times}

pub logarithm_domain : (k : ℕ) (x : Float) → is_nan (logarithm_times k x) ≡ not (positive x)
unfolding logarithm_times
logarithm_domain k x = choice (positive x) _ (F-number _)
