-- The scale of the greater peak holds both masts. Assumes nothing.
use Prim.Native.Nat.{ℕ, ◌≤◌, ◌<◌}
use mathlib.Core.List.{List}
use native.Mathlib.Omega.{arith}
use lib.ListN.{get_or}
use Rattle.dial.specs.Scale.{top_of}
use Rattle.dial.proofs.Laws.{top_above, peak-greatest}
use Rattle.pair.specs.Pair.{greater_peak}

module _ (first second : List ℕ) (v : ℕ) (turn : v < 360) where
  -- no gain of either row is above the top ring
  pub first-within : get_or first v 0 ≤ top_of (greater_peak first second)
  unfolding greater_peak
  first-within = omega (arith, peak-greatest first v turn, top_above (greater_peak first second))

  pub second-within : get_or second v 0 ≤ top_of (greater_peak first second)
  unfolding greater_peak
  second-within = omega (arith, peak-greatest second v turn, top_above (greater_peak first second))
