-- Document 02, card 11: what the greatest of some gains is, and the last elevation that has it. Definitions only.
use Rattle.std.specs.Prelude.{◌≡◌, ℕ, ◌<◌, ◌≤◌, true, T, List, Float}
use mathlib.Core.List.{Memᴰ}
use Rattle.std.specs.Float.Ieee.{lt, le}
use Rattle.floats.specs.Ops.{count}

-- z is one of the gains, and each of them is at most z
pub record Greatest (z : Float) (gains : List Float) : Type 0 where
  pub there : Memᴰ z gains
  pub none_above : (x : Float) → Memᴰ x gains → T (le x z)

-- u is the last of the elevations 1 to n whose gain is the peak z: the gains after it lie below
pub record LastPeak (gain : ℕ → Float) (n : ℕ) (z u : Float) : Type 0 where
  pub degrees : ℕ
  pub from : 1 ≤ degrees
  pub to : degrees ≤ n
  pub elevation : u ≡ count degrees
  pub has_peak : gain degrees ≡ z
  pub later_below : (k : ℕ) → degrees < k → k ≤ n → lt (gain k) z ≡ true
