-- The four quadrants as they are drawn: comparing 4r with T, 2T and 3T finds the quarter, which the definitions have by a division.
use mathlib.Core.Path.{◌≡◌, sym}
use Prim.Native.Nat.{ℕ, ◌+◌, ◌*◌, ◌%◌, ◌≤◌, ◌<◌}
use native.Mathlib.Nat.{div-eq_of_lt-le}
use Rattle.sine.specs.Sine.{turn, quarter}

-- for r = n mod T: the q with qT ≤ 4r < (q + 1)T is the quarter of n
pub quadrant-is-quarter : (n q : ℕ) → q * turn ≤ 4 * (n % turn) → 4 * (n % turn) < (q + 1) * turn → q ≡ quarter n
unfolding quarter
quadrant-is-quarter n q from below = sym (div-eq_of_lt-le turn from below)
