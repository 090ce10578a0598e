-- `sine::reduced` meets its contract: the quadrant that the comparisons find is the quarter.
use mathlib.Core.Path.{ap}
use Prim.Native.Nat.{ℕ, ◌-◌, ◌*◌, ◌/◌, ◌%◌}
use native.Mathlib.Omega.{arith}
use Rattle.sine.specs.Sine.{turn, past}
use Rattle.numeric.proofs.Comparisons.{AtMost, at_most_of_mag}
use Rattle.numeric.proofs.rounding.Truncation.{truncated-le}
use Rattle.sine.proofs.Quadrants.{quadrant-is-quarter}
use Rattle.sine.proofs.reduced.Goals as goal
use Rattle.sine.proofs.reduced.Goals.{Start}

small : (c : Start) → AtMost 16 c.args.a
small c = at_most_of_mag 16 c.args.a c.requires

pub truncated-r-requires : goal.truncated-r-requires
truncated-r-requires c = ((small c).0, omega (arith, truncated-le 16 40 c.args.a (small c)), omega arith)

pub returns : goal.returns
unfolding past
returns c =
    let n = c.before.truncated-r.result in
    let q = quadrant-is-quarter n c.quadrant-q.result c.quadrant-q.ensures.0 c.quadrant-q.ensures.1 in
    rw (← c.before.truncated-r.ensures) (q, ap (λ (z : ℕ). (4 * (n % turn) - z * turn) / 4096) q)
