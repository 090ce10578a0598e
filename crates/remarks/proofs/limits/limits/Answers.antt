-- `remarks::limits::limits` meets its contract. Assumes nothing.
use mathlib.Core.Path.{◌≡◌}
use native.Mathlib.Omega.{arith}
use Rattle.remarks.proofs.limits.limits.Goals as goal

pub returns : goal.returns
returns c = let e : c.loop-v.v ≡ 360 = omega arith in rw e at c.loop-v.invariant.0
