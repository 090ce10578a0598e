-- `remarks::floors::all_floors` meets its contract. Assumes nothing.
use mathlib.Core.Path.{◌≡◌}
use native.Mathlib.Omega.{arith}
use Rattle.remarks.proofs.floors.all_floors.Goals as goal

pub returns : goal.returns
returns c = let e : c.loop-v.v ≡ 360 = omega arith in rw e at c.loop-v.invariant
