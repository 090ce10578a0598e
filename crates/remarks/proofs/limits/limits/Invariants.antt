-- `remarks::limits::limits` meets its contract. Assumes nothing.
use Prim.Native.Nat.{◌≤◌}
use mathlib.Core.Path.{◌≡◌}
use Rattle.plate_text.specs.Plate.{gain_at}
use Rattle.remarks.specs.Directions.{relative_at, limits_to}
use Rattle.remarks.proofs.limits.limits.Given as goal

abbrev pub invariant-loop-v : goal.invariant-loop-v
invariant-loop-v l = (l.n ≡ limits_to (gain_at l.q l.table) (relative_at l.q l.table) l.v) × (l.n ≤ l.v)
