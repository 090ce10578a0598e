-- `figures::leads_over` meets its contract. Assumes nothing.
use Prim.Native.Nat.{◌≤◌}
use mathlib.Core.Path.{◌≡◌}
use Rattle.figures.specs.Figures.{leads_at, count_to}
use Rattle.figures.proofs.leads_over.Given as goal

abbrev pub invariant-loop-v : goal.invariant-loop-v
invariant-loop-v l = (l.n ≡ count_to (leads_at l.first.numbers l.first.kinds l.second) l.v) × (l.n ≤ l.v)
