-- `figures::behind` meets its contract. Assumes nothing.
use Prim.Native.Nat.{◌-◌, ◌<◌}
use mathlib.Core.Path.{◌≡◌}
use Rattle.figures.specs.Figures.{behind_to}
use Rattle.figures.proofs.behind.Given as goal

abbrev pub invariant-loop-v : goal.invariant-loop-v
invariant-loop-v l = (l.best ≡ behind_to l.numbers (l.v - 91)) × (l.best < 360)
