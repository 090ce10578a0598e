-- `figures::steps` meets its contract: the steps so far, and those that are left to go. Assumes nothing.
use Prim.Native.Nat.{◌+◌, ◌-◌, ◌<◌}
use mathlib.Core.Path.{◌≡◌}
use Rattle.dial.specs.Scale.{peak_of}
use Rattle.figures.specs.Figures.{in_row, steps_of}
use Rattle.figures.proofs.steps.Given as goal

abbrev pub invariant-loop-n : goal.invariant-loop-n
invariant-loop-n l =
    (steps_of l.numbers l.turn ≡ l.n + in_row l.numbers l.turn l.v (359 - l.n)) × (l.v < 360) × (l.peak ≡ peak_of l.numbers)
