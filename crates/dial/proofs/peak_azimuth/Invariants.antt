-- `dial::peak_azimuth` meets its contract. Assumes nothing.
use Prim.Native.Nat.{◌-◌, ◌<◌}
use mathlib.Core.Path.{◌≡◌}
use Rattle.dial.specs.Scale.{peak_to}
use Rattle.dial.proofs.peak_azimuth.Given as goal

abbrev pub invariant-loop-v : goal.invariant-loop-v
invariant-loop-v l = (l.best ≡ peak_to l.numbers (l.v - 1)) × (l.best < 360)
