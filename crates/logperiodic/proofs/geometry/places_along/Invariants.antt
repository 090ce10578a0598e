-- `logperiodic::geometry::places_along` meets its contract.
use Rattle.std.proofs.Common.{◌≡◌, ◌-◌, replicate}
use Rattle.floats.specs.Ops.{+0}
use Rattle.logperiodic.specs.Geometry.{along_to}
use Rattle.std.proofs.Common.{slice_set}
use Rattle.logperiodic.proofs.geometry.places_along.Given as goal

abbrev pub invariant-loop-k : goal.invariant-loop-k
invariant-loop-k g l = l.p ≡ along_to (slice_set (replicate g.row.N +0) 1 l.start) l.step l.rl l.sigma (l.k - 1)
