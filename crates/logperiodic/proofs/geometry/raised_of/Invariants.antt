-- `logperiodic::geometry::raised_of` meets its contract.
use Rattle.logperiodic.specs.Geometry.{raised_to}
use Rattle.std.proofs.Common.{◌≡◌, ◌-◌}
use Rattle.logperiodic.proofs.geometry.raised_of.Given as goal

abbrev pub invariant-loop-k : goal.invariant-loop-k
invariant-loop-k l = l.h ≡ raised_to l.nel l.rl l.theta l.h0 (l.k - 1)
