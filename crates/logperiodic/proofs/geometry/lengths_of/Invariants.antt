-- `logperiodic::geometry::lengths_of` meets its contract.
use Rattle.logperiodic.specs.Geometry.{lengths_to}
use Rattle.std.proofs.Common.{◌≡◌, ◌-◌, ◌≤◌}
use Rattle.logperiodic.proofs.geometry.lengths_of.Given as goal

abbrev pub invariant-loop-k : goal.invariant-loop-k
invariant-loop-k l = (l.rl ≡ lengths_to l.nel l.rlnel l.tau (l.nel - l.k)) × (1 ≤ l.k)
