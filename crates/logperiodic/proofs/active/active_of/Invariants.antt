-- `logperiodic::active::active_of` meets its contract.
use Rattle.std.proofs.Common.{◌≡◌}
use Rattle.logperiodic.specs.Active.{active_to}
use Rattle.logperiodic.proofs.active.active_of.Given as goal

abbrev pub invariant-loop-k : goal.invariant-loop-k
invariant-loop-k l = l.a ≡ active_to l.s l.rl l.k
