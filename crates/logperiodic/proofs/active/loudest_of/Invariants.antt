-- `logperiodic::active::loudest_of` meets its contract.
use Rattle.logperiodic.specs.Active.{loudest_to}
use Rattle.std.proofs.Common.{◌≡◌}
use Rattle.logperiodic.proofs.active.loudest_of.Given as goal

abbrev pub invariant-loop-k : goal.invariant-loop-k
invariant-loop-k l = l.m ≡ loudest_to l.a.iek l.ria l.fi l.k
