-- `ground::parmprec::ground_of` meets its contract.
use mathlib.Core.Path.{◌≡◌}
use Rattle.ground.specs.Ground.{ground_to}
use Rattle.ground.proofs.parmprec.ground_of.Given as goal

abbrev pub invariant-loop-u : goal.invariant-loop-u
invariant-loop-u l = l.g ≡ ground_to l.iant l.k l.t l.u
