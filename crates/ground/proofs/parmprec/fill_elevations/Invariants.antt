-- `ground::parmprec::fill_elevations` meets its contract.
use mathlib.Core.Path.{◌≡◌}
use Rattle.ground.specs.Table.{elevations_to}
use Rattle.ground.proofs.parmprec.fill_elevations.Given as goal

abbrev pub invariant-loop-u : goal.invariant-loop-u
invariant-loop-u l = l.t ≡ elevations_to l.m l.initial.t l.u
