-- `curtain_parameters::direction::stack_sines_of` meets its contract.
use mathlib.Core.Path.{◌≡◌}
use Rattle.curtain_parameters.specs.DirectionSteps.{stack_sines_of}
use Rattle.curtain_parameters.proofs.direction.stack_sines_of.Given as goal

abbrev pub invariant-loop-i : goal.invariant-loop-i
invariant-loop-i l = l.fz ≡ stack_sines_of l.mode l.xs l.xh l.stheta l.i
