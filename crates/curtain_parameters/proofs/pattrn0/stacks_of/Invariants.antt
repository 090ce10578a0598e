-- `curtain_parameters::pattrn0::stacks_of` meets its contract.
use mathlib.Core.Path.{◌≡◌}
use Rattle.curtain_parameters.specs.Pattrn0.{stack_ratios, stack_heights}
use Rattle.curtain_parameters.proofs.pattrn0.stacks_of.Given as goal

abbrev pub invariant-loop-is : goal.invariant-loop-is
invariant-loop-is l = (l.c ≡ stack_ratios l.mode l.is) × (l.z ≡ stack_heights l.xs l.xh l.is)
