-- `elevation::factors::stacked` meets its contract.
use Rattle.std.proofs.Common.{◌≡◌}
use Rattle.elevation.specs.Factors.{stack_to}
use Rattle.elevation.specs.declared.factors.Stack.{Stack}
use Rattle.elevation.proofs.factors.stacked.Given as goal

abbrev pub invariant-loop-il : goal.invariant-loop-il
invariant-loop-il l = ◌≡◌ {A = Stack} (record { w1 = l.w1; w2 = l.w2 }) (stack_to l.h1 l.pfra l.il)
