-- `curtain_pattern::pattern::stack_sines` meets its contract.
use mathlib.Core.Path.{◌≡◌}
use Rattle.curtain_pattern.specs.Pattern.{stack_sines}
use Rattle.curtain_pattern.proofs.pattern.stack_sines.Given as goal

abbrev pub invariant-loop-i : goal.invariant-loop-i
invariant-loop-i l = l.fzphr ≡ stack_sines l.ant l.stheta l.i
