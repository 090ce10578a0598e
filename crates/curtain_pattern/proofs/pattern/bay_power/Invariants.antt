-- `curtain_pattern::pattern::bay_power` meets its contract.
use mathlib.Core.Path.{◌≡◌}
use Rattle.curtain_pattern.specs.Pattern.{bay_cosines, bay_sines}
use Rattle.curtain_pattern.proofs.pattern.bay_power.Given as goal

abbrev pub invariant-loop-i : goal.invariant-loop-i
invariant-loop-i l = (l.fyr ≡ bay_cosines l.ant l.cpsi l.i) × (l.fyi ≡ bay_sines l.ant l.cpsi l.i)
