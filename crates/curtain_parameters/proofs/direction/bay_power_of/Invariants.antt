-- `curtain_parameters::direction::bay_power_of` meets its contract.
use mathlib.Core.Path.{◌≡◌}
use Rattle.curtain_parameters.specs.DirectionSteps.{bay_cosines_of, bay_sines_of}
use Rattle.curtain_parameters.proofs.direction.bay_power_of.Given as goal

abbrev pub invariant-loop-i : goal.invariant-loop-i
invariant-loop-i l =
    (l.fyr ≡ bay_cosines_of l.odrat l.islew l.xb l.cpsi l.i) × (l.fyi ≡ bay_sines_of l.odrat l.islew l.xb l.cpsi l.i)
