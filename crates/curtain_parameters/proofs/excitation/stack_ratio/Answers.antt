-- `curtain_parameters::excitation::stack_ratio` meets its contract.
use mathlib.Core.Path.{refl}
use Rattle.curtain_parameters.specs.Excitation.{stkrat}
use lib.Ieee.{of_bits, neg}
use Rattle.curtain_parameters.proofs.excitation.stack_ratio.Goals as goal

pub returns : goal.returns
unfolding stkrat of_bits neg
returns c = refl
