-- `sine::summed` meets its contract.
use native.Mathlib.Omega.{arith}
use Rattle.sine.proofs.Terms.{cut-le}
use Rattle.sine.proofs.summed.Goals as goal

pub from_units-requires : goal.from_units-requires
from_units-requires c = omega (arith, c.cut.ensures, cut-le (c.sums.result.added, c.sums.result.taken))
