-- `pattern::passes::gains_up` meets its contract.
use Rattle.std.proofs.Common.{of_calls}
use Rattle.floats.proofs.Filled.{filled_from}
use Rattle.pattern.proofs.passes.gains_up.Goals as goal

pub returns : goal.returns
returns c = filled_from c.from_fn.ensures.items (search of_calls) (search of_calls)
