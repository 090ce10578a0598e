-- `elevation::factors::stacked` meets its contract.
use Rattle.std.proofs.Common.{add-one}
use Rattle.elevation.specs.Factors.{stack_to}
use Rattle.elevation.proofs.factors.stacked.Goals as goal

pub loop-il-preserved : goal.loop-il-preserved
unfolding stack_to
loop-il-preserved c = rw (add-one, ← c.loop-il.invariant, c.cos-w1.ensures, c.sin-w2.ensures, c.nearest_u32_to_f32-rik.ensures)
