-- `antenna::sum::sum_of` adds one float a turn.
use Rattle.std.proofs.Common.{take, add-one, arith}
use Rattle.std.proofs.lemmas.Grind.{common_steps}
use Rattle.std.proofs.lemmas.List.{take_min}
use lib.Seq.{take-length}
use Rattle.antenna.specs.TableSum.{table_sum}
use Rattle.antenna.proofs.TableSum.{sum-next}
use Rattle.antenna.proofs.sum.sum_of.Goals as goal

pub loop-x-preserved : goal.loop-x-preserved
loop-x-preserved c = rw (add-one, c.bits_of-sum.ensures) (sum-next (take c.min.result c.args.table.now) c.loop-x.x-index c.loop-x.sum (omega arith) c.loop-x.invariant)

pub returns : goal.returns
unfolding table_sum
returns c = grind (arith, common_steps, take_min, take-length)
