-- `booms::boom::entry_at` meets its contract.
use Rattle.model.proofs.Cells.{cell_0, cell_1, cell_2, cell_3}
use Rattle.booms.specs.Boom.{entry_at}
use Rattle.booms.proofs.boom.entry_at.Goals as goal

pub returns : goal.returns
unfolding entry_at
returns c = rw (cell_0, cell_1, cell_2, cell_3)
