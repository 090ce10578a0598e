-- `table::column::push_set` meets its contract. Assumes nothing.
use mathlib.Core.Path.{refl}
use native.Mathlib.Omega.{arith}
use Rattle.quoted.specs.Quoted.{quoted}
use Rattle.words.proofs.Writing.{put_four}
use Rattle.table.specs.Table.{set_text}
use Rattle.table.proofs.column.push_set.Goals as goal

pub returns : goal.returns
unfolding set_text quoted
returns g c = put_four c.push_cell.ensures c.push_reading.ensures c.push_whole.ensures c.push_bytes.ensures refl (omega arith)
