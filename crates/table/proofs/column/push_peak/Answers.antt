-- `table::column::push_peak` meets its contract. Assumes nothing.
use mathlib.Core.Path.{refl}
use native.Mathlib.Omega.{arith}
use Rattle.quoted.specs.Quoted.{quoted}
use Rattle.words.proofs.Writing.{put_four}
use Rattle.table.specs.Table.{peak_text}
use Rattle.table.proofs.column.push_peak.Goals as goal

pub returns : goal.returns
unfolding peak_text quoted
returns g c = put_four c.push_cell.ensures c.push_reading.ensures c.push_whole.ensures c.push_bytes.ensures refl (omega arith)
