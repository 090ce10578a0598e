-- `table::column::push_back` meets its contract. Assumes nothing.
use mathlib.Core.Path.{refl}
use native.Mathlib.Omega.{arith}
use Rattle.quoted.specs.Quoted.{quoted}
use Rattle.words.proofs.Writing.{put_three}
use Rattle.table.specs.Table.{back_text}
use Rattle.table.proofs.column.push_back.Goals as goal

pub returns : goal.returns
unfolding back_text quoted
returns g c = put_three c.push_cell.ensures c.push_difference.ensures c.push_bytes.ensures refl (omega arith)
