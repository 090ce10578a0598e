-- `comparison::lines::push_behind` meets its contract. Assumes nothing.
use mathlib.Core.Path.{refl}
use native.Mathlib.Omega.{arith}
use Rattle.quoted.specs.Quoted.{quoted}
use Rattle.words.proofs.Writing.{put_four}
use Rattle.comparison.specs.Lines.{behind_line}
use Rattle.comparison.proofs.lines.push_behind.Goals as goal

pub returns : goal.returns
unfolding behind_line quoted
returns g c = put_four c.push_bytes.ensures c.push.ensures c.push_bytes-2.ensures c.push_rear.ensures refl (omega arith)
