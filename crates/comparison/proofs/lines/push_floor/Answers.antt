-- `comparison::lines::push_floor` meets its contract. Assumes nothing.
use mathlib.Core.Path.{refl}
use native.Mathlib.Omega.{arith}
use Rattle.quoted.specs.Quoted.{quoted}
use Rattle.words.proofs.Writing.{put_two}
use Rattle.comparison.specs.Lines.{floor_behind}
use Rattle.comparison.proofs.lines.push_floor.Goals as goal

pub returns : goal.returns
unfolding floor_behind quoted
returns g c = put_two c.push_difference.ensures c.push_bytes.ensures refl (omega arith)
