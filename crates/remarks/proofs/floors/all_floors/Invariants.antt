-- `remarks::floors::all_floors` meets its contract. Assumes nothing.
use mathlib.Core.Path.{◌≡◌}
use Rattle.plate_text.specs.Plate.{gain_at}
use Rattle.remarks.specs.Directions.{floors_to}
use Rattle.remarks.proofs.floors.all_floors.Given as goal

abbrev pub invariant-loop-v : goal.invariant-loop-v
invariant-loop-v l = l.all ≡ floors_to (gain_at l.q l.table) l.v
