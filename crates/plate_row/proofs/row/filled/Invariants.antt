-- `plate_row::row::filled` meets its contract.
use mathlib.Core.Path.{◌≡◌}
use Rattle.model.specs.declared.record.Model.{Model}
use Rattle.pattern.specs.Passes.{gains_around}
use Rattle.plate_row.specs.Row.{row_to}
use Rattle.plate_row.proofs.row.filled.Given as goal

abbrev pub invariant-loop-v : goal.invariant-loop-v
invariant-loop-v l = (m : Model) → l.gains ≡ gains_around m l.c.table.now l.u l.n → l.out ≡ row_to m l.z6 l.c.table.now l.u l.giso l.v
