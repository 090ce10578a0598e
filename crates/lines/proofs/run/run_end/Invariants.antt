-- `run::run_end`, a byte a turn: no byte before i ends the run. Assumes nothing.
use mathlib.Core.Path.{◌≡◌}
use Rattle.lines.specs.Pieces.{end_from}
use Rattle.lines.specs.Inner.{stops_at}
use Rattle.lines.proofs.run.run_end.Given as goal

abbrev pub invariant-loop-i : goal.invariant-loop-i
invariant-loop-i l = end_from (stops_at l.stop) l.s l.at ≡ end_from (stops_at l.stop) l.s l.i
