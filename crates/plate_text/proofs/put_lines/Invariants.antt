-- `plate_text::put_lines` meets its contract: the lines so far, of 21 bytes at most each. Assumes nothing.
use Prim.Native.Nat.{◌*◌}
use Rattle.words.specs.Writing.{Put}
use Rattle.text.specs.Lines.{lines_to}
use Rattle.plate_text.specs.Plate.{graded_at}
use Rattle.plate_text.proofs.put_lines.Given as goal

abbrev pub invariant-loop-v : goal.invariant-loop-v
invariant-loop-v g l = Put (21 * l.v) l.initial.page (lines_to (graded_at l.z6 l.row) l.v) l.page
