-- `dbi_text::lines::push_entries` meets its contract: the lines so far, of 34 bytes at most each. Assumes nothing.
use Prim.Native.Nat.{◌*◌}
use Rattle.words.specs.Writing.{Put}
use Rattle.shown.specs.InOrder.{up_to}
use Rattle.shown.specs.Plate.{entry_at}
use Rattle.dbi_text.specs.Dbi.{lines_from}
use Rattle.dbi_text.proofs.lines.push_entries.Given as goal

abbrev pub invariant-loop-v : goal.invariant-loop-v
invariant-loop-v g l = Put (34 * l.v) l.initial.page (lines_from 0 (up_to (entry_at l.row) l.v)) l.page
