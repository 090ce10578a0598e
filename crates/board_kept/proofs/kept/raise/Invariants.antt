-- `board_kept::kept::raise` meets its contract.
use mathlib.Core.Path.{◌≡◌}
use Rattle.board_kept.specs.Steps.{raised}
use Rattle.board_kept.proofs.Writing.{written_to}
use Rattle.board_kept.proofs.kept.raise.Given as goal

abbrev pub invariant-loop-v : goal.invariant-loop-v
invariant-loop-v l = l.kept ≡ written_to (raised l.id l.bits l.initial.kept) l.initial.kept l.v
