-- `board_kept::kept::raise_vacated` meets its contract.
use mathlib.Core.Path.{◌≡◌}
use Rattle.board_kept.specs.Steps.{raised_vacated}
use Rattle.board_kept.proofs.Writing.{written_to}
use Rattle.board_kept.proofs.kept.raise_vacated.Given as goal

abbrev pub invariant-loop-v : goal.invariant-loop-v
invariant-loop-v l = l.left ≡ written_to (raised_vacated l.gone l.kept l.id l.bits l.initial.left) l.initial.left l.v
