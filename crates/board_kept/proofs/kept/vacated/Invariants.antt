-- `board_kept::kept::vacated` meets its contract.
use mathlib.Core.Path.{◌≡◌}
use mathlib.Core.List.{List, []}
use Prim.Native.Nat.{ℕ}
use lib.ListN.{replicate}
use Rattle.board_kept.specs.Steps.{renewed}
use Rattle.board_kept.proofs.Writing.{written_to}
use Rattle.board_kept.proofs.kept.vacated.Given as goal

abbrev pub blank : List ℕ
blank = replicate 720 0

abbrev pub invariant-loop-v : goal.invariant-loop-v
invariant-loop-v l = l.left ≡ written_to (renewed l.gone [] l.kept) blank l.v
