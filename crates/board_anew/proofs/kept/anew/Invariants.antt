-- `board_anew::kept::anew` meets its contract.
use mathlib.Core.Path.{◌≡◌}
use Rattle.board_air.specs.Words.{stations_to}
use Rattle.board_kept.specs.Steps.{kept_by, renewed}
use Rattle.board_anew.proofs.kept.anew.Given as goal

abbrev pub invariant-loop-k : goal.invariant-loop-k
invariant-loop-k l = l.left ≡ kept_by (renewed l.gone (stations_to l.air l.k) l.kept)
