-- `board_anew::kept::afresh` meets its contract.
use mathlib.Core.Path.{◌≡◌}
use Rattle.board_air.specs.Words.{kept_of, stations_to}
use Rattle.board_anew.proofs.kept.afresh.Given as goal

abbrev pub invariant-loop-k : goal.invariant-loop-k
invariant-loop-k l = l.kept ≡ kept_of (stations_to l.air l.k)
