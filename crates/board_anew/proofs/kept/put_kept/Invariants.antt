-- `board_anew::kept::put_kept` meets its contract.
use mathlib.Core.Path.{◌≡◌}
use mathlib.Core.List.{List, ◌++◌}
use Prim.Native.Nat.{ℕ, ◌+◌}
use lib.ListN.{length, get_or, drop}
use Rattle.board_air.specs.Stations.{up_to}
use Rattle.board_anew.proofs.kept.put_kept.Given as goal

abbrev pub id_of : List ℕ → ℕ → ℕ
id_of kept v = get_or kept (360 + v) 0

abbrev pub invariant-loop-v : goal.invariant-loop-v
invariant-loop-v l = (l.ids ≡ up_to (id_of l.kept) l.v ++ drop l.v l.initial.ids) × (length l.ids ≡ 360)
