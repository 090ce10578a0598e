-- Not of document 02: what the code's inner steps answer. No public contract cites it. Definitions only.
use Rattle.std.specs.Prelude.{Option, Some, None, ℕ, cond, List, [], ◌∷◌, length, eqb}
use Rattle.board_air.specs.Stations.{Station}
use Rattle.board_air.specs.Runs.{on}

-- the place of the first to join that has this id
unfoldable pub slot_of : ℕ → List Station → Option ℕ
slot_of id [] = None
slot_of id (s ∷ ss) = cond (on id ss) (slot_of id ss) (cond (eqb s.id id) (Some (length ss)) None)
