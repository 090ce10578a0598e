-- Document 02, card 13: a run, the levels as they were sent, the earliest first. Definitions only.
use Rattle.std.specs.Prelude.{ℕ, ◌-◌, cond, length, drop, replicate, Float}
use mathlib.Core.List.{List, [], ◌∷◌, foldl}
use Rattle.std.specs.Float.Ieee.Scale.{finite}
use Rattle.levels.specs.State.{received}

-- those that count: a level that isn't finite doesn't
unfoldable pub counted : List Float → List Float
counted [] = []
counted (x ∷ xs) = cond (finite x) (x ∷ counted xs) (counted xs)

-- the last 64, or all while there are fewer
unfoldable pub tail : List Float → List Float
tail xs = drop (length xs - 64) xs

-- a level that isn't finite leaves the state as it was
unfoldable pub sent : List ℕ → Float → List ℕ
sent s x = cond (finite x) (received s x) s

-- the words that a run leaves, which are all 0 at the start
unfoldable pub leaves : List Float → List ℕ
leaves xs = foldl sent (replicate 66 0) xs
