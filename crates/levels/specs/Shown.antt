-- Document 02, card 13: what the trainer's screen shows of levels, the earliest received first. Definitions only.
use Rattle.std.specs.Prelude.{ℕ, cond, length, Option, Some, None, Float}
use mathlib.Core.List.{List, [], ◌∷◌, foldl}
use Rattle.std.specs.Float.Ieee.{lt}
use Rattle.levels.specs.declared.Levels.{Levels}

-- of an earlier and a later level the one that stands as the greatest: where they tie, as +0 and -0 do, the earlier
unfoldable pub greater : Float → Float → Float
greater earlier later = cond (lt earlier later) later earlier

-- and as the least
unfoldable pub lesser : Float → Float → Float
lesser earlier later = cond (lt later earlier) later earlier

-- how many, the greatest and the least
abbrev pub levels : ℕ → Float → Float → Levels
levels held greatest least = record { held = held; greatest = greatest; least = least }

-- nothing where there is no level
unfoldable pub screen_of : List Float → Option Levels
screen_of [] = None
screen_of (x ∷ xs) = Some (levels (length (x ∷ xs)) (foldl greater x xs) (foldl lesser x xs))
