-- `hf_levels_record` and `hf_levels`: the last sixty-four field strengths, shown in three words. Definitions only.
use Rattle.std.specs.Prelude.{ℕ, cond, not, List, [], ◌∷◌, length, eqb, Option, Some, None, Float}
use Rattle.std.specs.Float.{binary32}
use Rattle.std.specs.Float.Ieee.{to_bits}
use Rattle.answers.specs.Outcome.{Outcome, refused, accepted}
use Rattle.levels.specs.declared.Levels.{Levels}
use Rattle.levels.specs.Answers.{record_of, state_after, show_of}
use Rattle.packed.specs.Lists.{Left, left}

-- 0, with how many and the bits of the greatest and the least, all 0 with none; or the refusal's number, with the lent words as they were
unfoldable pub screen_words : Outcome (Option Levels) → List ℕ → Left
screen_words (accepted None) out = left 0 (0 ∷ 0 ∷ 0 ∷ [])
screen_words (accepted (Some l)) out = left 0 (l.held ∷ to_bits binary32 l.greatest ∷ to_bits binary32 l.least ∷ [])
screen_words (refused n) out = left n out

-- what a record leaves in the state, and beside it
pub data LevelsLeft : Type 0 where
  levels_left : List ℕ → Left → LevelsLeft

-- 8 for words of another number
unfoldable pub record_call : List ℕ → Float → List ℕ → LevelsLeft
record_call state level out =
    cond (not (eqb (length out) 3)) (levels_left state (left 8 out))
    (levels_left (state_after state level) (screen_words (record_of state level) out))

unfoldable pub levels_call : List ℕ → List ℕ → Left
levels_call state out = cond (not (eqb (length out) 3)) (left 8 out) (screen_words (show_of state) out)
