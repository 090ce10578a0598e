-- Document 02, card 13: what the calls answer, and the state that a record leaves. Definitions only.
use Rattle.std.specs.Prelude.{ℕ, cond, not, List, ltb, Option, Float}
use Rattle.std.specs.Float.Ieee.Scale.{finite}
use Rattle.answers.specs.Outcome.{Outcome, refused, accepted}
use Rattle.answers.specs.Refusals.{VALUE, SPACE}
use Rattle.levels.specs.declared.Levels.{Levels}
use Rattle.levels.specs.Shown.{screen_of}
use Rattle.levels.specs.State.{received, levels_in, can_be_left}

-- the first number, 0 where there is none
unfoldable pub refusal_of : List ℕ → Float → ℕ
refusal_of s x = cond (not (finite x)) VALUE (cond (not (can_be_left s)) SPACE 0)

-- a record's answer
unfoldable pub record_of : List ℕ → Float → Outcome (Option Levels)
record_of s x = cond (ltb 0 (refusal_of s x)) (refused (refusal_of s x)) (accepted (screen_of (levels_in (received s x))))

-- the state that it leaves: a refusal leaves it as it was
unfoldable pub state_after : List ℕ → Float → List ℕ
state_after s x = cond (ltb 0 (refusal_of s x)) s (received s x)

-- the answer without a record
unfoldable pub show_of : List ℕ → Outcome (Option Levels)
show_of s = cond (not (can_be_left s)) (refused SPACE) (accepted (screen_of (levels_in s)))
