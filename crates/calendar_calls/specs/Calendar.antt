-- `hf_season`, `hf_next_season` and `hf_open`: the calendar's answers as one number. Definitions only.
use Rattle.std.specs.Prelude.{ℕ, Bool, true, false, cond, not, List, [], ◌∷◌, length, eqb, Option, Some, None}
use Rattle.answers.specs.Outcome.{Outcome, refused, accepted}
use Rattle.answers.specs.Refusals.{SPACE}
use Rattle.calendar.specs.declared.time.Time.{Time}
use Rattle.calendar.specs.declared.seasons.BroadcastSeason.{BroadcastSeason}
use Rattle.calendar.specs.declared.seasons.BroadcastSeason.TheVariants.{A, B}
use Rattle.calendar.specs.Answers.{season_of, next_of, open_of}
use Rattle.packed.specs.Packed.{refused_as}
use Rattle.packed.specs.Lists.{Left, left}

-- a value's number, or the refusal's under kind 3
unfoldable pub numbered : {X : Type 0} → (X → ℕ) → Outcome X → ℕ
numbered number (accepted x) = number x
numbered number (refused n) = refused_as n

abbrev pub time_of : ℕ → ℕ → ℕ → ℕ → Time
time_of year month day minute = record { year = year; month = month; day = day; minute = minute }

-- ---- the season

abbrev pub season_number : BroadcastSeason → ℕ
season_number A = 0
season_number B = 1

unfoldable pub season_call : ℕ → ℕ → ℕ → ℕ → ℕ
season_call year month day minute = numbered season_number (season_of (time_of year month day minute))

-- ---- the next change

abbrev pub time_words : Time → List ℕ
time_words t = t.year ∷ t.month ∷ t.day ∷ t.minute ∷ []

-- 1 with the change; 0, or a refusal's number, with the lent words as they were
unfoldable pub next_left : Outcome (Option Time) → List ℕ → Left
next_left (accepted (Some c)) out = left 1 (time_words c)
next_left (accepted None) out = left 0 out
next_left (refused n) out = left (refused_as n) out

-- SPACE for words of another number
unfoldable pub next_season_call : ℕ → ℕ → ℕ → ℕ → List ℕ → Left
next_season_call year month day minute out =
    next_left (cond (not (eqb (length out) 4)) (refused SPACE) (next_of (time_of year month day minute))) out

-- ---- a service's hours

abbrev pub open_number : Bool → ℕ
open_number true = 1
open_number false = 0

unfoldable pub open_call : ℕ → ℕ → ℕ → ℕ
open_call first end minute = numbered open_number (open_of first end minute)
