-- Document 02, card 4: the seasons A and B, and their changes. Definitions only.
use Rattle.std.specs.Prelude.{ℕ, zero, suc, ◌≤◌, ◌<◌, ◌≡◌, cond, List, [], ◌∷◌, ◌⊎◌, Option, None, Some}
use Rattle.calendar.specs.declared.time.Time.{Time}
use Rattle.calendar.specs.declared.seasons.BroadcastSeason.{BroadcastSeason}
use Rattle.calendar.specs.declared.seasons.BroadcastSeason.TheVariants.{A, B}
use Rattle.calendar.specs.Days.{LastSunday, last_sunday}
use Rattle.calendar.specs.Times.{minutes, before}

abbrev pub other : BroadcastSeason → BroadcastSeason
other A = B
other B = A

-- ---- the changes

-- 01:00 on the last Sunday of a month
abbrev pub change : ℕ → ℕ → Time
change year month = record { year = year; month = month; day = last_sunday year month; minute = 60 }

-- to A in March
abbrev pub to_a : ℕ → Time
to_a year = change year 3

-- to B in October
abbrev pub to_b : ℕ → Time
to_b year = change year 10

-- a change of season of the years 2000 to 2099, in words: 01:00 on the last Sunday of March or of October
pub record IsChange (c : Time) : Type 0 where
  pub from : 2000 ≤ c.year
  pub to : c.year ≤ 2099
  pub month : (c.month ≡ 3) ⊎ (c.month ≡ 10)
  pub day : LastSunday c.year c.month c.day
  pub minute : c.minute ≡ 60

-- ---- the season at a time

-- A from its change on until that to B, which holds before it and from then on
unfoldable pub season_at : Time → BroadcastSeason
season_at t = cond (before t (to_a t.year)) B (cond (before t (to_b t.year)) A B)

-- ---- the next change

-- the changes of so many years from one on, in their order
unfoldable pub changes_from : ℕ → ℕ → List Time
changes_from year zero = []
changes_from year (suc years) = to_a year ∷ to_b year ∷ changes_from (suc year) years

-- the first of the changes that is later than t
unfoldable pub first_after : Time → List Time → Option Time
first_after t [] = None
first_after t (c ∷ cs) = cond (before t c) (Some c) (first_after t cs)

-- of those of the years 2000 to 2099
unfoldable pub next_change : Time → Option Time
next_change t = first_after t (changes_from 2000 100)

-- what makes c the next change after t, in words: a change, later than t, and none between
pub record IsNext (t c : Time) : Type 0 where
  pub is-change : IsChange c
  pub later : minutes t < minutes c
  pub first : (d : Time) → IsChange d → minutes t < minutes d → minutes c ≤ minutes d

-- and where there is none, no change is later
abbrev pub NextIs : Time → Option Time → Type 0
NextIs t (Some c) = IsNext t c
NextIs t None = (d : Time) → IsChange d → minutes d ≤ minutes t
