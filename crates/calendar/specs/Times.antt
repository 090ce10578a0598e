-- Document 02, card 4: times of the calendar, a date with a minute in UTC, and their order. Definitions only.
use Rattle.std.specs.Prelude.{ℕ, ◌+◌, ◌*◌, Bool, cond, ◌&&◌, ltb, leb}
use Rattle.answers.specs.Refusals.{CALENDAR}
use Rattle.calendar.specs.declared.time.Time.{Time}
use Rattle.calendar.specs.Days.{month_length, days_after}

-- a year from 2000 to 2099, and a day of its month
unfoldable pub is_date : Time → Bool
is_date t =
    leb 2000 t.year && leb t.year 2099 && leb 1 t.day && leb t.day (month_length t.year t.month)

-- a date, and a minute of the day
unfoldable pub is_time : Time → Bool
is_time t = is_date t && leb t.minute 1439

-- the refusal's number, 0 where there is none
unfoldable pub refusal_of : Time → ℕ
refusal_of t = cond (is_time t) 0 CALENDAR

-- the minutes from 1 January 2000, 00:00
unfoldable pub minutes : Time → ℕ
minutes t = days_after t.year t.month t.day * 1440 + t.minute

-- a time lies before another
abbrev pub before : Time → Time → Bool
before s t = ltb (minutes s) (minutes t)
