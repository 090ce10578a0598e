-- Document 02, card 4: the hours of a service, from its first minute of the day to its end minute. Definitions only.
use Rattle.std.specs.Prelude.{ℕ, Bool, true, cond, ◌&&◌, ◌||◌, ltb, leb, eqb}
use Rattle.answers.specs.Refusals.{CALENDAR}

-- with both equal all day; else from the first on, the end not included, and past midnight where the end comes before the first
unfoldable pub is_open : ℕ → ℕ → ℕ → Bool
is_open first end minute =
    cond (eqb first end) true
    (cond (ltb first end) (leb first minute && ltb minute end)
    (leb first minute || ltb minute end))

-- the refusal's number, 0 where there is none: each is a minute of the day
unfoldable pub hours_refusal : ℕ → ℕ → ℕ → ℕ
hours_refusal first end minute = cond (leb first 1439 && leb end 1439 && leb minute 1439) 0 CALENDAR
