-- Document 02, card 4: what the three calls answer. Definitions only.
use Rattle.std.specs.Prelude.{ℕ, Bool, Option, cond, ltb}
use Rattle.answers.specs.Outcome.{Outcome, refused, accepted}
use Rattle.calendar.specs.declared.time.Time.{Time}
use Rattle.calendar.specs.Times.{refusal_of}
use Rattle.calendar.specs.declared.seasons.BroadcastSeason.{BroadcastSeason}
use Rattle.calendar.specs.Seasons.{season_at, next_change}
use Rattle.calendar.specs.Hours.{is_open, hours_refusal}

abbrev pub answered : {X : Type 0} → ℕ → X → Outcome X
answered number x = cond (ltb 0 number) (refused number) (accepted x)

unfoldable pub season_of : Time → Outcome BroadcastSeason
season_of t = answered (refusal_of t) (season_at t)

unfoldable pub next_of : Time → Outcome (Option Time)
next_of t = answered (refusal_of t) (next_change t)

unfoldable pub open_of : ℕ → ℕ → ℕ → Outcome Bool
open_of first end minute = answered (hours_refusal first end minute) (is_open first end minute)
