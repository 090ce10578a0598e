-- Issue 27, "`--compare A B` answers the buyer's questions": what lies behind a mast, how wide its beam is, where it leads another. A row is 360 numbers, hundredths of dBi raised by 100,000: 3 dB are 300. Definitions only.
use Rattle.std.specs.Prelude.{ℕ, zero, suc, ◌+◌, ◌-◌, ◌%◌, Bool, cond, ◌&&◌, List, ◌++◌, ltb, leb, eqb, ℤ, ◌-ℤ◌, get_or}
use Rattle.answers.specs.declared.Kind.{Kind}
use Rattle.answers.specs.declared.Kind.TheVariants as kind
use Rattle.hundredths.specs.Decimals.{two_decimals}
use Rattle.hundredths.specs.Raised.{lowered}
use Rattle.dial.specs.Kinds.{is_level}
use Rattle.dial.specs.Scale.{better_of, peak_azimuth, peak_of}

-- ---- "what lies behind"

-- the azimuth of the greatest of the numbers from 90 to 90 + n, of equal ones the first
unfoldable pub behind_to : List ℕ → ℕ → ℕ
behind_to numbers zero = 90
behind_to numbers (suc n) = better_of numbers (behind_to numbers n) (91 + n)

-- from 90 to 270
unfoldable pub behind_of : List ℕ → ℕ
behind_of numbers = behind_to numbers 180

-- whole hundredths are subtracted, as card 14's losses are
unfoldable pub difference_of : ℕ → ℕ → ℤ
difference_of a b = lowered a -ℤ lowered b

-- front-to-back: the gain at azimuth 0 less the one behind
unfoldable pub front_to_back : List ℕ → ℤ
front_to_back numbers = difference_of (get_or numbers 0 0) (get_or numbers (behind_of numbers) 0)

-- words, then a difference with two decimals
unfoldable pub difference : List ℕ → ℕ → ℕ → List ℕ
difference words a b = words ++ two_decimals (difference_of a b)

-- ---- "width of the beam at 3 dB"

-- at most 3 dB below the peak
unfoldable pub in_beam : List ℕ → ℕ → Bool
in_beam numbers v = leb (peak_of numbers - get_or numbers v 0) 300

-- how many azimuths in a row lie in the beam, of n from v on by turns of so many degrees
unfoldable pub in_row : List ℕ → ℕ → ℕ → ℕ → ℕ
in_row numbers turn v zero = 0
in_row numbers turn v (suc n) = cond (in_beam numbers v) (suc (in_row numbers turn ((v + turn) % 360) n)) 0

-- how many steps one can go from the peak: a turn of 1 is clockwise, one of 359 counter-clockwise
unfoldable pub steps_of : List ℕ → ℕ → ℕ
steps_of numbers turn = in_row numbers turn ((peak_azimuth numbers + turn) % 360) 359

-- the steps clockwise, the peak, the steps counter-clockwise; 360 where one can go all round
unfoldable pub beam_of : List ℕ → ℕ
beam_of numbers = cond (eqb (steps_of numbers 1) 359) 360 (steps_of numbers 1 + 1 + steps_of numbers 359)

-- ---- "how many azimuths each leads in"

-- a level that is greater than the other's number: a floor and a silence lead nowhere
unfoldable pub leads_at : List ℕ → List Kind → List ℕ → ℕ → Bool
leads_at first kinds second v = is_level (get_or kinds v kind.Level) && ltb (get_or second v 0) (get_or first v 0)

-- how many of the numbers below n pass a test
unfoldable pub count_to : (ℕ → Bool) → ℕ → ℕ
count_to test zero = 0
count_to test (suc n) = count_to test n + cond (test n) 1 0

unfoldable pub leads_of : List ℕ → List Kind → List ℕ → ℕ
leads_of first kinds second = count_to (leads_at first kinds second) 360
