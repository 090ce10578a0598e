-- The sentences of a limit: which end a number breaks, and the refusal. Definitions only.
use Rattle.std.specs.Prelude.{ℕ, Bool, cond, ◌&&◌, ◌||◌, List, eqb, Float}
use Rattle.std.specs.Float.Ieee.{neg, lt, le}
use Rattle.answers.specs.Refusals as refusals
use Rattle.quoted.specs.Quoted.{quoted}
use Rattle.floats.specs.Literals.{one, two, thirty_one, sixty_four, ninety}
use Rattle.floats.specs.Ops.{+0}
use Rattle.fields.specs.Limits.{full_circle}
use Rattle.fields.specs.Names.{TYPE, DIPOLES, SLEW, START, ELEMENTS, MHZ, DESIGN}

-- a frequency
abbrev pub is_band : ℕ → Bool
is_band f = eqb f MHZ || eqb f DESIGN

-- ---- the lowest number that a field takes

unfoldable pub lowest : ℕ → Float
lowest f = cond (is_band f) one (cond (eqb f ELEMENTS) two (cond (eqb f SLEW) (neg ninety) +0))

unfoldable pub under : ℕ → List ℕ
under f =
    cond (is_band f) (quoted " is under 1")
    (cond (eqb f ELEMENTS) (quoted " is under 2")
    (cond (eqb f SLEW) (quoted " is under -90")
    (quoted " is under 0")))

-- ---- the highest, where it takes that; frequencies and elements have to lie below 31. A start's numbers are an elevation and an azimuth.

abbrev pub is_azimuth : ℕ → ℕ → Bool
is_azimuth f number = eqb f START && eqb number 2

unfoldable pub is_over : ℕ → ℕ → Float → Bool
is_over f number x =
    cond (is_band f || eqb f ELEMENTS) (le thirty_one x)
    (cond (eqb f DIPOLES) (lt sixty_four x)
    (cond (is_azimuth f number) (lt full_circle x)
    (lt ninety x)))

unfoldable pub over : ℕ → ℕ → List ℕ
over f number =
    cond (is_band f || eqb f ELEMENTS) (quoted " is not below 31")
    (cond (eqb f DIPOLES) (quoted " is over 64")
    (cond (is_azimuth f number) (quoted " is over 360")
    (quoted " is over 90")))

-- ---- what is wrong with a number that a field doesn't take as its first, second ..: a type has no order, and an elevation within its ends isn't whole
unfoldable pub broken : ℕ → ℕ → Float → List ℕ
broken f number x =
    cond (eqb f TYPE) (quoted " is not a type, 1 to 9 or curtain")
    (cond (lt x (lowest f)) (under f)
    (cond (is_over f number x) (over f number)
    (quoted " is not a whole number")))

-- a refusal's number and name
unfoldable pub refused_text : ℕ → List ℕ
refused_text n =
    cond (eqb n refusals.TYPE) (quoted " (refused 3, type)")
    (cond (eqb n refusals.BAND) (quoted " (refused 5, band)")
    (cond (eqb n refusals.COUNT) (quoted " (refused 6, count)")
    (quoted " (refused 7, aim)")))
