-- Which slot a refusal of set-up is about: for each of document 01's limits the slots that break it, by the type. Definitions only.
use Rattle.std.specs.Prelude.{ℕ, Bool, false, cond, not, ◌&&◌, ◌||◌, List, leb, eqb, Float}
use Rattle.std.specs.Float.Ieee.{neg, to_unsigned}
use Rattle.std.specs.Float.Ieee.Scale.{finite}
use Rattle.answers.specs.Refusals.{VALUE, TYPE, BAND, COUNT, AIM}
use Rattle.floats.specs.Literals.{ninety}
use Rattle.floats.specs.Ops.{+0}
use Rattle.floats.specs.Ranges.{between}
use Rattle.slots.specs.Told.{Why, told}
use Rattle.model.specs.Limits.{slot, in_band}
use Rattle.model.specs.Types.{jant_of, type_ok, array_type, log_periodic, crossed_type}
use Rattle.model.specs.Counts.{count_ok}
use Rattle.search.specs.Literals.{full_circle}

-- ---- what slot s is, for the type iant

-- operating MHz, slot 4; design MHz, slot 7 of types 1 to 4 and slot 5 of types 8 and 9
unfoldable pub mhz_slot : ℕ → ℕ → Bool
mhz_slot iant s = eqb s 4 || array_type iant && eqb s 7 || crossed_type iant && eqb s 5

-- log-periodic elements: slot 5 of types 5 and 6
unfoldable pub elements_slot : ℕ → ℕ → Bool
elements_slot iant s = log_periodic iant && eqb s 5

-- dipoles: slots 5 and 6 of types 1 to 4
unfoldable pub dipoles_slot : ℕ → ℕ → Bool
dipoles_slot iant s = array_type iant && (eqb s 5 || eqb s 6)

-- the slew: slot 9 of types 1 to 4
unfoldable pub slew_slot : ℕ → ℕ → Bool
slew_slot iant s = array_type iant && eqb s 9

-- the start elevation: slot 13 of type 1, 11 of types 2 and 3, 10 of types 4, 8 and 9
unfoldable pub elevation_slot : ℕ → ℕ → Bool
elevation_slot iant s =
    eqb iant 1 && eqb s 13 || (eqb iant 2 || eqb iant 3) && eqb s 11 || (eqb iant 4 || crossed_type iant) && eqb s 10

-- the start azimuth: slot 14 of type 1, 12 of types 2 and 3, 11 of types 4, 8 and 9
unfoldable pub azimuth_slot : ℕ → ℕ → Bool
azimuth_slot iant s =
    eqb iant 1 && eqb s 14 || (eqb iant 2 || eqb iant 3) && eqb s 12 || (eqb iant 4 || crossed_type iant) && eqb s 11

-- ---- the limits

-- truncating to 2..30
unfoldable pub elements_ok : Float → Bool
elements_ok x = leb 2 (to_unsigned 64 x) && leb (to_unsigned 64 x) 30

unfoldable pub count_broken : ℕ → ℕ → Float → Bool
count_broken iant s x = elements_slot iant s && not (elements_ok x) || dipoles_slot iant s && not (count_ok x)

unfoldable pub aim_broken : ℕ → ℕ → Float → Bool
aim_broken iant s x =
    slew_slot iant s && not (between x (neg ninety) ninety)
    || elevation_slot iant s && not (between x +0 ninety)
    || azimuth_slot iant s && not (between x +0 full_circle)

-- the number x in slot s breaks limit n, for the type iant
unfoldable pub broken : ℕ → ℕ → ℕ → Float → Bool
broken iant n s x =
    cond (eqb n VALUE) (not (finite x))
    (cond (eqb n TYPE) (eqb s 1 && not (type_ok iant))
    (cond (eqb n BAND) (mhz_slot iant s && not (in_band x))
    (cond (eqb n COUNT) (count_broken iant s x)
    (cond (eqb n AIM) (aim_broken iant s x) false))))

-- the same where slot 1 is no type, but for the limits after the second, which then aren't told
unfoldable pub broken_untyped : ℕ → ℕ → Float → Bool
broken_untyped n s x = cond (eqb n VALUE) (not (finite x)) (cond (eqb n TYPE) (eqb s 1) false)

-- slot s of p breaks limit n
unfoldable pub breaks : List Float → ℕ → ℕ → Bool
breaks p n s = broken (jant_of (slot p 1)) n s (slot p s)

-- the lowest number, and then the lowest slot
unfoldable pub why_of : List Float → Why
why_of p = told (breaks p)
