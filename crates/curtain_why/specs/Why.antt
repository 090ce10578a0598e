-- Which slot a curtain's refusal is about: for each of document 01's limits of its station the slots that break it. Definitions only.
use Rattle.std.specs.Prelude.{ℕ, Bool, false, cond, not, ◌&&◌, ◌||◌, List, eqb, Float}
use Rattle.std.specs.Float.Ieee.{neg}
use Rattle.std.specs.Float.Ieee.Scale.{finite}
use Rattle.answers.specs.Refusals.{VALUE, BAND, AIM}
use Rattle.floats.specs.Literals.{ninety}
use Rattle.floats.specs.Ranges.{between}
use Rattle.slots.specs.Told.{Why, told}
use Rattle.model.specs.Limits.{slot, in_band}

-- the number x in slot s breaks limit n: operating MHz is in slot 4, design MHz in slot 7, the slew in slot 14
unfoldable pub broken : ℕ → ℕ → Float → Bool
broken n s x =
    cond (eqb n VALUE) (not (finite x))
    (cond (eqb n BAND) ((eqb s 4 || eqb s 7) && not (in_band x))
    (cond (eqb n AIM) (eqb s 14 && not (between x (neg ninety) ninety)) false))

-- slot s of p breaks limit n
unfoldable pub breaks : List Float → ℕ → ℕ → Bool
breaks p n s = broken n s (slot p s)

-- the lowest number, and then the lowest slot
unfoldable pub why_of : List Float → Why
why_of p = told (breaks p)
