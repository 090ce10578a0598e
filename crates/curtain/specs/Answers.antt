-- Document 01, "Answers", for the curtain: an answer is a level with its number, or a refusal with its number. Definitions only.
use Rattle.std.specs.Prelude.{ℕ, Bool, not, ◌&&◌, cond, List, ltb, Float}
use Rattle.std.specs.Float.Ieee.{neg}
use Rattle.std.specs.Float.Ieee.Scale.{finite}
use Rattle.floats.specs.Literals.{ninety}
use Rattle.floats.specs.Ranges.{between, all_finite}
use Rattle.model.specs.Limits.{slot, in_band}
use Rattle.answers.specs.Outcome.{Outcome, refused, accepted}
use Rattle.answers.specs.Refusals.{VALUE, BAND, AIM, LEVEL}
use Rattle.curtain.specs.Level.{level_of}

-- ---- before the level is computed: the first number of document 01's table, 0 where there is none

unfoldable pub station_finite : List Float → Float → Bool
station_finite parm gnorm = all_finite parm && finite gnorm

-- operating MHz and design MHz
unfoldable pub band_ok : List Float → Bool
band_ok parm = in_band (slot parm 4) && in_band (slot parm 7)

-- the slew
unfoldable pub aim_ok : List Float → Bool
aim_ok parm = between (slot parm 14) (neg ninety) ninety

-- of a station with its factor, in any direction
unfoldable pub station_refusal_of : List Float → Float → ℕ
station_refusal_of parm gnorm =
    cond (not (station_finite parm gnorm)) VALUE
    (cond (not (band_ok parm)) BAND
    (cond (not (aim_ok parm)) AIM 0))

-- of a station in one direction. VALUE is the lowest number that a curtain is refused with, so the direction's goes before all of the station's: VALUE for any float, then BAND, then AIM
unfoldable pub refusal_of : List Float → Float → Float → Float → ℕ
refusal_of parm azimd elevd gnorm =
    cond (not (finite azimd && finite elevd)) VALUE (station_refusal_of parm gnorm)

-- ---- the answer

-- the number isn't finite
unfoldable pub graded : Float → Outcome Float
graded x = cond (finite x) (accepted x) (refused LEVEL)

-- lowest number first
unfoldable pub curtain_gain : List Float → Float → Float → Float → Outcome Float
curtain_gain parm azimd elevd gnorm =
    let number = refusal_of parm azimd elevd gnorm in
    cond (ltb 0 number) (refused number) (graded (level_of parm azimd elevd gnorm))
