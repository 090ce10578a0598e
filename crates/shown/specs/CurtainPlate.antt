-- Issue 27: "A curtain's card is drawn too: its 360 levels with one factor". Document 01 says what a curtain answers in a direction; its `plate` refuses a curtain. Definitions only.
use Rattle.std.specs.Prelude.{ℕ, ◌-◌, cond, not, ◌&&◌, List, ltb, Float}
use Rattle.std.specs.Float.Ieee.{neg, eq, to_unsigned}
use Rattle.std.specs.Float.Ieee.Scale.{finite}
use Rattle.floats.specs.Ops.{count, at}
use Rattle.answers.specs.Outcome.{Outcome, refused, accepted}
use Rattle.answers.specs.Refusals.{VALUE, AIM}
use Rattle.answers.specs.declared.Kind.{Kind}
use Rattle.answers.specs.declared.Kind.TheVariants as kind
use Rattle.model.specs.Limits.{slot}
use Rattle.station.specs.declared.Station.{Station}
use Rattle.curtain_pattern.specs.Literals.{n99999}
use Rattle.curtain.specs.Answers.{station_refusal_of, curtain_gain}
use Rattle.curtain.specs.Factor.{factor_found}
use Rattle.plate_row.specs.Row.{elevation_ok}
use Rattle.request.specs.Request.{and_then}
use Rattle.shown.specs.Plate.{Entry, plate_of}

-- -99999, which asks for the integral: the record lists no factor
abbrev pub no_factor : Float
no_factor = neg n99999

-- the factor that the record lists: `gainmaxb` has one for each of 1 to 30 MHz, and slot 4's MHz, truncated, says which
unfoldable pub listed_factor : Station → Float
listed_factor s =
    let mhz = to_unsigned 64 (slot s.parm 4) in
    cond (ltb mhz 31 && ltb 0 mhz) (at s.gainmaxb (mhz - 1)) no_factor

-- the one factor of all levels: the listed one, or where there is none the one that the integral finds
unfoldable pub factor_of : Station → Outcome Float
factor_of s = cond (eq (listed_factor s) no_factor) (factor_found s.parm) (accepted (listed_factor s))

-- lowest number first, 0 where there is none: 2 for any float, used or not; the station's own 2, 5 and 7; 7 for an elevation that isn't a row's
unfoldable pub curtain_refusal : List Float → Float → Float → Float → ℕ
curtain_refusal parm mhz design u =
    let number = station_refusal_of parm no_factor in
    cond (not (finite mhz && finite design && finite u)) VALUE
    (cond (ltb 0 number) number
    (cond (not (elevation_ok u)) AIM 0))

-- "Curtain numbers are always levels"
unfoldable pub level_at : List Float → Float → Float → ℕ → Outcome (Kind × Float)
level_at parm factor u v = and_then (curtain_gain parm (count v) u factor) λ (x : Float). accepted (kind.Level, x)

-- with MHz, design MHz and the elevation that stand behind the record; the MHz that counts is slot 4's
unfoldable pub curtain_plate : Station → Float → Float → Float → Outcome (List Entry)
curtain_plate s mhz design u =
    let number = curtain_refusal s.parm mhz design u in
    cond (ltb 0 number) (refused number)
    (and_then (factor_of s) λ (factor : Float). plate_of (level_at s.parm factor u))
