-- Document 01, part 7 and "Answers": `ccirgain`, the gain at a direction with its kind, and its refusals, 15 of document 02 among them. Definitions only.
use Rattle.std.specs.Prelude.{Bool, true, cond, not, ◌&&◌, List, length, nat_lt, Float}
use Rattle.std.specs.Float.Ieee.{neg, lt, le, eq}
use Rattle.std.specs.Float.Ieee.Scale.{finite}
use Rattle.logarithm.specs.Logarithm.{log10_of}
use Rattle.floats.specs.Ops.{◌⊕◌, ◌⊗◌, ◌⊘◌, +0}
use Rattle.floats.specs.Literals.{twenty, thirty}
use Rattle.model.specs.declared.record.Model.{Model}
use Rattle.pattern.specs.Gainrel.{gain_rel}
use Rattle.answers.specs.declared.Kind.{Kind}
use Rattle.answers.specs.declared.Kind.TheVariants.{Level, Floor, Silence}
use Rattle.answers.specs.Outcome.{Outcome, refused, accepted}
use Rattle.answers.specs.Refusals.{LEVEL}
use Rattle.antenna.specs.Literals.{floor_ratio}
use Rattle.antenna.specs.TableSum.{own_table}
use Rattle.antenna.specs.Asked.{asked_refusal}
use Rattle.antenna.specs.declared.asked.Asked.{Asked}
use Rattle.antenna.specs.declared.record.Antenna.{Antenna}
use Rattle.antenna.specs.declared.gain.Gain.{Gain}

-- FLOOR, negated
abbrev pub floor_level : Float
floor_level = neg thirty

-- -30 where x lies below it
unfoldable pub floored : Float → Float
floored x = cond (lt x floor_level) floor_level x

-- 20 log10 of the ratio to the peak, -30 from the ratio 0.03162278 down
unfoldable pub ratio_level : Float → Float
ratio_level dgs = cond (le dgs floor_ratio) floor_level (twenty ⊗ log10_of dgs)

-- the number of the source's `ccirgain`, by the relative gain z9, the peak z6 and the maximum gain
unfoldable pub decibels_of : Float → Float → Float → Float
decibels_of z9 z6 giso = cond (eq z6 +0) floor_level (floored (floored (ratio_level (z9 ⊘ z6)) ⊕ giso))

-- "Silence: a peak `z6` of 0. Floor: any other -30. Level: all else."
unfoldable pub kind_of : Float → Float → Kind
kind_of z6 g = cond (eq z6 +0) Silence (cond (eq g floor_level) Floor Level)

-- a number that isn't finite is refused
unfoldable pub graded : Float → Float → Outcome (Kind × Float)
graded z6 g = cond (not (finite g)) (refused LEVEL) (accepted (kind_of z6 g, g))

-- the number at elevation u and azimuth v
unfoldable pub number_at : Model → Float → List Float → Float → Float → Float → Float
number_at m z6 t u v giso = decibels_of (gain_rel m t u v) z6 giso

-- what a gain asks: its elevation is any, and it needs no space
unfoldable pub gain_asked : Bool → Float → Float → Float → Asked
gain_asked own u v giso = record { values = finite u && finite v && finite giso; aim = true; space = true; own = own }

-- `ccirgain`
unfoldable pub gain_of : Antenna → List Float → Float → Float → Float → Outcome (Kind × Float)
gain_of a t u v giso =
    let number = asked_refusal a.model (length t) (gain_asked (own_table a t) u v giso) in
    cond (nat_lt 0 number) (refused number) (graded a.peak.z6 (number_at a.model a.peak.z6 t u v giso))

-- what a gain says: its kind and its number
abbrev pub told : Gain → Kind × Float
told g = (g.kind, g.number)
