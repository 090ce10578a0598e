-- The source's `gain`: the curtain's level in decibels at a direction in degrees. Definitions only.
use Rattle.std.specs.Prelude.{ℕ, cond, List, Float}
use Rattle.std.specs.Float.Ieee.{neg, eq, ne}
use Rattle.numeric.specs.Float.{mag}
use Rattle.logarithm.specs.Logarithm.{log10_of}
use Rattle.floats.specs.Ops.{◌⊖◌, ◌⊗◌, ◌⊘◌, +0}
use Rattle.floats.specs.Literals.{four, ten, twenty, n1000}
use Rattle.curtain_pattern.specs.Literals.{PI, D2R, n99999}
use Rattle.curtain_parameters.specs.Pattrn0.{curtain_of}
use Rattle.curtain_pattern.specs.Azimuth.{iaz, folded}
use Rattle.curtain_pattern.specs.Pattern.{f2}
use Rattle.curtain_pattern.specs.Integral.{dbltrap, integral}
use Rattle.curtain_pattern.specs.declared.pattern.Curtain.{Curtain}

-- `factor`: -99999 asks for the integral
unfoldable pub factor_of : Curtain → Float → Float
factor_of ant gnorm = cond (eq gnorm (neg n99999)) (four ⊗ PI ⊘ integral ant) gnorm

-- the readings that it takes: none where it is given
unfoldable pub factor_readings : Curtain → Float → ℕ
factor_readings ant gnorm = cond (eq gnorm (neg n99999)) (dbltrap ant).readings 0

-- `xgn` at first: the pattern times the factor, in decibels
unfoldable pub decibels : Float → Float → Float
decibels xgain factor = cond (ne xgain +0) (ten ⊗ log10_of (mag (xgain ⊗ factor))) (neg n1000)

-- `gain` after its factor: one reading of the pattern; backward radiation is 20 less
unfoldable pub level_at : Curtain → Float → Float → Float → Float
level_at ant factor azimd elevd =
    let azim = azimd ⊗ D2R in
    let xgain = f2 ant (elevd ⊗ D2R) (folded azim) in
    let xgn = decibels xgain factor in
    cond (iaz azim) (xgn ⊖ twenty) xgn

-- `gain`
unfoldable pub level_of : List Float → Float → Float → Float → Float
level_of parm azimd elevd gnorm =
    let ant = curtain_of parm in
    level_at ant (factor_of ant gnorm) azimd elevd
