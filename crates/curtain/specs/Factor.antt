-- The factor that a curtain's integral finds: what a caller asks many directions with. Definitions only.
use Rattle.std.specs.Prelude.{cond, List, ltb, Float}
use Rattle.std.specs.Float.Ieee.{neg}
use Rattle.answers.specs.Outcome.{Outcome, refused}
use Rattle.curtain_pattern.specs.Literals.{n99999}
use Rattle.curtain_parameters.specs.Pattrn0.{curtain_of}
use Rattle.curtain.specs.Level.{factor_of}
use Rattle.curtain.specs.Answers.{station_refusal_of, graded}

-- a station asked with -99999: the refusal that it has in every direction, or the factor, LEVEL where it isn't finite
unfoldable pub factor_found : List Float → Outcome Float
factor_found parm =
    let number = station_refusal_of parm (neg n99999) in
    cond (ltb 0 number) (refused number) (graded (factor_of (curtain_of parm) (neg n99999)))
