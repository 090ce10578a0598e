-- `hf_curtain`, `hf_curtain_factor` and `hf_curtain_levels`: the curtain's gain, factor and levels at many directions, their answers as one number. Definitions only.
use Rattle.std.specs.Prelude.{ℕ, cond, not, List, length, eqb, Float}
use Rattle.std.specs.Float.{binary32}
use Rattle.std.specs.Float.Ieee.{to_bits}
use Rattle.answers.specs.Outcome.{Outcome, refused, accepted}
use Rattle.answers.specs.Refusals.{SPACE}
use Rattle.curtain.specs.Answers.{curtain_gain}
use Rattle.curtain.specs.Factor.{factor_found}
use Rattle.curtain.specs.Levels.{levels_call}
use Rattle.packed.specs.Packed.{refused_as, counted}

-- a level's or a factor's bits, or the refusal's number under kind 3
unfoldable pub packed : Outcome Float → ℕ
packed (accepted x) = to_bits binary32 x
packed (refused n) = refused_as n

-- 8 for parameters of another number
unfoldable pub curtain_call : List Float → Float → Float → Float → ℕ
curtain_call parm azimuth elevation factor =
    packed (cond (not (eqb (length parm) 20)) (refused 8) (curtain_gain parm azimuth elevation factor))

unfoldable pub factor_call : List Float → ℕ
factor_call parm = packed (cond (not (eqb (length parm) 20)) (refused 8) (factor_found parm))

-- the number that the call returns, the readings, and what it leaves in the lent levels
unfoldable pub curtain_levels_call : List Float → Float → List Float → List Float → ℕ × List Float
curtain_levels_call parm factor directions levels =
    let answer = levels_call parm factor directions levels in
    cond (not (eqb (length parm) 20)) (refused_as SPACE, levels) (counted answer.0, answer.1)
