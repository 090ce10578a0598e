-- Document 02, card 1: the levels at many directions, the factor found once, and the readings of the pattern that they take. Definitions only.
use Rattle.std.specs.Prelude.{ℕ, zero, suc, ◌+◌, ◌*◌, ◌/◌, ◌%◌, Bool, cond, not, ◌&&◌, List, [], ◌∷◌, ◌++◌, length, eqb, leb, ltb, Float}
use Rattle.std.specs.Float.Ieee.{neg}
use Rattle.std.specs.Float.Ieee.Scale.{finite}
use Rattle.floats.specs.Ops.{at}
use Rattle.answers.specs.Outcome.{Outcome, refused, accepted}
use Rattle.answers.specs.Refusals.{VALUE, SPACE}
use Rattle.curtain_parameters.specs.Pattrn0.{curtain_of}
use Rattle.curtain.specs.Level.{factor_of, factor_readings, level_at}
use Rattle.curtain.specs.Answers.{station_refusal_of, graded}
use Rattle.curtain_pattern.specs.declared.pattern.Curtain.{Curtain}

-- ---- a pair

-- one of the directions: azimuth first
abbrev pub azimuth_of : List Float → ℕ → Float
azimuth_of directions k = at directions (2 * k)

abbrev pub elevation_of : List Float → ℕ → Float
elevation_of directions k = at directions (2 * k + 1)

-- its level by the factor, or what it is refused for itself
unfoldable pub pair_of : Curtain → Float → Float → Float → Outcome Float
pair_of ant factor azimd elevd =
    cond (not (finite azimd && finite elevd)) (refused VALUE) (graded (level_at ant factor azimd elevd))

unfoldable pub pair_at : Curtain → Float → List Float → ℕ → Outcome Float
pair_at ant factor directions k = pair_of ant factor (azimuth_of directions k) (elevation_of directions k)

-- ---- the pairs in order

-- levels, and the readings taken for them
abbrev pub Taken : Type 0
Taken = List Float × ℕ

-- one pair more: a level and a reading; the first pair that is refused refuses the lot
unfoldable pub and_then : Outcome Taken → Outcome Float → Outcome Taken
and_then (refused n) pair = refused n
and_then (accepted t) (refused n) = refused n
and_then (accepted t) (accepted x) = accepted (t.0 ++ (x ∷ []), t.1 + 1)

-- the first n pairs, pair k answered by f k, after the readings taken before them
unfoldable pub in_order : (ℕ → Outcome Float) → ℕ → ℕ → Outcome Taken
in_order f before zero = accepted ([], before)
in_order f before (suc n) = and_then (in_order f before n) (f n)

-- ---- the call

-- whole pairs, at most 64, and a level for each
unfoldable pub space_ok : ℕ → ℕ → Bool
space_ok floats levels = eqb (floats % 2) 0 && leb (floats / 2) 64 && eqb levels (floats / 2)

-- the station and the factor, the space, then the pairs in order; the factor is found before the first pair, also where there is none
unfoldable pub levels_of : List Float → Float → List Float → ℕ → Outcome Taken
levels_of parm gnorm directions space =
    let number = station_refusal_of parm gnorm in
    let ant = curtain_of parm in
    let factor = factor_of ant gnorm in
    cond (ltb 0 number) (refused number)
    (cond (not (space_ok (length directions) space)) (refused SPACE)
    (in_order (pair_at ant factor directions) (factor_readings ant gnorm) (length directions / 2)))

-- what the call answers, and what it leaves in the lent floats: the levels, or after a refusal what they were
unfoldable pub left : Outcome Taken → List Float → Outcome ℕ × List Float
left (refused n) lent = (refused n, lent)
left (accepted t) lent = (accepted t.1, t.0)

unfoldable pub levels_call : List Float → Float → List Float → List Float → Outcome ℕ × List Float
levels_call parm gnorm directions lent = left (levels_of parm gnorm directions (length lent)) lent

-- ---- for the mirror law

-- the directions with each azimuth negated
unfoldable pub mirrored : List Float → List Float
mirrored [] = []
mirrored (azimuth ∷ []) = neg azimuth ∷ []
mirrored (azimuth ∷ elevation ∷ rest) = neg azimuth ∷ elevation ∷ mirrored rest
