-- `gainrel`'s direction: the azimuth is folded into the first quadrant of the tables, with the sign pattern of each quadrant. Definitions only.
use Rattle.std.specs.Prelude.{ℕ, List, Bool, true, false, ◌&&◌, ◌||◌, cond, pos, ◌-ℤ◌, get_or, Float}
use Rattle.std.specs.Int.Signed.{le_z}
use Rattle.std.specs.Float.{nan, binary32}
use Rattle.std.specs.Float.Ieee.{neg, rem, lt, le, to_signed}
use Rattle.floats.specs.Ops.{◌⊖◌, +0}
use Rattle.floats.specs.Rounding.{clamp90, ifix_of}
use Rattle.model.specs.declared.record.Direction.{Direction}
use Rattle.directions.specs.Literals.{deg90, deg180, deg270, deg360, deg450, deg540}
use Rattle.directions.specs.declared.azimuth.Quadrant.{Quadrant}

-- `v % 360.0`
abbrev pub turned : Float → Float
turned v = rem binary32 v deg360

-- the branches: the first quadrant and the second, each also one turn further, and the third; all else is the fourth
unfoldable pub in_first : Float → Bool
in_first v = (le +0 v && le v deg90) || (le deg360 v && le v deg450)

unfoldable pub in_second : Float → Bool
in_second v = (lt deg90 v && le v deg180) || (lt deg450 v && le v deg540)

unfoldable pub in_third : Float → Bool
in_third v = lt deg180 v && le v deg270

-- `(180 - kv).clamp(0, 90)`
unfoldable pub back180 : Float → ℕ
back180 x = clamp90 (pos 180 -ℤ to_signed 31 x)

-- jv, and whether a(jv) and b(jv) are negated
unfoldable pub quadrant_of : Float → Quadrant
quadrant_of v =
    cond (in_first v) (record { jv = ifix_of (turned v); an = false; bn = false })
    (cond (in_second v) (record { jv = back180 (turned v); an = false; bn = true })
    (cond (in_third v) (record { jv = ifix_of (v ⊖ deg180); an = true; bn = true })
    (record { jv = ifix_of (deg360 ⊖ v); an = true; bn = false })))

-- x, negated where the flag says so
abbrev pub signed : Bool → Float → Float
signed n x = cond n (neg x) x

-- the direction by the tables a and b of sines and cosines
unfoldable pub direction_of : List Float → List Float → ℕ → Quadrant → Direction
direction_of a b iu q =
    record { a0 = get_or a iu nan; b0 = get_or b iu nan; a1 = signed q.an (get_or a q.jv nan); b1 = signed q.bn (get_or b q.jv nan) }

-- type 1's `(90..=270).contains(&kv)`, kv being `(v % 360.0) as i32`: its screen lies in the way
unfoldable pub behind_screen : Float → Bool
behind_screen v =
    let kv = to_signed 31 (turned v) in
    le_z (pos 90) kv && le_z kv (pos 270)
