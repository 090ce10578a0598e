-- Document 01, "atan": two halvings of the angle, and seven terms of the series. One unit is 2^-30. Definitions only.
use Rattle.std.specs.Prelude.{ℕ, zero, suc, ◌+◌, ◌*◌, ◌/◌, ◌^◌, false, cond, ℤ, pos, ◌-ℤ◌, ◌*ℤ◌, Float}
use Rattle.std.specs.Float.{nan, fin, binary32}
use Rattle.std.specs.Float.Ieee.{neg, lt, div, is_nan}
use Rattle.numeric.specs.Float.{mag, sign_bit}
use Rattle.numeric.specs.Rounding.{F, truncated}
use Rattle.root.specs.Root.{root}

-- "t becomes floor(t × 2^30 / (2^30 + s)), s the integer square root of 2^60 + t^2"
abbrev pub halved : ℕ → ℕ
halved t = t * 2 ^ 30 / (2 ^ 30 + root (2 ^ 60 + t * t))

-- the power after p: "floor(floor(p × t / 2^30) × t / 2^30)"
abbrev pub next_power : ℕ → ℕ → ℕ
next_power t p = p * t / 2 ^ 30 * t / 2 ^ 30

-- "each divided by 1, 3 .. 13 rounded down, signs alternating": n terms from the power p and the divisor d on, p / d less the terms after it
unfoldable pub series : ℕ → ℕ → ℕ → ℕ → ℤ
series t zero d p = pos 0
series t (suc n) d p = pos (p / d) -ℤ series t n (d + 2) (next_power t p)

-- "Twice" halved, "seven of them", "times 4": the angle whose tangent is t, at most 1
unfoldable pub angle : ℕ → ℤ
angle t = let h = halved (halved t) in pos 4 *ℤ series h 7 1 h

-- ---- over the floats

abbrev pub one : Float
one = fin false 1 (pos 0)

-- a right angle
abbrev pub right : ℤ
right = pos 1686629713

-- of a = |a|: "t = |a| × 2^30 truncated, or of the float 1 / |a| where |a| > 1"; "for |a| > 1 taken from 1,686,629,713; F"
unfoldable pub atan_of_size : Float → Float
atan_of_size a = cond (lt one a) (F (right -ℤ angle (truncated 30 (div binary32 one a)))) (F (angle (truncated 30 a)))

-- "of any a but NaN"; "sign of a"
unfoldable pub atan_of : Float → Float
atan_of a = let y = atan_of_size (mag a) in cond (is_nan a) nan (cond (sign_bit a) (neg y) y)
