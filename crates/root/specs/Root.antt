-- Document 01, "the integer square root" and "sqrt": for each the rule (`IsRoot`, `IsSqrt`) and a number computed, proved to be the one that obeys it. Definitions only.
use Rattle.std.specs.Prelude.{◌≡◌, ℕ, zero, suc, ◌+◌, ◌*◌, ◌/◌, ◌^◌, ◌≤◌, ◌<◌, true, false, cond, T, leb, ℤ, Float}
use Rattle.std.specs.Float.{nan, inf, fin, binary32}
use Rattle.std.specs.Float.Ieee.{round, fits}
use Rattle.std.specs.Float.Ieee.Positive.{positive}
use Rattle.numeric.specs.Rounding.{steps}

-- ---- document 01, atan: "the integer square root". `root n` computes it; it is the one number that is a root of n by `IsRoot` (`root_is`, `root-only`)

-- r is the square root of n, rounded down
abbrev pub IsRoot : ℕ → ℕ → Type 0
IsRoot n r = (r * r ≤ n) × (n < suc r * suc r)

-- d, or one more where the square of that is at most n
abbrev pub grown : ℕ → ℕ → ℕ
grown n d = cond (leb (suc d * suc d) n) (suc d) d

-- the root of an n of at most k digits in base 4: twice the root of what stands before the last digit, or one more
unfoldable pub root_of : ℕ → ℕ → ℕ
root_of zero n = 0
root_of (suc k) zero = 0
root_of (suc k) (suc n) = grown (suc n) (2 * root_of k (suc n / 4))

-- n has at most n digits
unfoldable pub root : ℕ → ℕ
root n = root_of n n

-- ---- document 01: "sqrt: IEEE 754 squareRoot, nearest, by squares of whole numbers". `sqrt_of` computes it, `IsSqrt` is the rule with no algorithm in it.
-- The first obeys the second, and nothing else does (`sqrt_is`, `sqrt_only`)

-- the square of the root of x, the root counted in half steps, of 2 ^ -150: so it is x counted in 2 ^ -300
abbrev pub square : Float → ℕ
square x = steps x * 2 ^ 151

-- y is the root of a number x above 0, rounded to nearest: binary32 holds y, and y is nearer to the root than every other number z ≥ 0 that binary32 holds.
-- In half steps the middle of y and z is steps y + steps z. Where z is below y, the middle is below the root, and where z is above y, it is above the root.
-- It is never the root itself, so no z is as near as y, and no tie is to be broken. (A z below 0 is farther from the root than 0 is.)
pub record SquareRoot (x y : Float) : Type 0 where
  pub held : T (fits binary32 y)
  pub above_zero : T (positive y)
  pub nearer_than_below : (m : ℕ) (e : ℤ) → let z = fin false m e in T (fits binary32 z) → steps z < steps y → (steps y + steps z) * (steps y + steps z) < square x
  pub nearer_than_above : (m : ℕ) (e : ℤ) → let z = fin false m e in T (fits binary32 z) → steps y < steps z → square x < (steps y + steps z) * (steps y + steps z)

-- y is IEEE 754's squareRoot of x: that of a zero is the zero with its sign, and below 0 there is none
abbrev pub IsSqrt : Float → Float → Type 0
IsSqrt nan y = y ≡ nan
IsSqrt (inf true) y = y ≡ nan
IsSqrt (inf false) y = y ≡ inf false
IsSqrt (fin s zero e) y = y ≡ fin s zero e
IsSqrt (fin true (suc m) e) y = y ≡ nan
IsSqrt (fin false (suc m) e) y = SquareRoot (fin false (suc m) e) y

-- With s the root in half steps, cut, the root lies between s and s + 1. No middle of two neighbours lies inside, so s and a half rounds as the root does.
unfoldable pub sqrt_of : Float → Float
sqrt_of nan = nan
sqrt_of (inf true) = nan
sqrt_of (inf false) = inf false
sqrt_of (fin s zero e) = fin s zero e
sqrt_of (fin true (suc m) e) = nan
sqrt_of (fin false (suc m) e) = let s = root (square (fin false (suc m) e)) in round binary32 false (2 * s + 1) (2 ^ 151)
