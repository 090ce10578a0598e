-- Document 01, "Binary logarithm L" and "log10, ln", of every positive finite number, as document 02's card 3 has them. One unit is 2^-30. Definitions only.
use Rattle.std.specs.Prelude.{ℕ, zero, suc, ◌+◌, ◌-◌, ◌*◌, ◌/◌, ◌^◌, ◌≤◌, ◌<◌, cond, ℤ, pos, ◌+ℤ◌, ◌*ℤ◌, leb, Float}
use Rattle.std.proofs.Math.IntN.{sub_ℕ}
use Rattle.std.specs.Int.Signed.{shr_z}
use Rattle.std.specs.Float.{nan}
use Rattle.std.specs.Float.Ieee.{up, down, size}
use Rattle.std.specs.Float.Ieee.Positive.{num, den, positive}
use Rattle.numeric.specs.Rounding.{F, steps}

-- ---- the digits

-- "Square, divide by 2^30, round down"
abbrev pub square : ℕ → ℕ
square x = x * x / 2 ^ 30

-- "if that is 2^31 or more the digit is 1 and it is halved, rounded down, else 0"
abbrev pub digit : ℕ → ℕ
digit q = cond (leb (2 ^ 31) q) 1 0

abbrev pub rest : ℕ → ℕ
rest q = cond (leb (2 ^ 31) q) (q / 2) q

-- "Each further digit is the same rule with one digit fewer left": with n of them left they are a whole number below 2 ^ n
unfoldable pub digits : ℕ → ℕ → ℕ
digits zero x = 0
digits (suc n) x = digit (square x) * 2 ^ n + digits n (rest (square x))

-- ---- "m × 2^e, 1 ≤ m < 2", of a positive finite number; card 3: "e goes down to -149"

-- e: an x whose steps have z binary digits is 2 ^ (z - 1) steps or more and below 2 ^ z, and a step is 2 ^ -149
abbrev pub exponent : Float → ℤ
exponent x = sub_ℕ (size (steps x)) 150

-- m in units
abbrev pub significand : Float → ℕ
significand x = steps x * 2 ^ 30 / 2 ^ (size (steps x) - 1)

-- ---- L, log10, ln

-- "L = e × 2^30 + the digits", of which there are thirty
unfoldable pub binary_logarithm : Float → ℤ
binary_logarithm x = exponent x *ℤ pos (2 ^ 30) +ℤ pos (digits 30 (significand x))

-- "L × 5,050,445 / 2^24, rounded down also below zero", with k for the factor
abbrev pub scaled : ℕ → ℤ → ℤ
scaled k l = shr_z (l *ℤ pos k) (2 ^ 24)

-- "F of" that, and "Outside these domains the answer is NaN"; card 3: "The logarithm shall take positive subnormal numbers too"
unfoldable pub logarithm_times : ℕ → Float → Float
logarithm_times k x = cond (positive x) (F (scaled k (binary_logarithm x))) nan

abbrev pub log10_of : Float → Float
log10_of = logarithm_times 5050445

abbrev pub ln_of : Float → Float
ln_of = logarithm_times 11629080

-- ---- "L / 2^30 ≤ log2 < (L + 4) / 2^30, as whole powers": 2 ^ L ≤ x ^ u < 2 ^ (L + 4), with u for 2 ^ 30.
-- A power 2 ^ v of an integer v is the fraction up v / down v, and x is num x / den x. u is a variable, so that no u th power is ever computed.

-- 2 ^ v ≤ x ^ u, and x ^ u < 2 ^ v
abbrev pub PowerAtMost : ℤ → Float → ℕ → Type 0
PowerAtMost v x u = up v * den x ^ u ≤ num x ^ u * down v

abbrev pub PowerAbove : ℤ → Float → ℕ → Type 0
PowerAbove v x u = num x ^ u * down v < up v * den x ^ u
