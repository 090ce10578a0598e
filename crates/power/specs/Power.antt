-- Document 01, "powf": by the binary logarithm and the exponential series; its base is normal, also after document 02's card 3. One unit is 2^-30. Definitions only.
use Rattle.std.specs.Prelude.{ℕ, zero, suc, ◌+◌, ◌-◌, ◌*◌, ◌/◌, ◌%◌, ◌^◌, Bool, false, ◌&&◌, cond, ℤ, pos, negsuc, Float}
use Rattle.std.specs.Int.Signed.{shr_z}
use Rattle.std.specs.Float.{nan, inf, fin, binary32}
use Rattle.std.specs.Float.Ieee.{up, down, round, lt, le}
use Rattle.numeric.specs.Rounding.{truncated}
use Rattle.logarithm.specs.Logarithm.{binary_logarithm, scaled}

-- ---- the exponential series at w

-- "terms from 2^30, each next floor(floor(previous × w / 2^30) / k)"
unfoldable pub term : ℕ → ℕ → ℕ
term w zero = 2 ^ 30
term w (suc k) = term w k * w / 2 ^ 30 / suc k

-- "summed", from term 0 to term k
unfoldable pub sum_to : ℕ → ℕ → ℕ
sum_to w zero = term w zero
sum_to w (suc k) = sum_to w k + term w (suc k)

-- ---- 2 ^ E for an E in units

-- "g = E mod 2^30", which is not negative
abbrev pub remainder : ℤ → ℕ
remainder (pos a) = a % 2 ^ 30
remainder (negsuc a) = 2 ^ 30 - suc (a % 2 ^ 30)

-- "w = floor(g × 744,261,118 / 2^30)", and the sum to "k = 1 to 12"
abbrev pub exponential : ℕ → ℕ
exponential g = sum_to (g * 744261118 / 2 ^ 30) 12

-- "F of the sum times 2^floor(E / 2^30)": one rounding of the sum / 2^30 times that power, which is the fraction up w / down w
unfoldable pub antilogarithm : ℤ → Float
antilogarithm E = let w = shr_z E (2 ^ 30) in round binary32 false (exponential (remainder E) * up w) (2 ^ 30 * down w)

-- ---- powf

-- 2 ^ -126, the least positive normal number
abbrev pub least : Float
least = fin false 1 (negsuc 125)

-- "base positive normal"
abbrev pub normal : Float → Bool
normal x = le least x && lt x (inf false)

-- "exponent y with 0 < y ≤ 1"
abbrev pub is_exponent : Float → Bool
is_exponent y = lt (fin false 0 (pos 0)) y && le y (fin false 1 (pos 0))

-- "E = floor(L × floor(y × 2^24) / 2^24)"; "Outside these domains the answer is NaN"
unfoldable pub powf_of : Float → Float → Float
powf_of x y = cond (normal x && is_exponent y) (antilogarithm (scaled (truncated 24 y) (binary_logarithm x))) nan
