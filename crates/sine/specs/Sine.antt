-- Document 01, "Sine, cosine": from whole numbers, rounded once. One unit is 2^-30. Definitions only.
use Rattle.std.specs.Prelude.{ℕ, zero, suc, ◌+◌, ◌-◌, ◌*◌, ◌/◌, ◌%◌, ◌^◌, ◌≤◌, min, Bool, true, false, cond, T, pos, Float}
use Rattle.std.specs.Float.{nan, fin}
use Rattle.std.specs.Float.Ieee.{neg, le}
use Rattle.numeric.specs.Float.{mag, sign_bit}
use Rattle.numeric.specs.Rounding.{F, truncated}

-- ---- the angle, of n = |a| * 2^40

-- T: a whole turn
abbrev pub turn : ℕ
turn = 6908435304715

-- "r = n mod T; q = 4r / T rounded down": the quarter of the turn, 0 to 3
unfoldable pub quarter : ℕ → ℕ
quarter n = 4 * (n % turn) / turn

-- "t = (4r - qT) / 4096 rounded down": the units past the quarter's start
unfoldable pub past : ℕ → ℕ
past n = (4 * (n % turn) - quarter n * turn) / 4096

-- ---- the series, of an angle of t units

-- "each next one is floor(floor(previous × t / 2^30) × t / 2^30), divided by (2k)(2k+1) and rounded down": j is 2, 4, .. in the sine.
-- In the cosine the divisors are (2k-1)(2k), and j is 1, 3, ..
unfoldable pub next_term : ℕ → ℕ → ℕ → ℕ
next_term t j p = p * t / 2 ^ 30 * t / 2 ^ 30 / (j * (j + 1))

-- "Signs alternate": of the term p and the n terms after it, the sum of those that are added, and the sum of those that are taken away
unfoldable pub sums : ℕ → ℕ → ℕ → ℕ → ℕ × ℕ
sums t j zero p = (p, 0)
sums t j (suc n) p = let r = sums t (j + 2) n (next_term t j p) in (p + r.1, r.0)

-- "the sum is cut to 0..2^30"
unfoldable pub cut : ℕ × ℕ → ℕ
cut r = min (r.0 - r.1) (2 ^ 30)

-- S: "first term t", and seven more
unfoldable pub sine_units : ℕ → ℕ
sine_units t = cut (sums t 2 7 t)

-- C: "first term 2^30", and eight more
unfoldable pub cosine_units : ℕ → ℕ
cosine_units t = cut (sums t 1 8 (2 ^ 30))

-- ---- the functions

abbrev pub pick : {A : Type 0} → ℕ → A → A → A → A → A
pick zero a b c d = a
pick (suc zero) a b c d = b
pick (suc (suc zero)) a b c d = c
pick (suc (suc (suc q))) a b c d = d

-- "Sine by q: S, C, -S, -C; cosine: C, -S, -C, S. Signs are negations after F"
unfoldable pub sine_at : ℕ → ℕ → Float
sine_at q t = let s = F (pos (sine_units t)) in let c = F (pos (cosine_units t)) in pick q s c (neg s) (neg c)

unfoldable pub cosine_at : ℕ → ℕ → Float
cosine_at q t = let s = F (pos (sine_units t)) in let c = F (pos (cosine_units t)) in pick q c (neg s) (neg c) s

-- "For |a| ≤ 65,536", which is 2^16
abbrev pub in_domain : Float → Bool
in_domain a = le (mag a) (fin false 1 (pos 16))

-- "the sine is negated once more if a's sign bit is set"; "Outside these domains the answer is NaN"
unfoldable pub sine : Float → Float
sine a =
    let n = truncated 40 a in
    let y = sine_at (quarter n) (past n) in
    cond (in_domain a) (cond (sign_bit a) (neg y) y) nan

unfoldable pub cosine : Float → Float
cosine a = let n = truncated 40 a in cond (in_domain a) (cosine_at (quarter n) (past n)) nan

-- from -1 to 1
abbrev pub UnitBounded : Float → Type 0
UnitBounded x = T (le (fin true 1 (pos 0)) x) × T (le x (fin false 1 (pos 0)))

-- ---- "S and C lie within 8 units of the same terms summed as exact fractions"

-- the exact term after x is x * t * t / weight j
abbrev pub weight : ℕ → ℕ
weight j = 2 ^ 30 * 2 ^ 30 * (j * (j + 1))

-- the common denominator of a whole number and the n exact terms after it
unfoldable pub denominator : ℕ → ℕ → ℕ
denominator j zero = 1
denominator j (suc n) = weight j * denominator (j + 2) n

-- of a whole number p and the n exact terms after it, over that denominator: the sum of those that are added, and the sum of those that are taken away
unfoldable pub exact_sums : ℕ → ℕ → ℕ → ℕ → ℕ × ℕ
exact_sums t j zero p = (p, 0)
exact_sums t j (suc n) p = let r = exact_sums t (j + 2) n (p * t * t) in (p * denominator j (suc n) + r.1, r.0)

-- w is within k of (r.0 - r.1) / d
pub record Near (w : ℕ) (r : ℕ × ℕ) (d k : ℕ) : Type 0 where
  pub above : w * d + r.1 ≤ r.0 + k * d
  pub below : r.0 ≤ w * d + r.1 + k * d
