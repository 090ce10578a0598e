-- The floored terms of a series against the exact ones, once for every start j of the divisors and every number n of terms: each floored term is at most the
-- exact one, and less than 2 below it.
use Prim.Native.Nat.{ℕ, zero, suc, ◌+◌, ◌*◌, ◌/◌, ◌^◌, ◌≤◌, ◌<◌}
use native.Mathlib.Nat.{mul-le-mul, mul-le-mul_right, mul-le-mul_left, div-mul-le_self, lt-div-mul-add, mul-pos}
use native.Mathlib.Omega.{arith}
use lib.Dec.{lit<}
use Rattle.sine.specs.Sine.{next_term, sums, weight, denominator, exact_sums}
use Rattle.sine.specs.Inner.{quarter_turn}

-- ---- one term: y = floor(floor(floor(x t / U) t / U) / d), against x t t / (U U d)
module _ (x t U d u v y : ℕ) where
  lower : u * U ≤ x * t → v * U ≤ u * t → y * d ≤ v → y * (U * U * d) ≤ x * t * t
  lower h k l = omega (arith, mul-le-mul_right t h, mul-le-mul_right U k, mul-le-mul_right (U * U) l)

  upper : x * t ≤ u * U + U → u * t < v * U + U → v < y * d + d → x * t * t ≤ (y + 1) * (U * U * d) + U * t
  upper h k l =
      let m : v + 1 ≤ y * d + d = omega arith in
      omega (arith, mul-le-mul_right t h, mul-le-mul_right U k, mul-le-mul_right (U * U) m)

-- ---- the exact term a / b is at most E above x; then the next is at most 2 above y, where t is small enough for the divisor
module _ (x t y a b E W G : ℕ) where
  step_lower : y * W ≤ x * t * t → x * b ≤ a → y * (b * W) ≤ a * t * t
  step_lower h k = omega (arith, mul-le-mul_left b h, mul-le-mul_right (t * t) k)

  step_upper : x * t * t ≤ (y + 1) * W + G → E * (t * t) + G ≤ W → a ≤ (x + E) * b → a * t * t ≤ (y + 2) * (b * W)
  step_upper h r k = omega (arith, mul-le-mul_left b h, mul-le-mul_left b r, mul-le-mul_right (t * t) k)

next_bounds : (t j x a b E : ℕ) → 1 ≤ j → E * (t * t) + 2 ^ 30 * t ≤ weight j → x * b ≤ a → a ≤ (x + E) * b
    → (next_term t j x * (b * weight j) ≤ a * t * t) × (a * t * t ≤ (next_term t j x + 2) * (b * weight j))
unfolding next_term
next_bounds t j x a b E J r h k =
    let U = 2 ^ 30 in
    let d = j * (j + 1) in
    let u = x * t / U in
    let v = u * t / U in
    let y = v / d in
    let P : 0 < U = lit< tt in
    let D : 0 < d = mul-pos J (omega arith) in (
      step_lower x t y a b E (weight j) (U * t) (lower x t U d u v y (div-mul-le_self (x * t) U) (div-mul-le_self (u * t) U) (div-mul-le_self v d)) h,
      step_upper x t y a b E (weight j) (U * t) (upper x t U d u v y (omega (arith, lt-div-mul-add {a = x * t} P)) (lt-div-mul-add {a = u * t} P) (lt-div-mul-add {a = v} D)) r k,
    )

-- ---- all terms
-- r, in units, against x over D: at most it, and less than e below it
pub record Floored (r x e : ℕ × ℕ) (D : ℕ) : Type 0 where
  pub added-le : r.0 * D ≤ x.0
  pub added_ge : x.0 ≤ (r.0 + e.0) * D
  pub taken-le : r.1 * D ≤ x.1
  pub taken_ge : x.1 ≤ (r.1 + e.1) * D

-- 2 for each term
abbrev pub slack : ℕ → ℕ × ℕ
slack zero = (2, 0)
slack (suc n) = (2 + (slack n).1, (slack n).0)

joined : (x a b E W M : ℕ) (r z e : ℕ × ℕ) → x * b ≤ a → a ≤ (x + E) * b → Floored r z e (b * W * M)
    → Floored (x + r.1, r.0) (a * (W * M) + z.1, z.0) (E + e.1, e.0) (b * (W * M))
joined x a b E W M r z e h k f = record {
  added-le = omega (arith, mul-le-mul_right (W * M) h, f.taken-le);
  added_ge = omega (arith, mul-le-mul_right (W * M) k, f.taken_ge);
  taken-le = omega (arith, f.added-le);
  taken_ge = omega (arith, f.added_ge);
}

room : (t j : ℕ) → t ≤ quarter_turn → 3 ≤ j → 2 * (t * t) + 2 ^ 30 * t ≤ weight j
room t j T J =
    let d : 3 * 4 ≤ j * (j + 1) = mul-le-mul {n₁ = 3} {m₁ = 4} J (omega arith) in
    omega (arith, mul-le-mul T T, d)

floored : (t j n x a b : ℕ) → t ≤ quarter_turn → 3 ≤ j → x * b ≤ a → a ≤ (x + 2) * b → Floored (sums t j n x) (exact_sums t j n a) (slack n) (b * denominator j n)
unfolding sums exact_sums denominator
floored t j zero x a b T J h k = record { added-le = omega arith; added_ge = omega arith; taken-le = omega arith; taken_ge = omega arith }
floored t j (suc n) x a b T J h k =
    let y = next_bounds t j x a b 2 (omega arith) (room t j T J) h k in
    joined x a b 2 (weight j) (denominator (j + 2) n) (sums t (j + 2) n (next_term t j x)) (exact_sums t (j + 2) n (a * t * t)) (slack n) h k
    (floored t (j + 2) n (next_term t j x) (a * t * t) (b * weight j) T (omega arith) y.0 y.1)

-- the first term is exact
pub first : (t j n p : ℕ) → t ≤ quarter_turn → 1 ≤ j
    → Floored (sums t j (suc n) p) (exact_sums t j (suc n) p) (0 + (slack n).1, (slack n).0) (1 * denominator j (suc n))
unfolding sums exact_sums denominator
first t j n p T J =
    let w : 2 ≤ j * (j + 1) = mul-le-mul {n₁ = 1} {m₁ = 2} J (omega arith) in
    let y = next_bounds t j p p 1 0 J (omega (arith, w)) (omega arith) (omega arith) in
    joined p p 1 0 (weight j) (denominator (j + 2) n) (sums t (j + 2) n (next_term t j p)) (exact_sums t (j + 2) n (p * t * t)) (slack n) (omega arith) (omega arith)
    (floored t (j + 2) n (next_term t j p) (p * t * t) (1 * weight j) T (omega arith) y.0 y.1)

-- ---- the sum, before the cut
pub balance : (r x e : ℕ × ℕ) (D k : ℕ) → e.0 ≤ k → e.1 ≤ k → Floored r x e D → (r.0 * D + x.1 ≤ x.0 + r.1 * D + k * D) × (x.0 + r.1 * D ≤ r.0 * D + x.1 + k * D)
balance r x e D k h l f =
    (omega (arith, f.added-le, f.taken_ge, mul-le-mul_right D l), omega (arith, f.added_ge, f.taken-le, mul-le-mul_right D h))
