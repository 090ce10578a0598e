-- The terms of a series, and their sums, stay far below 2 ^ 64.
use mathlib.Core.Path.{◌≡◌, refl, ap}
use Prim.Native.Nat.{ℕ, zero, suc, ◌+◌, ◌-◌, ◌*◌, ◌/◌, ◌^◌, ◌≤◌, ◌<◌, min}
use native.Mathlib.Nat.{le_refl, le-add_right, add-zero, mul-le-mul, div-le_of_le-mul}
use native.Mathlib.Omega.{arith}
use Rattle.sine.specs.Sine.{next_term, sums, cut, quarter, past}
use Rattle.sine.specs.Inner.{Summable, quarter_turn}

-- ---- the products of a term
pub first_product : {t p : ℕ} → t ≤ quarter_turn → p ≤ 2 ^ 31 → p * t < 2 ^ 64
first_product T P = omega (arith, mul-le-mul P T)

second-le : (t p b : ℕ) → t ≤ quarter_turn → p ≤ b * 2 ^ 30 → p * t / 2 ^ 30 * t ≤ b * quarter_turn * quarter_turn
second-le t p b T P =
    let h : p * t ≤ b * quarter_turn * 2 ^ 30 = omega (arith, mul-le-mul P T) in
    mul-le-mul {n₁ = p * t / 2 ^ 30} {n₂ = b * quarter_turn} (omega arith) T

pub second_product : {t p : ℕ} → t ≤ quarter_turn → p ≤ 2 ^ 31 → p * t / 2 ^ 30 * t < 2 ^ 64
second_product {t} {p} T P = omega (arith, second-le t p 2 T (omega arith))

-- ---- the next term
divided : (v d b : ℕ) → v ≤ b * quarter_turn * quarter_turn → b * 5 ≤ d * 4 → v / 2 ^ 30 / d ≤ 2 ^ 31
divided v d b h k = div-le_of_le-mul d (omega arith)

pub next_le : (t j p : ℕ) → t ≤ quarter_turn → 1 ≤ j → p ≤ 2 ^ 30 * min j 2 → next_term t j p ≤ 2 ^ 31
unfolding next_term
next_le t zero p T J P = absurd (not-below J)
  where
    not-below : 1 ≤ 0 → ⊥
    not-below h = omega arith
next_le t (suc zero) p T J P = divided (p * t / 2 ^ 30 * t) 2 1 (second-le t p 1 T (omega arith)) (omega arith)
next_le t (suc (suc i)) p T J P = divided (p * t / 2 ^ 30 * t) (suc (suc i) * (suc (suc i) + 1)) 2 (second-le t p 2 T (omega arith)) (omega arith)

next-first : (t j p : ℕ) → t ≤ quarter_turn → 1 ≤ j → p ≤ 2 ^ 30 * min j 2 → next_term t j p ≤ 2 ^ 30 * min (j + 2) 2
next-first t j p T J P = omega (arith, next_le t j p T J P)

-- ---- the sums: n + 1 terms of at most 2 each
sums-le : (t j n p : ℕ) → t ≤ quarter_turn → 1 ≤ j → p ≤ 2 ^ 30 * min j 2 → (sums t j n p).0 + (sums t j n p).1 ≤ (n + 1) * 2 ^ 31
unfolding sums
sums-le t j zero p T J P = omega arith
sums-le t j (suc n) p T J P = add-first p _ _ n (omega arith) (sums-le t (j + 2) n (next_term t j p) T (omega arith) (next-first t j p T J P))
  where
    add-first : (p a b n : ℕ) → p ≤ 2 ^ 31 → a + b ≤ (n + 1) * 2 ^ 31 → p + b + a ≤ (suc n + 1) * 2 ^ 31
    add-first p a b n h k = omega arith

pub cut-le : (r : ℕ × ℕ) → cut r ≤ 2 ^ 30
unfolding cut
cut-le r = omega arith

-- ---- the angle past a quarter's start
pub quarter-le : (n : ℕ) → quarter n ≤ 3
unfolding quarter
quarter-le n = omega arith

pub past-le : (n : ℕ) → past n ≤ quarter_turn
unfolding past quarter
past-le n = omega arith

-- so they are in all, with at most 9 terms
pub sums-small : (t j n p : ℕ) → Summable t j n p → (sums t j n p).0 + (sums t j n p).1 ≤ 9 * 2 ^ 31
sums-small t j n p s = let few : n ≤ 8 = omega (arith, s.terms, s.divisor) in omega (arith, sums-le t j n p s.angle s.divisor s.first)

-- ---- the sums as the code has them: two terms at a time, and one or none at the end
pub sums-two : (t j n p : ℕ) → 1 < n
    → ((sums t j n p).0 ≡ p + (sums t (j + 4) (n - 2) (next_term t (j + 2) (next_term t j p))).0)
    × ((sums t j n p).1 ≡ next_term t j p + (sums t (j + 4) (n - 2) (next_term t (j + 2) (next_term t j p))).1)
unfolding sums
sums-two t j zero p h = absurd (none h)
  where
    none : 1 < 0 → ⊥
    none h = omega arith
sums-two t j (suc zero) p h = absurd (none h)
  where
    none : 1 < 1 → ⊥
    none h = omega arith
sums-two t j (suc (suc n)) p h =
    let q = next_term t j p in
    let d : j + 2 + 2 ≡ j + 4 = omega arith in
    let m : n ≡ suc (suc n) - 2 = omega arith in
    let e : sums t (j + 2 + 2) n (next_term t (j + 2) q) ≡ sums t (j + 4) (suc (suc n) - 2) (next_term t (j + 2) q) = λ i. sums t (d i) (m i) (next_term t (j + 2) q) in
    (ap (λ (r : ℕ × ℕ). p + r.0) e, ap (λ (r : ℕ × ℕ). q + r.1) e)

pub sums-one : (t j n p : ℕ) → n ≡ 1 → ((sums t j n p).0 ≡ p) × ((sums t j n p).1 ≡ next_term t j p)
unfolding sums
sums-one t j n p e = rw e (add-zero p, refl)

pub sums_none : (t j n p : ℕ) → n ≡ 0 → ((sums t j n p).0 ≡ p) × ((sums t j n p).1 ≡ 0)
unfolding sums
sums_none t j n p e = rw e (refl, refl)

pub sums-from : (t j n p : ℕ) → p ≤ (sums t j n p).0
unfolding sums
sums-from t j zero p = le_refl p
sums-from t j (suc n) p = le-add_right p _

pub summable_two : (t j n p : ℕ) → 1 < n → Summable t j n p → Summable t (j + 4) (n - 2) (next_term t (j + 2) (next_term t j p))
summable_two t j n p h s =
    let q = next-first t j p s.angle s.divisor s.first in
    let r = next_le t (j + 2) (next_term t j p) s.angle (omega arith) q in
    record { angle = s.angle; divisor = omega arith; terms = omega (arith, s.terms); first = omega arith }
