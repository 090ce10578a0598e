-- Bounds that operations keep, the rounding and a result that isn't finite included. A NaN is at most nothing, so where an operand is
-- bounded it is none; which infinities may stand there is said at each law.
use mathlib.Core.Path.{◌≡◌, refl, sym, ap, ◌∙◌}
use mathlib.Core.Logic.{inl, inr}
use mathlib.Core.Bool.{true, false}
use Prim.Native.Nat.{ℕ, ◌*◌, ◌≤◌, ◌<◌}
use native.Mathlib.Nat.{mul-pos, mul-le-mul_right}
use native.Mathlib.Omega.{arith}
use borrow.Author.Tests.{ne_eqb}
use lib.Dec.{T, ltb→lt}
use lib.Ieee.{Float, nan, inf, fin, binary32, round, mul, le, fits, of_bits}
use lib.Ieee.Fits.{up_pos}
use lib.Ieee.Positive.{positive, den, den_pos, positive-finite}
use lib.Ieee.Scale.{finite}
use Rattle.floats.specs.Ops.{◌⊕◌, ◌⊗◌, ◌⊘◌, +0, +0_is, zero±}
use Rattle.floats.specs.Literals.{one}
use Rattle.floats.proofs.TimesOne.{rounded}
use Rattle.floats.proofs.Order.{credit, debit, le-said, Rounds, rounds_order, add_rounds, mul_rounds, div_rounds}

-- ---- 0, 1 and every f32 are their own roundings
zero_rounds : Rounds binary32 +0 0 0 1
unfolding round of_bits
zero_rounds = inl (omega arith, refl)

one_rounds : Rounds binary32 one 1 0 1
unfolding round of_bits
one_rounds = inl (omega arith, refl)

held_rounds : (x : Float) → T (finite x) → T (fits binary32 x) → Rounds binary32 x (credit x) (debit x) (den x)
held_rounds nan p h = absurd p
held_rounds (inf s) p h = absurd p
held_rounds (fin true m e) p h = inr (omega arith, sym (rounded true m e h) ∙ ap (λ (k : ℕ). round binary32 true k (den (fin true m e))) (omega arith))
held_rounds (fin false m e) p h = inl (omega arith, sym (rounded false m e h) ∙ ap (λ (k : ℕ). round binary32 false k (den (fin false m e))) (omega arith))

-- a finite x of at most 0
not-above : (x : Float) → T (finite x) → T (le x +0) → credit x ≤ debit x
not-above x p h = omega (arith, le-said x (zero± false) p tt (rw +0_is at h))

-- ---- x ≤ y, x finite, y finite and above 0: the quotient, which may be -∞, is at most 1
pub quotient_at_most_one : (x y : Float) → T (finite x) → T (positive y) → T (le x y) → T (le (x ⊘ y) one)
quotient_at_most_one x y p q h =
    rounds_order binary32 (x ⊘ y) one _ _ (credit y * den x) 1 0 1 (mul-pos (above y q) (den_pos x)) (omega arith) (div_rounds binary32 x y p q) one_rounds
    (omega (arith, le-said x y p (positive-finite y q) h))
  where
    above : (z : Float) → T (positive z) → 0 < credit z
    above nan t = absurd t
    above (inf s) t = absurd t
    above (fin true m e) t = absurd t
    above (fin false m e) t = mul-pos (ltb→lt 0 m t) (up_pos e)

-- ---- x ≤ 0, x finite, z a finite f32: the sum, which may be -∞, is at most z
pub sum-at-most : (x z : Float) → T (finite x) → T (finite z) → T (fits binary32 z) → T (le x +0) → T (le (x ⊕ z) z)
sum-at-most x z p q f h =
    rounds_order binary32 (x ⊕ z) z _ _ (den x * den z) _ _ (den z) (mul-pos (den_pos x) (den_pos z)) (den_pos z) (add_rounds binary32 x z p q) (held_rounds z q f)
    (omega (arith, mul-le-mul_right (den z * den z) (not-above x p h)))

-- ---- x ≤ 0, which may be -∞, k finite and above 0: the product is at most 0
times_infinity : (k : Float) → T (positive k) → k ⊗ inf true ≡ inf true
unfolding mul
times_infinity nan q = absurd q
times_infinity (inf s) q = absurd q
times_infinity (fin true m e) q = absurd q
times_infinity (fin false m e) q = let l = ltb→lt 0 m q in rw (ne_eqb m 0 (λ z. omega arith))

pub product_at_most_zero : (k x : Float) → T (positive k) → T (le x +0) → T (le (k ⊗ x) +0)
unfolding le of_bits
product_at_most_zero k nan q h = absurd h
product_at_most_zero k (inf false) q h = absurd h
product_at_most_zero k (inf true) q h = rw (times_infinity k q) tt
product_at_most_zero k (fin t n d) q h =
    let x = fin t n d in
    rounds_order binary32 (k ⊗ x) +0 _ _ (den k * den x) 0 0 1 (mul-pos (den_pos k) (den_pos x)) (omega arith) (mul_rounds binary32 k x q tt) zero_rounds
    (omega (arith, mul-le-mul_right (credit k) (not-above x tt h)))
