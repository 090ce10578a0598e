-- The laws of powf: the sum of the series is from 2 ^ 30 to 13 * 2 ^ 30, an integer E is its whole part and its remainder, a normal number is 2 ^ 23 steps or more, and E stays in the range of the exponents.
use mathlib.Core.Path.{◌≡◌, refl, sym, ap, ◌∙◌, subst}
use mathlib.Core.Bool.{Bool, true, false}
use Prim.Native.Nat.{ℕ, zero, suc, ◌+◌, ◌-◌, ◌*◌, ◌/◌, ◌%◌, ◌^◌, ◌≤◌, ◌<◌}
use native.Mathlib.Nat.{le_refl, le_trans, le_of_eq, lt_of_lt_of_le, lt_of_not-le, not-le_of_lt, mul-one, one-mul, mul_assoc, mul_comm, mul-le-mul, mul-le-mul_left, mul-le-mul_right, le-div_iff_mul-le, le_of_suc-le-suc, div-le_self}
use native.Mathlib.Omega.{arith}
use lib.IntN.{ℤ, pos, negsuc, neg_ℤ, sub_ℕ, ◌+ℤ◌, ◌-ℤ◌, ◌*ℤ◌, neg_ℤ-neg_ℤ}
use lib.Signed.{shr_z}
use lib.Dec.{T}
use lib.Pow.{pow-add, pow_pos, pow_mono}
use lib.Ieee.{Float, nan, inf, fin, binary32, up, down, lt, le, fits, of_bits}
use lib.Ieee.Digits.{size-le}
use lib.Ieee.Fits.{and_l, and_r, down_pos}
use lib.Ieee.Exact.{HasValue}
use lib.Ieee.Positive.{positive, above_of_le, le→cross}
use Rattle.numeric.specs.Rounding.{steps}
use Rattle.logarithm.specs.Logarithm.{scaled, exponent, significand, digits, binary_logarithm}
use Rattle.power.specs.Power.{term, sum_to, remainder, least, normal, is_exponent}
use Rattle.numeric.specs.Inner.{Normalised}
use Rattle.power.specs.Inner.{InRange}
use Rattle.numeric.proofs.Comparisons.{at_most_of_le, AtMost}
use Rattle.logarithm.proofs.Digits.{digits_lt}
use Rattle.numeric.proofs.Integers.{by_order, sub-pos, sub-add, sub-mul, minus}
use Rattle.logarithm.proofs.Parts.{below, count, exponent-is}
use Rattle.numeric.proofs.rounding.Normalised.{normalised}
use Rattle.numeric.proofs.rounding.PowersOfTwo.{power_value}
use Rattle.numeric.proofs.Steps.{steps-lt}
use Rattle.power.proofs.Scaling.{Deep}
use Rattle.numeric.proofs.Values.{rescale}

-- ---- the series

pub term-le : (w k : ℕ) → w ≤ 2 ^ 30 → term w k ≤ 2 ^ 30
unfolding term
term-le w zero h = le_refl (2 ^ 30)
term-le w (suc k) h =
    let t = term w k in
    let p : t * w ≤ 2 ^ 30 * 2 ^ 30 = mul-le-mul (term-le w k h) h in
    let q : t * w / 2 ^ 30 ≤ 2 ^ 30 = omega arith in
    le_trans (div-le_self (t * w / 2 ^ 30) (suc k)) q

pub sum-le : (w k : ℕ) → w ≤ 2 ^ 30 → sum_to w k ≤ (k + 1) * 2 ^ 30
unfolding sum_to term
sum-le w zero h = omega arith
sum-le w (suc k) h = let t : term w k * w / 2 ^ 30 / suc k ≤ 2 ^ 30 = term-le w (suc k) h in omega (arith, sum-le w k h)

pub sum-from : (w k : ℕ) → 2 ^ 30 ≤ sum_to w k
unfolding sum_to term
sum-from w zero = le_refl (2 ^ 30)
sum-from w (suc k) = omega (arith, sum-from w k)

-- ---- the whole part and the remainder

pub remainder-lt : (E : ℤ) → remainder E < 2 ^ 30
remainder-lt (pos a) = omega arith
remainder-lt (negsuc a) = omega arith

pub remainder_is : (E : ℤ) → E -ℤ shr_z E (2 ^ 30) *ℤ pos (2 ^ 30) ≡ pos (remainder E)
remainder_is (pos a) = let p : a - a / 2 ^ 30 * 2 ^ 30 ≡ a % 2 ^ 30 = omega arith in minus a (a / 2 ^ 30 * 2 ^ 30) (omega arith) ∙ ap pos p
remainder_is (negsuc a) =
    let n = suc (a / 2 ^ 30) * 2 ^ 30 in
    let p : n - suc a ≡ 2 ^ 30 - suc (a % 2 ^ 30) = omega arith in
    ap (λ (z : ℤ). negsuc a +ℤ z) (neg_ℤ-neg_ℤ (pos n)) ∙ sub-pos n (suc a) (omega arith) ∙ ap pos p

-- ---- a normal number is positive, and 2 ^ 23 steps or more

no_nan : T (normal nan) → ⊥
unfolding le
no_nan t = t

no_infinity : (s : Bool) → T (normal (inf s)) → ⊥
unfolding le lt
no_infinity true t = t
no_infinity false t = t

at_least : (x : Float) → T (normal x) → T (le least x)
at_least x t = and_l (le least x) (lt x (inf false)) t

pub normal-positive : (x : Float) → T (normal x) → T (positive x)
normal-positive nan t = absurd (no_nan t)
normal-positive (inf s) t = absurd (no_infinity s t)
normal-positive (fin true m e) t = above_of_le least (fin true m e) tt (at_least (fin true m e) t)
normal-positive (fin false m e) t = above_of_le least (fin false m e) tt (at_least (fin false m e) t)

-- both sides times a number. The powers of two come in as variables, since their numerals are too long for `omega`
scale-le : (c t A B : ℕ) → c ≤ t * A → B * c ≤ t * (A * B)
scale-le c t A B h = le_trans (le_of_eq (mul_comm B c)) (le_trans (mul-le-mul_right B h) (le_of_eq (mul_assoc t A B)))

steps-from : (m : ℕ) (e : ℤ) → T (normal (fin false m e)) → 2 ^ 23 ≤ steps (fin false m e)
steps-from m e t =
    let x = fin false m e in
    let c : down e ≤ m * up e * 2 ^ 126 = le_trans (le_of_eq (sym (one-mul (down e)))) (le→cross least x tt (normal-positive x t) (at_least x t)) in
    (le-div_iff_mul-le (down_pos e)).1 (scale-le (down e) (m * up e) (2 ^ 126) (2 ^ 23) c)

-- so its exponent, from -149 on, is 23 to 276
normal-exponent : (x : Float) (M k : ℕ) → T (fits binary32 x) → T (normal x) → Normalised x M k → (23 ≤ k) × (k ≤ 276)
normal-exponent nan M k f t p = absurd (no_nan t)
normal-exponent (inf s) M k f t p = absurd (no_infinity s t)
normal-exponent (fin true m e) M k f t p = absurd (normal-positive (fin true m e) t)
normal-exponent (fin false m e) M k f t p =
    let x = fin false m e in (
      le_of_suc-le-suc (lt_of_not-le (λ (h : suc k ≤ 23). not-le_of_lt (lt_of_lt_of_le (below x M k p) (pow_mono h)) (steps-from m e t))),
      omega (arith, count x M k p, size-le (steps x) 277 (steps-lt false m e f)),
    )

-- ---- E lies from -126 * 2 ^ 30 to below 128 * 2 ^ 30

-- the field of an exponent: w + 127 as a number from 1 to 254
pub record Field (w : ℤ) (f : ℕ) : Type 0 where
  pub is : w +ℤ pos 127 ≡ pos f
  pub from : 1 ≤ f
  pub to : f ≤ 254
  pub power : up w * 2 ^ 127 ≡ 2 ^ f * down w
  pub deep : Deep w

pub field : (E : ℤ) → InRange E → (f : ℕ) × Field (shr_z E (2 ^ 30)) f
field (pos a) h =
    let q = a / 2 ^ 30 in
    (q + 127, record { is = refl; from = omega arith; to = omega arith; power = sym (pow-add 2 q 127) ∙ sym (mul-one (2 ^ (q + 127))); deep = tt })
field (negsuc a) h =
    let q = a / 2 ^ 30 in
    let b : q < 126 = omega arith in
    let p : 127 - suc q + suc q ≡ 127 = omega arith in (
      127 - suc q,
      record {
        is = sub-pos 127 (suc q) (omega arith);
        from = omega arith;
        to = omega arith;
        power = one-mul (2 ^ 127) ∙ ap (λ (i : ℕ). 2 ^ i) (sym p) ∙ pow-add 2 (127 - suc q) (suc q);
        deep = b;
      },
    )

sub_range : (A : ℕ) → 23 * 2 ^ 30 ≤ A → A < 277 * 2 ^ 30 → InRange (sub_ℕ A (149 * 2 ^ 30))
sub_range A h k = by_order InRange A (149 * 2 ^ 30) (λ l. omega arith) (λ l. omega arith)

pub logarithm_range : (x : Float) → T (fits binary32 x) → T (normal x) → InRange (binary_logarithm x)
unfolding binary_logarithm
logarithm_range x f t =
    let parts = normalised x f (normal-positive x t) in
    let k = parts.1 in
    let d = digits 30 (significand x) in
    let bounds = normal-exponent x parts.0 k f t parts.2 in
    let e : exponent x *ℤ pos (2 ^ 30) +ℤ pos d ≡ sub_ℕ (k * 2 ^ 30 + d) (149 * 2 ^ 30) = ap (λ (z : ℤ). z *ℤ pos (2 ^ 30) +ℤ pos d) (exponent-is x parts.0 k parts.2) ∙ ap (λ (z : ℤ). z +ℤ pos d) (sub-mul k 149 (2 ^ 30) (pow_pos 30)) ∙ sub-add (k * 2 ^ 30) (149 * 2 ^ 30) d in
    subst InRange (sym e) (sub_range (k * 2 ^ 30 + d) (omega (arith, bounds.0)) (omega (arith, bounds.1, digits_lt 30 (significand x))))

floor_range : (a n : ℕ) → n ≤ suc a * 2 ^ 24 → a < 126 * 2 ^ 30 → InRange (shr_z (neg_ℤ (pos n)) (2 ^ 24))
floor_range a zero h l = omega arith
floor_range a (suc n) h l = omega arith

pub scaled_range : (k : ℕ) (l : ℤ) → k ≤ 2 ^ 24 → InRange l → InRange (scaled k l)
scaled_range k (pos a) h r = omega (arith, mul-le-mul_left a h)
scaled_range k (negsuc a) h r = floor_range a (suc a * k) (mul-le-mul_left (suc a) h) r

-- ---- the exponent y is at most 1

pub exponent-at-most : (y : Float) → T (is_exponent y) → AtMost 0 y
unfolding lt le
exponent-at-most nan t = absurd t
exponent-at-most (inf true) t = absurd t
exponent-at-most (inf false) t = absurd t
exponent-at-most (fin true m e) t = absurd t
exponent-at-most (fin false m e) t = at_most_of_le 0 (fin false m e) tt (and_r (lt (fin false 0 (pos 0)) (fin false m e)) (le (fin false m e) (fin false 1 (pos 0))) t)

pub power_of_field : (w : ℤ) (f : ℕ) → Field w f → HasValue (of_bits binary32 (f * 2 ^ 23)) false (up w) (down w)
power_of_field w f p = rescale (of_bits binary32 (f * 2 ^ 23)) (2 ^ f) (2 ^ 127) (up w) (down w) (pow_pos 127) (sym p.power) (power_value f p.from p.to)
