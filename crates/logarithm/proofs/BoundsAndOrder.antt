-- The laws of the binary logarithm L in units: for a positive finite x, with u for 2 ^ 30, L / u ≤ log2 x < (L + 4) / u, said as 2 ^ L ≤ x ^ u < 2 ^ (L + 4);
-- and L never falls as x grows. A power 2 ^ v of an integer v is the fraction up v / down v, and x is num x / den x.
-- u is a variable, so that no u th power is ever computed.
use mathlib.Core.Path.{◌≡◌, refl, sym, ap, ◌∙◌, subst}
use mathlib.Core.Bool.{Bool, cond}
use mathlib.Core.Logic.{inl, inr}
use Prim.Native.Nat.{ℕ, zero, suc, ◌+◌, ◌-◌, ◌*◌, ◌/◌, ◌^◌, ◌≤◌, ◌<◌, suc-le-suc}
use native.Mathlib.Nat.{le_trans, le_of_eq, lt_of_lt_of_le, lt_of_le_of_lt, mul_assoc, mul_comm, mul_left_comm, mul_right_comm, mul-pos, mul-le-mul_right, mul-lt-mul_of_pos_right, le_of_mul-le-mul_right, lt_of_mul-lt-mul_right, one-le-pow, eq-or-lt_of_le, add-zero, suc-mul, not-suc-le-zero, le_of_suc-le-suc}
use native.Mathlib.Omega.{arith}
use lib.IntN.{ℤ, pos, negsuc, neg_ℤ, sub_ℕ, ◌+ℤ◌, ◌*ℤ◌}
use lib.Dec.{T, le→leb, leb→le}
use lib.Signed.{◌≤ℤ◌, le_z_yes, mag, shr_z}
use lib.Pow.{pow-add, pow_pos, pow_mono, shr_mono}
use lib.Ieee.{Float, nan, binary32, up, down, size, le, fits}
use lib.Ieee.Bits.{is_true}
use lib.Ieee.Digits.{size-lt, size-le}
use lib.Ieee.Fits.{down_pos}
use lib.Ieee.Positive.{num, den, den_pos, positive}
use lib.Ieee.Nearest.{div_mono}
use Rattle.logarithm.specs.Logarithm as Logarithm
use Rattle.logarithm.specs.Logarithm.{digits, exponent, significand, binary_logarithm, PowerAtMost, PowerAbove, logarithm_times}
use Rattle.numeric.specs.Rounding.{F, steps}
use Rattle.logarithm.proofs.Digits.{digits_lt, digits_mono, thirty, mul_pow, pow_mul}
use Rattle.numeric.proofs.Integers.{mag-sub, mag-mul, mag-add, mag-floor, sub_power, sub-mul, sub-add, sub_mono}
use Rattle.logarithm.proofs.Parts.{count, in_units, significand-is, exponent-is, value}
use Rattle.numeric.proofs.rounding.Laws.{F_mono}
use Rattle.numeric.proofs.rounding.Normalised.{normalised}
use Rattle.numeric.proofs.rounding.Truncation.{truncated_mono}

-- ---- L as one difference

-- the digits of the exponent and of the logarithm: L + 150 * u
abbrev raised : ℕ → Float → ℕ
raised u x = size (steps x) * u + digits 30 (significand x)

L-is : (u : ℕ) → u ≡ 2 ^ 30 → (x : Float) → binary_logarithm x ≡ sub_ℕ (raised u x) (150 * u)
unfolding binary_logarithm
L-is u e x =
    let z = size (steps x) in
    let d = digits 30 (significand x) in
    ap (λ (i : ℕ). sub_ℕ z 150 *ℤ pos i +ℤ pos d) (sym e)
    ∙ ap (λ (i : ℤ). i +ℤ pos d) (sub-mul z 150 u (subst (λ (i : ℕ). 0 < i) (sym e) (pow_pos 30)))
    ∙ sub-add (z * u) (150 * u) d

-- ---- L never falls

raised_mono : (u : ℕ) → u ≡ 2 ^ 30 → (x y : Float) → steps x ≤ steps y → raised u x ≤ raised u y
raised_mono u e x y h =
    let a = size (steps x) in
    let b = size (steps y) in
    let c = digits 30 (significand x) in
    elim (eq-or-lt_of_le (size-le (steps x) b (lt_of_le_of_lt h (size-lt (steps y))))) [
      | inl p ↦ subst (λ (i : ℕ). i * u + digits 30 (steps x * 2 ^ 30 / 2 ^ (i - 1)) ≤ raised u y) (sym p) (same b)
      | inr l ↦
          let s : suc a * u ≤ b * u = mul-le-mul_right u l in
          omega (arith, digits_lt 30 (significand x), suc-mul a u)
    ]
  where
    same : (b : ℕ) → b * u + digits 30 (steps x * 2 ^ 30 / 2 ^ (b - 1)) ≤ b * u + digits 30 (steps y * 2 ^ 30 / 2 ^ (b - 1))
    same b =
        let q : steps x * 2 ^ 30 / 2 ^ (b - 1) ≤ steps y * 2 ^ 30 / 2 ^ (b - 1) = div_mono (steps x * 2 ^ 30) (2 ^ (b - 1)) (steps y * 2 ^ 30) (2 ^ (b - 1)) (pow_pos (b - 1)) (pow_pos (b - 1)) (mul-le-mul_right (2 ^ (b - 1)) (mul-le-mul_right (2 ^ 30) h)) in
        omega (arith, digits_mono 30 (steps x * 2 ^ 30 / 2 ^ (b - 1)) (steps y * 2 ^ 30 / 2 ^ (b - 1)) q)

pub logarithm_never_falls : (x y : Float) → T (positive x) → T (positive y) → T (le x y) → binary_logarithm x ≤ℤ binary_logarithm y
logarithm_never_falls x y p q h = rw (L-is (2 ^ 30) refl x, L-is (2 ^ 30) refl y) (sub_mono (raised (2 ^ 30) x) (raised (2 ^ 30) y) (150 * 2 ^ 30) (raised_mono (2 ^ 30) refl x y (truncated_mono 149 x y p q h)))

-- ---- the bounds

-- the steps n of x, in terms of its significand s, where n * 2 ^ 30 is s * 2 ^ k, and of thirty digits d, with w for the power u
scaled : (n s k w : ℕ) → n * 2 ^ 30 ≡ s * 2 ^ k → n ^ w * 2 ^ (30 * w) ≡ s ^ w * 2 ^ (k * w)
scaled n s k w e =
    ap (λ (i : ℕ). n ^ w * i) (pow_mul 2 30 w) ∙ sym (mul_pow n (2 ^ 30) w) ∙ ap (λ (i : ℕ). i ^ w) e ∙ mul_pow s (2 ^ k) w ∙ ap (λ (i : ℕ). s ^ w * i) (sym (pow_mul 2 k w))

-- n ^ u * 2 ^ u, which is (n / 2 ^ 149) ^ u * 2 ^ (150 * u), lies between 2 ^ raised and 2 ^ (raised + 3)
module _ (u : ℕ) (e : u ≡ 2 ^ 30) (n s k d : ℕ) (w : n * 2 ^ 30 ≡ s * 2 ^ k) where
  unit_power : u ^ u ≡ 2 ^ (30 * u)
  unit_power = ap (λ (i : ℕ). i ^ u) e ∙ sym (pow_mul 2 30 u)

  meet : (c : ℕ) → 2 ^ (d + c) * u ^ u * 2 ^ (k * u) ≡ 2 ^ ((k + 1) * u + d + c) * 2 ^ (29 * u)
  meet c =
      let f : d + c + 30 * u + k * u ≡ (k + 1) * u + d + c + 29 * u = omega arith in
      ap (λ (i : ℕ). 2 ^ (d + c) * i * 2 ^ (k * u)) unit_power
      ∙ ap (λ (i : ℕ). i * 2 ^ (k * u)) (sym (pow-add 2 (d + c) (30 * u)))
      ∙ sym (pow-add 2 (d + c + 30 * u) (k * u))
      ∙ ap (λ (i : ℕ). 2 ^ i) f
      ∙ pow-add 2 ((k + 1) * u + d + c) (29 * u)

  raise : n ^ u * 2 ^ u * 2 ^ (29 * u) ≡ s ^ u * 2 ^ (k * u)
  raise =
      let f : u + 29 * u ≡ 30 * u = omega arith in
      mul_assoc (n ^ u) (2 ^ u) (2 ^ (29 * u)) ∙ ap (λ (i : ℕ). n ^ u * i) (sym (pow-add 2 u (29 * u)) ∙ ap (λ (i : ℕ). 2 ^ i) f) ∙ scaled n s k u w

  at_least : 2 ^ (d + 0) * u ^ u ≤ s ^ u → 2 ^ ((k + 1) * u + d + 0) ≤ n ^ u * 2 ^ u
  at_least h = le_of_mul-le-mul_right (le_trans (le_of_eq (sym (meet 0))) (le_trans (mul-le-mul_right (2 ^ (k * u)) h) (le_of_eq (sym raise)))) (pow_pos (29 * u))

  less_than : s ^ u < 2 ^ (d + 3) * u ^ u → n ^ u * 2 ^ u < 2 ^ ((k + 1) * u + d + 3)
  less_than h = lt_of_mul-lt-mul_right (2 ^ (29 * u)) (lt_of_le_of_lt (le_of_eq raise) (lt_of_lt_of_le (mul-lt-mul_of_pos_right h (pow_pos (k * u))) (le_of_eq (meet 3))))

-- N / B is X / D, and p / q is A / B
from-below : (X D N B A p q : ℕ) → 0 < B → N * D ≡ X * B → p * B ≡ A * q → A ≤ N → p * D ≤ X * q
from-below X D N B A p q b v w h =
    le_of_mul-le-mul_right
    (le_trans (le_of_eq (mul_right_comm p D B ∙ ap (λ (i : ℕ). i * D) w ∙ mul_assoc A q D))
    (le_trans (mul-le-mul_right (q * D) h)
    (le_of_eq (mul_left_comm N q D ∙ ap (λ (i : ℕ). q * i) v ∙ sym (mul_assoc q X B) ∙ ap (λ (i : ℕ). i * B) (mul_comm q X)))))
    b

from-above : (X D N B A p q : ℕ) → 0 < q * D → N * D ≡ X * B → p * B ≡ A * q → N < A → X * q < p * D
from-above X D N B A p q b v w h =
    lt_of_mul-lt-mul_right B
    (lt_of_le_of_lt (le_of_eq (ap (λ (i : ℕ). i * B) (mul_comm X q) ∙ mul_assoc q X B ∙ ap (λ (i : ℕ). q * i) (sym v) ∙ mul_left_comm q N D))
    (lt_of_lt_of_le (mul-lt-mul_of_pos_right h b)
    (le_of_eq (sym (mul_assoc A q D) ∙ ap (λ (i : ℕ). i * D) (sym w) ∙ mul_right_comm p B D))))

value_power : (u n a c : ℕ) → n * c ≡ a * 2 ^ 149 → n ^ u * 2 ^ u * c ^ u ≡ a ^ u * 2 ^ (150 * u)
value_power u n a c e =
    let f : 149 * u + u ≡ 150 * u = omega arith in
    mul_right_comm (n ^ u) (2 ^ u) (c ^ u)
    ∙ ap (λ (i : ℕ). i * 2 ^ u) (sym (mul_pow n c u) ∙ ap (λ (i : ℕ). i ^ u) e ∙ mul_pow a (2 ^ 149) u ∙ ap (λ (i : ℕ). a ^ u * i) (sym (pow_mul 2 149 u)))
    ∙ mul_assoc (a ^ u) (2 ^ (149 * u)) (2 ^ u)
    ∙ ap (λ (i : ℕ). a ^ u * i) (sym (pow-add 2 (149 * u) u) ∙ ap (λ (i : ℕ). 2 ^ i) f)

pub logarithm_bounds : (x : Float) → T (fits binary32 x) → T (positive x) → (u : ℕ) → u ≡ 2 ^ 30
    → PowerAtMost (binary_logarithm x) x u × PowerAbove (binary_logarithm x +ℤ pos 4) x u
logarithm_bounds x f t u e =
    let parts = normalised x f t in
    let M = parts.0 in
    let k = parts.1 in
    let p = parts.2 in
    let n = steps x in
    let s = significand x in
    let d = digits 30 s in
    let N = n ^ u * 2 ^ u in
    let B = 2 ^ (150 * u) in
    let A = (k + 1) * u + d in
    let w : n * 2 ^ 30 ≡ s * 2 ^ k = in_units x M k p ∙ ap (λ (i : ℕ). i * 2 ^ k) (sym (significand-is x M k p)) in
    let b = thirty u e s (rw (e, significand-is x M k p) (omega (arith, p.from))) (rw (e, significand-is x M k p) (omega (arith, p.below))) in
    let L : binary_logarithm x ≡ sub_ℕ A (150 * u) = L-is u e x ∙ ap (λ (z : ℕ). sub_ℕ (z * u + d) (150 * u)) (count x M k p) in
    let L4 : binary_logarithm x +ℤ pos 4 ≡ sub_ℕ (A + 4) (150 * u) = ap (λ (z : ℤ). z +ℤ pos 4) L ∙ sub-add A (150 * u) 4 in
    let v = value_power u n (num x) (den x) (value x f t) in
    let lo : 2 ^ (A + 0) ≤ N = at_least u e n s k d w (rw add-zero b.0) in
    let hi : N < 2 ^ (A + 3) = less_than u e n s k d w b.1 in
    let enough : A + 3 ≤ A + 4 = omega arith in (
      rw L (from-below (num x ^ u) (den x ^ u) N B (2 ^ A) (up (sub_ℕ A (150 * u))) (down (sub_ℕ A (150 * u))) (pow_pos (150 * u)) v (sub_power A (150 * u)) (rw add-zero at lo)),
      rw L4 (from-above (num x ^ u) (den x ^ u) N B (2 ^ (A + 4)) (up (sub_ℕ (A + 4) (150 * u))) (down (sub_ℕ (A + 4) (150 * u))) (mul-pos (down_pos (sub_ℕ (A + 4) (150 * u))) (one-le-pow u (den x) (den_pos x))) v (sub_power (A + 4) (150 * u)) (lt_of_lt_of_le hi (pow_mono enough))),
    )

-- ---- L is a number of 39 binary digits and a sign

pub logarithm_lt : (x : Float) → T (fits binary32 x) → T (positive x) → mag (binary_logarithm x) < 2 ^ 39
unfolding binary_logarithm
logarithm_lt x f t =
    let parts = normalised x f t in
    let k = parts.1 in
    let d = digits 30 (significand x) in
    let e : mag (exponent x) < 279 = subst (λ (z : ℤ). mag z < 279) (sym (exponent-is x parts.0 k parts.2)) (mag-sub k 149 279 (omega (arith, parts.2.few)) (omega arith)) in
    omega (arith, mag-add (exponent x *ℤ pos (2 ^ 30)) d (279 * 2 ^ 30) (mag-mul (exponent x) (2 ^ 30) 279 (2 ^ 30) (pow_pos 30) (omega arith) e), digits_lt 30 (significand x))

pub scaled-lt : (k : ℕ) (l : ℤ) → k ≤ 2 ^ 24 → mag l < 2 ^ 39 → mag (Logarithm.scaled k l) < 2 ^ 39
scaled-lt k l h b = mag-floor (l *ℤ pos k) (2 ^ 24) (2 ^ 39) (pow_pos 24) (mag-mul l k (2 ^ 39) (2 ^ 24) (pow_pos 24) h b)

-- ---- log10 and ln never fall: the multiple of L, rounded down, does not, nor does F

floor_mono : (n m : ℕ) → m ≤ n → shr_z (neg_ℤ (pos n)) (2 ^ 24) ≤ℤ shr_z (neg_ℤ (pos m)) (2 ^ 24)
floor_mono zero zero h = le_z_yes tt
floor_mono (suc n) zero h = le_z_yes tt
floor_mono zero (suc m) h = absurd (not-suc-le-zero h)
floor_mono (suc n) (suc m) h = le_z_yes (le→leb (m / 2 ^ 24) (n / 2 ^ 24) (shr_mono 24 (le_of_suc-le-suc h)))

floor_sign : (n b : ℕ) → shr_z (neg_ℤ (pos n)) (2 ^ 24) ≤ℤ pos b
floor_sign zero b = le_z_yes (le→leb 0 b (omega arith))
floor_sign (suc n) b = le_z_yes tt

scaled_mono : (k : ℕ) (l m : ℤ) → l ≤ℤ m → Logarithm.scaled k l ≤ℤ Logarithm.scaled k m
scaled_mono k (pos a) (pos b) h = le_z_yes (le→leb (a * k / 2 ^ 24) (b * k / 2 ^ 24) (shr_mono 24 (mul-le-mul_right k (leb→le a b h.le))))
scaled_mono k (pos a) (negsuc b) h = absurd h.le
scaled_mono k (negsuc a) (pos b) h = floor_sign (suc a * k) (b * k / 2 ^ 24)
scaled_mono k (negsuc a) (negsuc b) h = floor_mono (suc a * k) (suc b * k) (mul-le-mul_right k (suc-le-suc (leb→le b a h.le)))

pub logarithm_times_mono : (k : ℕ) (x y : Float) → T (positive x) → T (positive y) → T (le x y) → T (le (logarithm_times k x) (logarithm_times k y))
unfolding logarithm_times
logarithm_times_mono k x y p q h =
    subst (λ (b : Bool). T (le (cond b (F (Logarithm.scaled k (binary_logarithm x))) nan) (cond (positive y) (F (Logarithm.scaled k (binary_logarithm y))) nan))) (sym (is_true (positive x) p))
    (subst (λ (b : Bool). T (le (F (Logarithm.scaled k (binary_logarithm x))) (cond b (F (Logarithm.scaled k (binary_logarithm y))) nan))) (sym (is_true (positive y) q))
    (F_mono (Logarithm.scaled k (binary_logarithm x)) (Logarithm.scaled k (binary_logarithm y)) (scaled_mono k (binary_logarithm x) (binary_logarithm y) (logarithm_never_falls x y p q h))))
