-- The bits of a root from the root of a shifted significand.
use mathlib.Core.Path.{◌≡◌, sym, ap, ◌∙◌, subst}
use Prim.Native.Nat.{ℕ, zero, suc, ◌+◌, ◌-◌, ◌*◌, ◌/◌, ◌%◌, ◌^◌, ◌≤◌, ◌<◌}
use native.Mathlib.Nat.{le_trans, le_of_eq, lt_of_lt_of_le, lt_of_le_of_lt, zero-add, mul-pos, mul_assoc, mul-mul-mul_comm, suc-mul, add-mul, mul-le-mul, mul-le-mul_left, mul-le-mul_right, mul-lt-mul_of_pos_right, div-lt_iff_lt-mul, div-eq_of_lt-le, mod-eq_of_lt}
use native.Mathlib.Omega.{arith}
use mathlib.Core.Bool.{true, false, not}
use lib.Dec.{T, lit≤}
use lib.Pow.{pow_pos, pow-add, pow_mono, shl_lt}
use lib.Ieee.{Float, nan, inf, fin, binary32, fits, is_nan, nan_bits, to_bits, of_bits}
use lib.Ieee.Bits.{of_bits-to_bits, nan_bits_is}
use lib.Ieee.Positive.{positive, positive-finite}
use Rattle.numeric.specs.Rounding.{steps}
use Rattle.root.specs.Root.{root, square, sqrt_of}
use Rattle.root.proofs.Whole.{root_is, root-lt, root_ge}
use Rattle.root.proofs.Nearest.{kept, sqrt_steps, root_of_lem}
use Rattle.numeric.proofs.Signs.{finite_number}
use Rattle.numeric.proofs.Steps.{Is, bits_carried}

-- ---- the root of a * p ^ 2 lies in the p numbers from root a * p on
scaled-low : (a p : ℕ) → root a * p ≤ root (a * (p * p))
scaled-low a p =
    root_ge (root a * p) (a * (p * p)) (le_trans (le_of_eq (mul-mul-mul_comm (root a) p (root a) p)) (mul-le-mul_right (p * p) (root_is a).0))

scaled_high : (a p : ℕ) → 0 < p → root (a * (p * p)) < suc (root a) * p
scaled_high a p h =
    root-lt (suc (root a) * p) (a * (p * p))
    (lt_of_lt_of_le (mul-lt-mul_of_pos_right (root_is a).1 (mul-pos h h)) (le_of_eq (sym (mul-mul-mul_comm (suc (root a)) p (suc (root a)) p))))

-- rounded to a multiple of 2 * p it is the root of a, rounded to a multiple of 2
kept-scaled : (r s p : ℕ) → 0 < p → r * p ≤ s → s < suc r * p → (s + p) / (2 * p) ≡ (r + 1) / 2
kept-scaled r s p h lo hi =
    let q = (r + 1) / 2 in
    let a : q * 2 * p ≤ (r + 1) * p = mul-le-mul_right p (below (r + 1)) in
    let b : (r + 2) * p ≤ (q * 2 + 2) * p = mul-le-mul_right p (above r) in
    let e = add-mul r 1 p in
    let f = add-mul r 2 p in
    let g = add-mul (q * 2) 2 p in
    let i = suc-mul r p in
    let j : q * (2 * p) ≡ q * 2 * p = sym (mul_assoc q 2 p) in
    let l = add-mul q 1 (2 * p) in
    div-eq_of_lt-le (2 * p) (omega arith) (omega arith)
  where
    below : (n : ℕ) → n / 2 * 2 ≤ n
    below n = omega arith

    above : (r : ℕ) → r + 2 ≤ (r + 1) / 2 * 2 + 2
    above r = omega arith

-- ---- the square of x is m * 2 ^ e, with 24 digits in m. Less an even power of two, 2 ^ (2 t), it is m * 2 ^ i, with 49 or 50 digits
abbrev pub halved : ℕ → ℕ
halved e = (e - 25) / 2

abbrev pub shift : ℕ → ℕ
shift e = e - 2 * halved e

module _ (m e : ℕ) (m-low : 2 ^ 23 ≤ m) (m-high : m < 2 ^ 24) (e-low : 128 ≤ e) where
  abbrev t : ℕ
  t = halved e

  abbrev i : ℕ
  i = shift e

  lo : 2 ^ 48 ≤ m * 2 ^ i
  lo = mul-le-mul m-low (pow_mono {i = 25} {j = i} (omega arith))

  pub shift_high : m * 2 ^ i < 2 ^ 50
  shift_high = lt_of_lt_of_le (shl_lt 24 i m-high) (pow_mono {i = 24 + i} {j = 50} (omega arith))

  -- what the code's shift leaves
  pub shift_is : m * 2 ^ i % 2 ^ 64 ≡ m * 2 ^ i
  shift_is = mod-eq_of_lt (lt_of_lt_of_le shift_high (lit≤ tt))

  least : 2 ^ 24 ≤ root (m * 2 ^ i)
  least = root_ge (2 ^ 24) (m * 2 ^ i) lo

  pub root-small : root (m * 2 ^ i) < 2 ^ 25
  root-small = root-lt (2 ^ 25) (m * 2 ^ i) shift_high

  squared : m * 2 ^ e ≡ m * 2 ^ i * (2 ^ t * 2 ^ t)
  squared =
      let even : e ≡ i + (t + t) = omega arith in
      ap (λ (z : ℕ). m * z) (ap (λ (z : ℕ). 2 ^ z) even ∙ pow-add 2 i (t + t) ∙ ap (λ (z : ℕ). 2 ^ i * z) (pow-add 2 t t))
      ∙ sym (mul_assoc m (2 ^ i) (2 ^ t * 2 ^ t))

  pub root_bits_are : (x : Float) → T (fits binary32 x) → T (positive x) → square x ≡ m * 2 ^ e → t * 2 ^ 23 + (root (m * 2 ^ i) + 1) / 2 ≡ to_bits binary32 (sqrt_of x)
  root_bits_are nan f p h = absurd p
  root_bits_are (inf s) f p h = absurd p
  root_bits_are (fin true n d) f p h = absurd p
  root_bits_are (fin false zero d) f p h = absurd p
  root_bits_are (fin false (suc n) d) f p h =
      let x = fin false (suc n) d in
      let s = root (square x) in
      let r = root (m * 2 ^ i) in
      let q = (r + 1) / 2 in
      let sq : s ≡ root (m * 2 ^ i * (2 ^ t * 2 ^ t)) = ap root (h ∙ squared) in
      let a : r * 2 ^ t ≤ s = le_trans (scaled-low (m * 2 ^ i) (2 ^ t)) (le_of_eq (sym sq)) in
      let b : s < suc r * 2 ^ t = lt_of_le_of_lt (le_of_eq sq) (scaled_high (m * 2 ^ i) (2 ^ t) (pow_pos t)) in
      let is : Is (sqrt_of x) false (kept s t * 2 ^ t) = sqrt_steps n d f t (le_trans (mul-le-mul_right (2 ^ t) least) a) (lt_of_lt_of_le b (mul-le-mul_right (2 ^ t) root-small)) in
      sym (bits_carried (sqrt_of x) false q t (subst (λ (z : ℕ). Is (sqrt_of x) false (z * 2 ^ t)) (kept-scaled r s (2 ^ t) (pow_pos t) a b) is) (low r least) (high r root-small)
      ∙ ap (λ (z : ℕ). z + q) (zero-add (t * 2 ^ 23)))
    where
      low : (r : ℕ) → 2 ^ 24 ≤ r → 2 ^ 23 ≤ (r + 1) / 2
      low r h = omega arith

      high : (r : ℕ) → r < 2 ^ 25 → (r + 1) / 2 ≤ 2 ^ 24
      high r h = omega arith

  -- what Newton's first step adds
  pub quotient_lt : (g : ℕ) → 2 ^ 23 ≤ g → m * 2 ^ i % 2 ^ 64 / g < 2 ^ 27
  quotient_lt g h = (div-lt_iff_lt-mul (lt_of_lt_of_le (pow_pos 23) h)).1 (rw shift_is (lt_of_lt_of_le shift_high (mul-le-mul_left (2 ^ 27) h)))

-- ---- the square of a number whose parts are M and k
pub square-is : (x : Float) (M k : ℕ) → steps x * 2 ^ 23 ≡ M * 2 ^ k → square x ≡ M * 2 ^ (k + 128)
square-is x M k h = sym (mul_assoc (steps x) (2 ^ 23) (2 ^ 128)) ∙ ap (λ (z : ℕ). z * 2 ^ 128) h ∙ mul_assoc M (2 ^ k) (2 ^ 128) ∙ ap (λ (z : ℕ). M * z) (sym (pow-add 2 k 128))

-- ---- what the code reads: the root from its bits
positive_no_nan : (x : Float) → T (positive x) → T (not (is_nan x))
positive_no_nan x p = finite_number x (positive-finite x p)

-- what is read from the root's bits
pub root-read : (x : Float) → T (fits binary32 x) → T (positive x) → of_bits binary32 (to_bits binary32 (sqrt_of x)) ≡ sqrt_of x
root-read x f p = of_bits-to_bits binary32 (sqrt_of x) (root_of_lem x f p).held

pub root_no_nan : (x : Float) → T (fits binary32 x) → T (positive x) → T (not (nan_bits binary32 (to_bits binary32 (sqrt_of x))))
root_no_nan x f p =
    subst (λ b. T (not b)) (sym (nan_bits_is binary32 (to_bits binary32 (sqrt_of x)) ∙ ap is_nan (root-read x f p)))
    (positive_no_nan (sqrt_of x) (root_of_lem x f p).above_zero)
