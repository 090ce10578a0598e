-- The exponent and the significand of a positive number whose parts are M and k (`Normalised`), and its value.
use mathlib.Core.Path.{◌≡◌, sym, ap, ◌∙◌}
use mathlib.Core.Bool.{true, false}
use Prim.Native.Nat.{ℕ, suc, ◌+◌, ◌-◌, ◌*◌, ◌/◌, ◌^◌, ◌≤◌, ◌<◌}
use native.Mathlib.Nat.{le_trans, le_of_eq, lt_of_lt_of_le, lt_of_le_of_lt, lt_of_not-le, not-le_of_lt, mul_assoc, mul_comm, mul_right_comm, mul-div_cancel, pow-succ', mul-le-mul_right, le_of_mul-le-mul_right, lt_of_mul-lt-mul_right, mul-lt-mul_of_pos_right}
use native.Mathlib.Omega.{arith}
use lib.IntN.{sub_ℕ}
use lib.Dec.{T}
use lib.Pow.{pow_pos, pow_mono}
use lib.Ieee.{Float, nan, inf, fin, binary32, size, fits}
use lib.Ieee.Digits.{size-lt, size-le}
use lib.Ieee.Positive.{num, den, positive}
use Rattle.numeric.specs.Rounding.{steps}
use Rattle.logarithm.specs.Logarithm.{exponent, significand}
use Rattle.numeric.specs.Inner.{Normalised}
use Rattle.numeric.proofs.Integers.{sub-shift}
use Rattle.numeric.proofs.Steps.{own_steps}

module _ (x : Float) (M k : ℕ) (p : Normalised x M k) where
  -- x is 2 ^ k steps or more, and fewer than 2 ^ (k + 1)
  from : 2 ^ k ≤ steps x
  from = le_of_mul-le-mul_right (le_trans (le_of_eq (mul_comm (2 ^ k) (2 ^ 23))) (le_trans (mul-le-mul_right (2 ^ k) p.from) (le_of_eq (sym p.whole)))) (pow_pos 23)

  pub below : steps x < 2 ^ suc k
  below =
      let e : 2 ^ 24 * 2 ^ k ≡ 2 ^ suc k * 2 ^ 23 = mul_assoc (2 ^ 23) 2 (2 ^ k) ∙ ap (λ (i : ℕ). 2 ^ 23 * i) (sym (pow-succ' 2 k)) ∙ mul_comm (2 ^ 23) (2 ^ suc k) in
      lt_of_mul-lt-mul_right (2 ^ 23) (lt_of_le_of_lt (le_of_eq p.whole) (lt_of_lt_of_le (mul-lt-mul_of_pos_right p.below (pow_pos k)) (le_of_eq e)))

  pub count : size (steps x) ≡ k + 1
  count =
      let most : size (steps x) ≤ suc k = size-le (steps x) (suc k) below in
      let least : k < size (steps x) = lt_of_not-le (λ (h : size (steps x) ≤ k). not-le_of_lt (lt_of_lt_of_le (size-lt (steps x)) (pow_mono h)) from) in
      omega arith

  -- M is the significand in units of 2 ^ -23
  pub in_units : steps x * 2 ^ 30 ≡ M * 2 ^ 7 * 2 ^ k
  in_units = sym (mul_assoc (steps x) (2 ^ 23) (2 ^ 7)) ∙ ap (λ (i : ℕ). i * 2 ^ 7) p.whole ∙ mul_right_comm M (2 ^ k) (2 ^ 7)

  pub significand-is : significand x ≡ M * 2 ^ 7
  significand-is =
      let z : size (steps x) - 1 ≡ k = omega (arith, count) in
      ap (λ (i : ℕ). steps x * 2 ^ 30 / 2 ^ i) z ∙ ap (λ (i : ℕ). i / 2 ^ k) in_units ∙ mul-div_cancel (M * 2 ^ 7) (pow_pos k)

  pub exponent-is : exponent x ≡ sub_ℕ k 149
  exponent-is = ap (λ (i : ℕ). sub_ℕ i 150) count ∙ sub-shift k 149 1

-- its steps are its value
pub value : (x : Float) → T (fits binary32 x) → T (positive x) → steps x * den x ≡ num x * 2 ^ 149
value nan f t = absurd t
value (inf s) f t = absurd t
value (fin true m e) f t = absurd t
value (fin false m e) f t = sym (own_steps false m e f).1
