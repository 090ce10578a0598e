-- A positive number, normal or subnormal, as m × 2 ^ e with 1 ≤ m < 2: read from its bits, the digits moved up where there are fewer than 24.
use Rattle.std.proofs.Common.{◌≡◌, ℕ, suc, ◌+◌, ◌-◌, ◌*◌, ◌/◌, ◌%◌, ◌^◌, ◌<◌, ◌≤◌, true, false, T, sym, refl, ap, ◌∙◌, subst, le_trans, le_of_eq, lt_of_lt_of_le, lt_of_le_of_lt, mul-le-mul_right, mod-eq_of_lt, mul_assoc, lt_of_not-le, not-le_of_lt, arith, lit≤, pow_pos, pow_mono, pow-add, shl_lt, leb-false}
use lib.Count.{count_leading_zeros, leading_top}
use lib.Ieee.{Float, nan, inf, fin, binary32, fits, to_bits}
use lib.Ieee.Positive.{positive, positive-finite, value_pos, first_pos}
use lib.Ieee.Scale.{finite}
use Rattle.numeric.specs.Rounding.{steps}
use Rattle.numeric.specs.Float.{sign_bit}
use Rattle.numeric.specs.Inner.{Normalised}
use Rattle.numeric.proofs.Signs.{finite_number}
use Rattle.numeric.proofs.Steps.{Is, own_steps}
use Rattle.numeric.proofs.float.SignBit.{bit_set}
use Rattle.numeric.proofs.rounding.Decoded.{Stepped, decoded, decoded_normal}

-- ---- an m of at most 24 digits is moved up by z to have 24: m has j + 1 digits
module _ (m : ℕ) (some : 0 < m) (short : m < 2 ^ 24) where
  abbrev z : ℕ
  z = count_leading_zeros 32 m - 8

  top : (j : ℕ) × (count_leading_zeros 32 m + suc j ≡ 32) × (2 ^ j ≤ m) × (m < 2 ^ suc j)
  top = leading_top 32 m some (lt_of_lt_of_le short (lit≤ tt))

  few : top.0 < 24
  few = lt_of_not-le λ (h : 24 ≤ top.0). not-le_of_lt (lt_of_le_of_lt top.2 short) (pow_mono h)

  pub leading_ge : 8 ≤ count_leading_zeros 32 m
  leading_ge = omega (arith, few, top.1)

  pub moved_le : z ≤ 23
  moved_le = omega (arith, top.1)

  moved_low : 2 ^ 23 ≤ m * 2 ^ z
  moved_low = let e : 23 ≡ top.0 + z = omega (arith, few, top.1) in le_trans (le_of_eq (ap (λ (n : ℕ). 2 ^ n) e ∙ pow-add 2 top.0 z)) (mul-le-mul_right (2 ^ z) top.2)

  moved_high : m * 2 ^ z < 2 ^ 24
  moved_high = let e : suc top.0 + z ≡ 24 = omega (arith, few, top.1) in lt_of_lt_of_le (shl_lt (suc top.0) z top.3) (le_of_eq (ap (λ (n : ℕ). 2 ^ n) e))

  -- what the code's shift leaves
  pub moved_is : m * 2 ^ z % 2 ^ 32 ≡ m * 2 ^ z
  moved_is = mod-eq_of_lt (lt_of_lt_of_le moved_high (lit≤ tt))

-- ---- x is m * 2 ^ k steps
module _ (x : Float) (m k : ℕ) (s : Stepped x m k) where
  raised : steps x * 2 ^ 23 ≡ m * 2 ^ (k + 23)
  raised = ap (λ (n : ℕ). n * 2 ^ 23) s.whole ∙ mul_assoc m (2 ^ k) (2 ^ 23) ∙ ap (λ (n : ℕ). m * n) (sym (pow-add 2 k 23))

  full : 2 ^ 23 ≤ m → Normalised x m (k + 23)
  full h = record { whole = raised; from = h; below = s.short; few = omega (arith, s.few) }

  pub moved : (some : 0 < m) → let z = count_leading_zeros 32 m - 8 in Normalised x (m * 2 ^ z) (k + 23 - z)
  moved some =
      let z = count_leading_zeros 32 m - 8 in
      let e : k + 23 ≡ z + (k + 23 - z) = omega (arith, moved_le m some s.short) in
      record {
        whole = raised ∙ ap (λ (n : ℕ). m * 2 ^ n) e ∙ ap (λ (n : ℕ). m * n) (pow-add 2 z (k + 23 - z)) ∙ sym (mul_assoc m (2 ^ z) (2 ^ (k + 23 - z)));
        from = moved_low m some s.short;
        below = moved_high m some s.short;
        few = omega (arith, s.few);
      }

-- ---- the bits of a positive number have no sign, and some digit
digits-pos : (x : Float) (m k : ℕ) → T (fits binary32 x) → T (positive x) → Stepped x m k → 0 < m
digits-pos nan m k f p s = absurd p
digits-pos (inf t) m k f p s = absurd p
digits-pos (fin true n e) m k f p s = absurd p
digits-pos (fin false n e) m k f p s =
    let x = fin false n e in
    first_pos m (2 ^ k) (value_pos x (m * 2 ^ k) (2 ^ 149) p (pow_pos 149) (subst (Is x false) s.whole (own_steps false n e f)))

no_sign : (x : Float) → T (positive x) → sign_bit x ≡ false
no_sign nan p = absurd p
no_sign (inf t) p = absurd p
no_sign (fin true n e) p = absurd p
no_sign (fin false n e) p = refl

module _ (x : Float) (f : T (fits binary32 x)) (p : T (positive x)) where
  is_finite : T (finite x)
  is_finite = positive-finite x p

  clear : to_bits binary32 x % 2 ^ 31 ≡ to_bits binary32 x
  clear = mod-eq_of_lt (leb-false (2 ^ 31) (to_bits binary32 x) (bit_set binary32 x f (finite_number x is_finite) ∙ no_sign x p))

  -- from 2 ^ 23 on the number is normal
  pub bits-normal : 2 ^ 23 ≤ to_bits binary32 x → Normalised x (to_bits binary32 x % 2 ^ 23 + 2 ^ 23) (to_bits binary32 x / 2 ^ 23 + 22)
  bits-normal h =
      let b = to_bits binary32 x in
      let s : Stepped x (b % 2 ^ 23 + 2 ^ 23) (b / 2 ^ 23 - 1) = rw clear at (decoded_normal x f is_finite (rw clear (omega arith))) in
      let e : b / 2 ^ 23 - 1 + 23 ≡ b / 2 ^ 23 + 22 = omega arith in
      subst (Normalised x (b % 2 ^ 23 + 2 ^ 23)) e (full x (b % 2 ^ 23 + 2 ^ 23) (b / 2 ^ 23 - 1) s (omega arith))

  -- below it the bits are the digits
  module _ (h : to_bits binary32 x < 2 ^ 23) where
    bits-steps : Stepped x (to_bits binary32 x) 0
    bits-steps =
        let b = to_bits binary32 x in
        let none : b / 2 ^ 23 - 1 ≡ 0 = omega arith in
        let all : b - (b / 2 ^ 23 - 1) * 2 ^ 23 ≡ b = omega arith in
        subst (Stepped x b) none (subst (λ (m : ℕ). Stepped x m (b / 2 ^ 23 - 1)) all (rw clear at (decoded x f is_finite)))

    pub bits_pos : 0 < to_bits binary32 x
    bits_pos = digits-pos x (to_bits binary32 x) 0 f p bits-steps

    pub bits_subnormal : let z = count_leading_zeros 32 (to_bits binary32 x) - 8 in Normalised x (to_bits binary32 x * 2 ^ z % 2 ^ 32) (23 - z)
    bits_subnormal = rw (moved_is (to_bits binary32 x) bits_pos (omega arith)) (moved x (to_bits binary32 x) 0 bits-steps bits_pos)

  -- so each positive number has its parts
  pub normalised : (M : ℕ) × (k : ℕ) × Normalised x M k
  normalised =
      let b = to_bits binary32 x % 2 ^ 31 in
      let k = b / 2 ^ 23 - 1 in
      let m = b - k * 2 ^ 23 in
      let s = decoded x f is_finite in
      (_, _, moved x m k s (digits-pos x m k f p s))
