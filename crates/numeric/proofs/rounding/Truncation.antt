-- |x| * 2 ^ k, truncated, is a shift of the digits of x. It grows with x.
use Rattle.std.proofs.Common.{◌≡◌, ℕ, ◌+◌, ◌-◌, ◌*◌, ◌/◌, ◌^◌, ◌<◌, ◌≤◌, T, sym, ap, ◌∙◌, inl, inr, zero-le, le_trans, le_of_eq, lt_of_le_of_lt, mul-le-mul_right, mul_assoc, mul-le-mul, lt_of_not-le, mul_right_comm, not-le_of_lt, div-mul-le_self, le_of_mul-le-mul_right, mul-div_cancel, arith, lit≤, pow_pos, pow_mono, pow-add}
use lib.Ieee.{Float, nan, inf, fin, binary32, up, down, le, fits}
use lib.Ieee.Fits.{down_pos}
use lib.Ieee.Nearest.{div_same, div_mono}
use lib.Ieee.Positive.{positive, le→cross}
use lib.Ieee.Scale.{finite}
use Rattle.numeric.specs.Rounding.{truncated, steps}
use Rattle.numeric.proofs.Comparisons.{AtMost}
use Rattle.numeric.proofs.Steps.{own_steps}
use Rattle.numeric.proofs.rounding.Decoded.{Stepped}

-- ---- by the steps of x, as the code finds it
truncated-steps : (k : ℕ) (x : Float) → T (fits binary32 x) → T (finite x) → truncated k x ≡ steps x * 2 ^ k / 2 ^ 149
truncated-steps k nan f t = absurd t
truncated-steps k (inf s) f t = absurd t
truncated-steps k (fin s m e) f t =
    let a = steps (fin s m e) in
    sym
    (div_same (a * 2 ^ k) (2 ^ 149) (m * up e * 2 ^ k) (down e) (pow_pos 149) (down_pos e)
    (mul_right_comm a (2 ^ k) (down e) ∙ ap (λ (z : ℕ). z * 2 ^ k) (sym (own_steps s m e f).1) ∙ mul_right_comm (m * up e) (2 ^ 149) (2 ^ k)))

module _ (x : Float) (k m j : ℕ) (f : T (fits binary32 x)) (t : T (finite x)) (s : Stepped x m j) where
  shifted : truncated k x ≡ m * 2 ^ (j + k) / 2 ^ 149
  shifted = truncated-steps k x f t ∙ ap (λ (z : ℕ). z / 2 ^ 149) (ap (λ (z : ℕ). z * 2 ^ k) s.whole ∙ mul_assoc m (2 ^ j) (2 ^ k) ∙ ap (λ (z : ℕ). m * z) (sym (pow-add 2 j k)))

  pub shifted_up : 149 ≤ j + k → truncated k x ≡ m * 2 ^ (j + k - 149)
  shifted_up h =
      let e : j + k ≡ (j + k - 149) + 149 = omega arith in
      shifted ∙ ap (λ (z : ℕ). m * 2 ^ z / 2 ^ 149) e ∙ ap (λ (z : ℕ). z / 2 ^ 149) (ap (λ (z : ℕ). m * z) (pow-add 2 (j + k - 149) 149) ∙ sym (mul_assoc m (2 ^ (j + k - 149)) (2 ^ 149)))
      ∙ mul-div_cancel (m * 2 ^ (j + k - 149)) (pow_pos 149)

  pub shifted_down : j + k < 149 → truncated k x ≡ m / 2 ^ (149 - (j + k))
  shifted_down h =
      let e : (j + k) + (149 - (j + k)) ≡ 149 = omega arith in
      shifted
      ∙ div_same (m * 2 ^ (j + k)) (2 ^ 149) m (2 ^ (149 - (j + k))) (pow_pos 149) (pow_pos (149 - (j + k)))
      (mul_assoc m (2 ^ (j + k)) (2 ^ (149 - (j + k))) ∙ ap (λ (z : ℕ). m * z) (sym (pow-add 2 (j + k) (149 - (j + k))) ∙ ap (λ (z : ℕ). 2 ^ z) e))

  -- an integer that fits a word is not shifted by one or more
  pub shift-lt : k ≤ 127 → 149 ≤ j + k → truncated k x < 2 ^ 64 → j + k - 149 < 64
  shift-lt l h w = elim s.full [
    | inl z ↦ omega arith
    | inr g ↦
        lt_of_not-le λ (n : 64 ≤ j + k - 149).
        not-le_of_lt (lt_of_le_of_lt (le_of_eq (sym (shifted_up h))) w) (le_trans (lit≤ tt) (mul-le-mul g (pow_mono n)))
  ]

-- ---- its bound and its order
pub truncated-le : (b k : ℕ) (x : Float) → AtMost b x → truncated k x ≤ 2 ^ b * 2 ^ k
truncated-le b k nan t = zero-le
truncated-le b k (inf s) t = zero-le
truncated-le b k (fin s m e) t =
    le_of_mul-le-mul_right
    (le_trans (div-mul-le_self (m * up e * 2 ^ k) (down e)) (le_trans (mul-le-mul_right (2 ^ k) t.1) (le_of_eq (mul_right_comm (2 ^ b) (down e) (2 ^ k)))))
    (down_pos e)

pub truncated_mono : (k : ℕ) (x y : Float) → T (positive x) → T (positive y) → T (le x y) → truncated k x ≤ truncated k y
truncated_mono k nan y p q h = absurd p
truncated_mono k (inf s) y p q h = absurd p
truncated_mono k (fin s m e) nan p q h = absurd q
truncated_mono k (fin s m e) (inf t) p q h = absurd q
truncated_mono k (fin s m e) (fin t n d) p q h =
    div_mono (m * up e * 2 ^ k) (down e) (n * up d * 2 ^ k) (down d) (down_pos e) (down_pos d)
    (le_trans (le_of_eq (mul_right_comm (m * up e) (2 ^ k) (down d)))
    (le_trans (mul-le-mul_right (2 ^ k) (le→cross (fin s m e) (fin t n d) p q h)) (le_of_eq (mul_right_comm (n * up d) (down e) (2 ^ k)))))
