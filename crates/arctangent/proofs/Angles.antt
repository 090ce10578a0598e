-- The laws of atan: each halving at least halves t, the series is never negative and at most its first term, and atan is odd.
use mathlib.Core.Path.{◌≡◌, refl, sym, ap, ◌∙◌, subst}
use mathlib.Core.Bool.{Bool, true, false, cond, true≢false}
use Prim.Native.Nat.{ℕ, zero, suc, ◌+◌, ◌-◌, ◌*◌, ◌/◌, ◌^◌, ◌≤◌, ◌<◌, zero-le}
use native.Mathlib.Nat.{le-add_right, le_trans, le_of_eq, le_of_lt, lt_of_lt_of_le, mul-le-mul, mul-le-mul_left, div-mul-le_self, div-le_self, mul-one, one-mul, mul-pos, zero-lt-suc}
use native.Mathlib.Omega.{arith}
use lib.IntN.{ℤ, pos, nat_abs, ◌-ℤ◌, ◌*ℤ◌}
use lib.Pow.{pow_pos}
use lib.Dec.{T, eqb, eqb-suc-zero}
use borrow.Author.Tests.{ltb-true, ltb-false}
use lib.Ieee.{Float, nan, inf, fin, binary32, neg, up, down, le, lt, div, round, is_nan}
use lib.Ieee.Fits.{up_pos}
use lib.Ieee.Order.{round_mono}
use lib.Ieee.Nearest.{div_mono}
use Rattle.std.specs.Float.{float_with_sign}
use Rattle.arctangent.specs.Arctangent.{halved, next_power, series, angle, one, atan_of, atan_of_size}
use Rattle.root.specs.Root.{root}
use Rattle.numeric.specs.Inner.{unsigned}
use Rattle.numeric.proofs.Comparisons.{at_most_of_le, AtMost}
use Rattle.numeric.proofs.Integers.{minus}
use Rattle.root.proofs.Whole.{root_ge}
use Rattle.numeric.proofs.Signs.{unsigned-round, neg-neg}

-- ---- halving

root-from : (t : ℕ) → 2 ^ 30 ≤ root (2 ^ 60 + t * t)
root-from t = root_ge (2 ^ 30) (2 ^ 60 + t * t) (le-add_right (2 ^ 60) (t * t))

pub halved-le : (t : ℕ) → t ≤ 2 ^ 30 → halved t * 2 ≤ t
halved-le t h =
    let d = 2 ^ 30 + root (2 ^ 60 + t * t) in
    let wide : 2 ^ 31 ≤ d = omega (arith, root-from t) in
    let a : halved t * 2 ^ 31 ≤ t * 2 ^ 30 = le_trans (mul-le-mul_left (halved t) wide) (div-mul-le_self (t * 2 ^ 30) d) in
    omega arith

-- ---- the series

pub next_le : (t p : ℕ) → t ≤ 2 ^ 30 → next_power t p ≤ p
next_le t p h = le_trans (shrink (p * t / 2 ^ 30)) (shrink p)
  where
    shrink : (q : ℕ) → q * t / 2 ^ 30 ≤ q
    shrink q = let a : q * t ≤ q * 2 ^ 30 = mul-le-mul_left q h in omega arith

pub record Series (t n d p k : ℕ) : Type 0 where
  pub is : series t n d p ≡ pos k
  pub under : k ≤ p / d

-- the terms fall, so that what is taken from a term is no more than it
fall : (p q d : ℕ) → 0 < d → q ≤ p → q / (d + 2) ≤ p / d
fall p q d D h = div_mono q (d + 2) p d (omega arith) D (mul-le-mul h (le-add_right d 2))

series_step : (t n d p k : ℕ) → t ≤ 2 ^ 30 → 0 < d → Series t n (d + 2) (next_power t p) k → Series t (suc n) d p (p / d - k)
unfolding series
series_step t n d p k T D s =
    let small : k ≤ p / d = le_trans s.under (fall p (next_power t p) d D (next_le t p T)) in
    record { is = ap (λ (z : ℤ). pos (p / d) -ℤ z) s.is ∙ minus (p / d) k small; under = omega arith }

series_law : (t n d p : ℕ) → t ≤ 2 ^ 30 → 0 < d → (k : ℕ) × Series t n d p k
unfolding series
series_law t zero d p T D = (0, record { is = refl; under = zero-le })
series_law t (suc n) d p T D = let s = series_law t n (d + 2) (next_power t p) T (omega arith) in (p / d - s.0, series_step t n d p s.0 T D s.1)

-- what the series is, is under its first term
series_of : (t n d p r : ℕ) → t ≤ 2 ^ 30 → 0 < d → series t n d p ≡ pos r → Series t n d p r
series_of t n d p r T D e =
    let s = series_law t n d p T D in
    let same : s.0 ≡ r = ap nat_abs (sym s.1.is ∙ e) in
    record { is = e; under = subst (λ (k : ℕ). k ≤ p / d) same s.1.under }

-- the same with l terms left
pub series-more : (t l d p r : ℕ) → t ≤ 2 ^ 30 → 0 < d → 0 < l → series t (l - 1) (d + 2) (next_power t p) ≡ pos r → Series t l d p (p / d - r)
series-more t l d p r T D P e =
    let back : suc (l - 1) ≡ l = omega arith in
    subst (λ (n : ℕ). Series t n d p (p / d - r)) back (series_step t (l - 1) d p r T D (series_of t (l - 1) (d + 2) (next_power t p) r T (omega arith) e))

pub term-under : (t l d p r : ℕ) → t ≤ 2 ^ 30 → 0 < d → series t (l - 1) (d + 2) (next_power t p) ≡ pos r → r ≤ p / d
term-under t l d p r T D e = le_trans (series_of t (l - 1) (d + 2) (next_power t p) r T (omega arith) e).under (fall p (next_power t p) d D (next_le t p T))

-- ---- the angle

pub record Angle (t r : ℕ) : Type 0 where
  pub is : angle t ≡ pos r
  pub under : r ≤ 2 ^ 30

-- h is t halved twice, and k the series
pub angle_of : (t k : ℕ) → t ≤ 2 ^ 30 → series (halved (halved t)) 7 1 (halved (halved t)) ≡ pos k → Angle t (4 * k)
unfolding angle
angle_of t k T e =
    let g = halved t in
    let h = halved g in
    let a = halved-le t T in
    let b = halved-le g (omega arith) in
    let u : k ≤ h / 1 = (series_of h 7 1 h k (omega arith) (omega arith) e).under in
    record { is = ap (λ (z : ℤ). pos 4 *ℤ z) e; under = omega (arith, div-le_self h 1) }

pub angle_law : (t r : ℕ) → t ≤ 2 ^ 30 → angle t ≡ pos r → r ≤ 2 ^ 30
angle_law t r T e =
    let h = halved (halved t) in
    let a = halved-le t T in
    let b = halved-le (halved t) (omega arith) in
    let s = series_law h 7 1 h (omega arith) (omega arith) in
    let q = angle_of t s.0 T s.1.is in
    subst (λ (i : ℕ). i ≤ 2 ^ 30) (ap nat_abs (sym q.is ∙ e)) q.under

-- ---- the fraction: a itself up to 1, and 1 / a above

round_one : round binary32 false 1 1 ≡ one
unfolding round
round_one = refl

-- a quotient of at most 1
quotient_at_most : (a c : ℕ) → 0 < c → a ≤ c → AtMost 0 (round binary32 false a c)
quotient_at_most a c C h =
    at_most_of_le 0 (round binary32 false a c) (unsigned-round binary32 a c)
    (subst (λ (x : Float). T (le (round binary32 false a c) x)) round_one (round_mono binary32 a c 1 1 C (pow_pos 0) (le_trans (le_of_eq (mul-one a)) (le_trans h (le_of_eq (sym (one-mul c)))))))

pub itself_at_most : (a : Float) → T (unsigned a) → lt one a ≡ false → AtMost 0 a
unfolding lt
itself_at_most nan u l = absurd u
itself_at_most (inf true) u l = absurd u
itself_at_most (inf false) u l = absurd (true≢false l)
itself_at_most (fin true m e) u l = absurd u
itself_at_most (fin false m e) u l =
    (tt, le_trans (le_of_eq (sym (mul-one (m * up e)))) (ltb-false (1 * 1 * down e) (m * up e * 1) l))

pub inverse_at_most : (a : Float) → T (unsigned a) → lt one a ≡ true → AtMost 0 (div binary32 one a)
unfolding lt div
inverse_at_most nan u l = absurd u
inverse_at_most (inf true) u l = absurd u
inverse_at_most (inf false) u l = (tt, zero-le)
inverse_at_most (fin true m e) u l = absurd u
inverse_at_most (fin false zero e) u l = absurd (none (ltb-true (1 * 1 * down e) (zero * up e * 1) l))
  where
    none : 1 * 1 * down e < zero * up e * 1 → ⊥
    none h = omega arith
inverse_at_most (fin false (suc m) e) u l =
    subst (λ (b : Bool). AtMost 0 (cond b (cond (eqb 1 0) nan (inf false)) (round binary32 false (1 * 1 * down e) (suc m * up e * 1)))) (sym (eqb-suc-zero m))
    (quotient_at_most (1 * 1 * down e) (suc m * up e * 1) (lt_of_lt_of_le (mul-pos (mul-pos (zero-lt-suc m) (up_pos e)) (pow_pos 0)) (le_of_eq refl)) (le_of_lt (ltb-true (1 * 1 * down e) (suc m * up e * 1) l)))

-- ---- oddness

pub atan_odd : (x : Float) → atan_of (neg x) ≡ neg (atan_of x)
unfolding atan_of neg is_nan float_with_sign
atan_odd nan = refl
atan_odd (inf true) = sym (neg-neg (atan_of_size (inf false)))
atan_odd (inf false) = refl
atan_odd (fin true m e) = sym (neg-neg (atan_of_size (fin false m e)))
atan_odd (fin false m e) = refl
