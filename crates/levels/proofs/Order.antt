-- The order of finite floats: `lt` is asymmetric, and what lies beyond a level lies beyond all that don't. Assumes nothing.
use mathlib.Core.Path.{◌≡◌, refl, sym, ap, ◌∙◌}
use mathlib.Core.Bool.{Bool, true, false, not, false≢true}
use Prim.Native.Nat.{ℕ, ◌+◌, ◌*◌, ◌<◌}
use native.Mathlib.Nat.{zero-mul, add-mul, mul-le-mul_right, mul-lt-mul_of_pos_right, mul_right_comm, add_comm}
use native.Mathlib.Omega.{arith}
use lib.Dec.{ltb}
use lib.IntN.{ℤ}
use lib.Ieee.{Float, nan, inf, fin, up, down, neg, below, lt}
use lib.Ieee.Fits.{down_pos}
use lib.Ieee.Scale.{finite}
use borrow.Author.Tests.{ltb-true, ltb-false, lt-ltb, le-ltb}

-- ---- numbers with signs

ltb-scaled : (a b k : ℕ) → 0 < k → ltb a b ≡ ltb (a * k) (b * k)
ltb-scaled a b k h = by (ltb a b) refl
  where
    by : (t : Bool) → ltb a b ≡ t → t ≡ ltb (a * k) (b * k)
    by true e = sym (lt-ltb (a * k) (b * k) (mul-lt-mul_of_pos_right (ltb-true a b e) h))
    by false e = sym (le-ltb (a * k) (b * k) (mul-le-mul_right k (ltb-false a b e)))

below-scaled : (s t : Bool) (a b k : ℕ) → 0 < k → below s a t b ≡ below s (a * k) t (b * k)
below-scaled false false a b k h = ltb-scaled a b k h
below-scaled false true a b k h = refl
below-scaled true false a b k h = ltb-scaled 0 (a + b) k h ∙ (rw (zero-mul, add-mul))
below-scaled true true a b k h = ltb-scaled b a k h

below_asymmetric : (s t : Bool) (a b : ℕ) → below s a t b ≡ true → below t b s a ≡ false
below_asymmetric false false a b h = le-ltb b a (omega (arith, ltb-true a b h))
below_asymmetric false true a b h = absurd (false≢true h)
below_asymmetric true false a b h = refl
below_asymmetric true true a b h = le-ltb a b (omega (arith, ltb-true b a h))

-- ±g < ±x, and not ±g < ±y: then ±y < ±x
below_across : (s t u : Bool) (g x y : ℕ) → below s g t x ≡ true → below s g u y ≡ false → below u y t x ≡ true
below_across false false false g x y p q = lt-ltb y x (omega (arith, ltb-true g x p, ltb-false g y q))
below_across false false true g x y p q = lt-ltb 0 (y + x) (omega (arith, ltb-true g x p))
below_across false true u g x y p q = absurd (false≢true p)
below_across true false false g x y p q = lt-ltb y x (omega (arith, ltb-true 0 (g + x) p, ltb-false 0 (g + y) q))
below_across true false true g x y p q = lt-ltb 0 (y + x) (omega (arith, ltb-true 0 (g + x) p, ltb-false y g q))
below_across true true false g x y p q = absurd (omega (arith, ltb-true x g p, ltb-false 0 (g + y) q))
below_across true true true g x y p q = lt-ltb x y (omega (arith, ltb-true x g p, ltb-false y g q))

-- the same from the other side, both signs turned
turned : (s t : Bool) (a b : ℕ) → below s a t b ≡ below (not t) b (not s) a
turned false false a b = refl
turned false true a b = refl
turned true false a b = ap (ltb 0) (add_comm a b)
turned true true a b = refl

-- ---- floats

-- two floats over a third one's denominator too
common : (s t : Bool) (m n : ℕ) (e d c : ℤ) → lt (fin s m e) (fin t n d) ≡ below s (m * up e * down d * down c) t (n * up d * down e * down c)
unfolding lt
common s t m n e d c = below-scaled s t (m * up e * down d) (n * up d * down e) (down c) (down_pos c)

pub lt_asymmetric : (x y : Float) → finite x ≡ true → finite y ≡ true → lt x y ≡ true → lt y x ≡ false
unfolding lt
lt_asymmetric nan y f h p = absurd (false≢true f)
lt_asymmetric (inf s) y f h p = absurd (false≢true f)
lt_asymmetric (fin s m e) nan f h p = absurd (false≢true h)
lt_asymmetric (fin s m e) (inf t) f h p = absurd (false≢true h)
lt_asymmetric (fin s m e) (fin t n d) f h p = below_asymmetric s t (m * up e * down d) (n * up d * down e) p

-- three finite floats, over one denominator
module _ (s t u : Bool) (m n o : ℕ) (e d c : ℤ) where
  g : ℕ
  g = m * up e * down d * down c

  x : ℕ
  x = n * up d * down e * down c

  y : ℕ
  y = o * up c * down e * down d

  g_x : lt (fin s m e) (fin t n d) ≡ below s g t x
  unfolding g x
  g_x = common s t m n e d c

  g_y : lt (fin s m e) (fin u o c) ≡ below s g u y
  unfolding g y
  g_y = common s u m o e c d ∙ ap (λ (k : ℕ). below s k u y) (mul_right_comm (m * up e) (down c) (down d))

  y-x : lt (fin u o c) (fin t n d) ≡ below u y t x
  unfolding x y
  y-x = common u t o n c d e ∙ (rw (mul_right_comm (o * up c) (down d) (down e), mul_right_comm (n * up d) (down c) (down e)))

  across : lt (fin s m e) (fin t n d) ≡ true → lt (fin s m e) (fin u o c) ≡ false → lt (fin u o c) (fin t n d) ≡ true
  across p q = y-x ∙ below_across s t u g x y (sym g_x ∙ p) (sym g_y ∙ q)

-- what lies above g lies above all that don't
pub above_across : (g x y : Float) → finite g ≡ true → finite x ≡ true → finite y ≡ true → lt g x ≡ true → lt g y ≡ false → lt y x ≡ true
above_across nan x y f h k p q = absurd (false≢true f)
above_across (inf s) x y f h k p q = absurd (false≢true f)
above_across (fin s m e) nan y f h k p q = absurd (false≢true h)
above_across (fin s m e) (inf t) y f h k p q = absurd (false≢true h)
above_across (fin s m e) (fin t n d) nan f h k p q = absurd (false≢true k)
above_across (fin s m e) (fin t n d) (inf u) f h k p q = absurd (false≢true k)
above_across (fin s m e) (fin t n d) (fin u o c) f h k p q = across s t u m n o e d c p q

neg-finite : (x : Float) → finite x ≡ finite (neg x)
unfolding neg
neg-finite nan = refl
neg-finite (inf s) = refl
neg-finite (fin s m e) = refl

lt-neg : (x y : Float) → finite x ≡ true → finite y ≡ true → lt x y ≡ lt (neg y) (neg x)
unfolding lt neg
lt-neg nan y f h = absurd (false≢true f)
lt-neg (inf s) y f h = absurd (false≢true f)
lt-neg (fin s m e) nan f h = absurd (false≢true h)
lt-neg (fin s m e) (inf t) f h = absurd (false≢true h)
lt-neg (fin s m e) (fin t n d) f h = turned s t (m * up e * down d) (n * up d * down e)

-- and what lies under g under all that don't
pub under_across : (g x y : Float) → finite g ≡ true → finite x ≡ true → finite y ≡ true → lt x g ≡ true → lt y g ≡ false → lt x y ≡ true
under_across g x y f h k p q =
    lt-neg x y h k
    ∙ above_across (neg g) (neg x) (neg y) (sym (neg-finite g) ∙ f) (sym (neg-finite x) ∙ h) (sym (neg-finite y) ∙ k) (sym (lt-neg x g h f) ∙ p) (sym (lt-neg y g k f) ∙ q)
