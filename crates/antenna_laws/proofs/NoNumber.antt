-- A relative gain that isn't finite gives no number, where the peak is above 0.
use mathlib.Core.Path.{◌≡◌, refl}
use mathlib.Core.Bool.{Bool, true, false, true≢false, false≢true}
use Prim.Native.Nat.{ℕ, ◌+◌, ◌*◌}
use native.Mathlib.Nat.{zero-mul}
use native.Mathlib.Omega.{arith}
use borrow.Author.Tests.{ltb-false}
use lib.IntN.{ℤ}
use lib.Ieee.{Float, nan, inf, fin, up, down, add, mul, div, lt, le, eq, of_bits}
use lib.Ieee.Scale.{finite}
use Rattle.logarithm.specs.Logarithm.{logarithm_times}
use Rattle.floats.specs.Ops.{◌⊘◌, +0}
use Rattle.antenna.specs.Gain.{floored, ratio_level, decibels_of, graded}

-- neither below 0 nor 0
pub no_sign : (s : Bool) (m : ℕ) (e : ℤ) → lt (fin s m e) +0 ≡ false → eq (fin s m e) +0 ≡ false → s ≡ false
unfolding lt eq of_bits
no_sign false m e l n = refl
no_sign true m e l n =
    let nothing : m * up e * 1 ≡ 0 = omega (arith, zero-mul (down e), ltb-false 0 (m * up e * 1 + 0 * down e) l) in
    rw (zero-mul, nothing) at n

-- a ratio that isn't finite has no logarithm
ratio_infinite : ratio_level (inf false) ≡ nan
unfolding ratio_level logarithm_times lt le eq mul of_bits
ratio_infinite = refl

ratio-none : ratio_level nan ≡ nan
unfolding ratio_level logarithm_times lt le eq mul of_bits
ratio-none = refl

by_infinity : (s : Bool) (m : ℕ) (e : ℤ) → s ≡ false → ratio_level (inf false ⊘ fin s m e) ≡ nan
unfolding div
by_infinity s m e p = rw p ratio_infinite

module _ (z6 giso : Float) (level : finite z6 ≡ true) (low : lt z6 +0 ≡ false) where
  infinite_ratio : (z : Float) → finite z ≡ true → lt z +0 ≡ false → eq z +0 ≡ false → ratio_level (inf false ⊘ z) ≡ nan
  infinite_ratio nan f l n = absurd (false≢true f)
  infinite_ratio (inf s) f l n = absurd (false≢true f)
  infinite_ratio (fin s m e) f l n = by_infinity s m e (no_sign s m e l n)

  no_ratio : (z9 : Float) → finite z9 ≡ false → lt z9 +0 ≡ false → eq z6 +0 ≡ false → ratio_level (z9 ⊘ z6) ≡ nan
  unfolding div lt of_bits
  no_ratio nan f l n = ratio-none
  no_ratio (inf true) f l n = absurd (true≢false l)
  no_ratio (inf false) f l n = infinite_ratio z6 level low n
  no_ratio (fin s m e) f l n = absurd (true≢false f)

  no_number : (z9 : Float) → finite z9 ≡ false → lt z9 +0 ≡ false → eq z6 +0 ≡ false → decibels_of z9 z6 giso ≡ nan
  unfolding decibels_of floored lt add
  no_number z9 f l n = rw (n, no_ratio z9 f l n)

  -- so two of them are answered alike
  pub graded-alike : (x y : Float) → finite x ≡ false → lt x +0 ≡ false → finite y ≡ false → lt y +0 ≡ false
      → graded z6 (decibels_of x z6 giso) ≡ graded z6 (decibels_of y z6 giso)
  unfolding decibels_of
  graded-alike x y f l g k = go (eq z6 +0) refl
    where
      go : (b : Bool) → eq z6 +0 ≡ b → graded z6 (decibels_of x z6 giso) ≡ graded z6 (decibels_of y z6 giso)
      go true e = rw e
      go false e = rw (no_number x f l e, no_number y g k e)
