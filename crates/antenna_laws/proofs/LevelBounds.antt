-- The number of a gain that is at most the peak lies between -30 and the larger of -30 and the maximum gain. No sum overflows upward, since
-- what is added to the maximum gain is at most 0; one that overflowed downward would be -30.
use mathlib.Core.Path.{◌≡◌, refl, subst}
use mathlib.Core.Bool.{Bool, true, false, cond, true≢false}
use Prim.Native.Nat.{zero, suc}
use native.Mathlib.Nat.{zero-mul}
use native.Mathlib.Omega.{arith}
use lib.Dec.{T, lt→ltb}
use lib.Ieee.{Float, nan, inf, fin, binary32, neg, lt, le, eq, fits, of_bits}
use lib.Ieee.Positive.{positive}
use lib.Ieee.Scale.{finite}
use Rattle.logarithm.specs.Logarithm.{log10_of}
use Rattle.logarithm.proofs.Laws.{log10_at_most_zero}
use Rattle.floats.specs.Ops.{◌⊕◌, ◌⊗◌, ◌⊘◌, +0}
use Rattle.floats.specs.Literals.{one, twenty}
use Rattle.floats.proofs.Bounds.{quotient_at_most_one, sum-at-most, product_at_most_zero}
use Rattle.floats.proofs.Order.{le_trans_finite}
use Rattle.antenna.specs.Gain.{floor_level, floored, ratio_level, decibels_of}
use Rattle.antenna.specs.Literals.{floor_ratio}
use Rattle.plate_row.specs.Row.{larger}
use Rattle.plate_row.proofs.Greatest.{larger_bounds}
use Rattle.antenna_laws.proofs.NoNumber.{no_sign}
use Rattle.search.proofs.Strict.{le_itself, lt-le, eq-le, le_of_not_lt, not_lt_of_le, lt_of_not_le}

zero-finite : T (finite +0)
unfolding of_bits
zero-finite = tt

floor-finite : T (finite floor_level)
unfolding of_bits neg
floor-finite = tt

floor-below-zero : T (le floor_level +0)
unfolding le of_bits neg
floor-below-zero = tt

zero-below-ratio : T (le +0 floor_ratio)
unfolding le lt of_bits
zero-below-ratio = tt

-- finite, and from -30 to z
pub record FloorTo (z g : Float) : Type 0 where
  pub real : T (finite g)
  pub from : T (le floor_level g)
  pub to : T (le g z)

-- ---- a number x of at most z, floored

-- where it isn't below -30
at-least-finite : (x z : Float) → T (finite z) → T (le x z) → lt x floor_level ≡ false → T (finite x)
unfolding le lt of_bits neg
at-least-finite nan z p h l = absurd h
at-least-finite (inf true) z p h l = absurd (true≢false l)
at-least-finite (inf false) nan p h l = absurd p
at-least-finite (inf false) (inf s) p h l = absurd p
at-least-finite (inf false) (fin s m e) p h l = absurd h
at-least-finite (fin s m e) z p h l = tt

floored_to : (x z : Float) → T (finite z) → T (le floor_level z) → T (le x z) → FloorTo z (floored x)
unfolding floored
floored_to x z p f h = go (lt x floor_level) refl
  where
    go : (b : Bool) → lt x floor_level ≡ b → FloorTo z (cond b floor_level x)
    go true e = record { real = floor-finite; from = le_itself floor_level floor-finite; to = f }
    go false e = let q = at-least-finite x z p h e in record { real = q; from = le_of_not_lt x floor_level q floor-finite e; to = h }

-- ---- a ratio of at most 1

above_zero : (z : Float) → T (finite z) → lt z +0 ≡ false → eq z +0 ≡ false → T (positive z)
unfolding eq of_bits
above_zero nan p l n = absurd p
above_zero (inf s) p l n = absurd p
above_zero (fin true m e) p l n = absurd (true≢false (no_sign true m e l n))
above_zero (fin false zero e) p l n = absurd (true≢false (rw (zero-mul, zero-mul, zero-mul) at n))
above_zero (fin false (suc m) e) p l n = lt→ltb 0 (suc m) (omega arith)

-- above 0.03162278 it has a logarithm
not-zero : (x : Float) → le x floor_ratio ≡ false → eq x +0 ≡ false
not-zero x l = go (eq x +0) refl
  where
    go : (b : Bool) → eq x +0 ≡ b → b ≡ false
    go false e = refl
    go true e = absurd (subst T l (le_trans_finite x +0 floor_ratio zero-finite (eq-le x +0 e) zero-below-ratio))

has_logarithm : (x : Float) → T (le x one) → le x floor_ratio ≡ false → T (positive x)
unfolding le lt of_bits
has_logarithm nan h l = absurd h
has_logarithm (inf true) h l = absurd (true≢false l)
has_logarithm (inf false) h l = absurd h
has_logarithm (fin s m e) h l =
    let x = fin s m e in
    let above = le_trans_finite +0 floor_ratio x tt zero-below-ratio (lt-le floor_ratio x (lt_of_not_le x floor_ratio tt tt l)) in
    above_zero x tt (not_lt_of_le x +0 tt zero-finite above) (not-zero x l)

twenty-positive : T (positive twenty)
unfolding of_bits
twenty-positive = tt

ratio-at-most-zero : (dgs : Float) → T (le dgs one) → T (le (ratio_level dgs) +0)
unfolding ratio_level
ratio-at-most-zero dgs h = go (le dgs floor_ratio) refl
  where
    go : (b : Bool) → le dgs floor_ratio ≡ b → T (le (cond b floor_level (twenty ⊗ log10_of dgs)) +0)
    go true e = floor-below-zero
    go false e = product_at_most_zero twenty (log10_of dgs) twenty-positive (log10_at_most_zero dgs (has_logarithm dgs h e) h)

-- ---- the number
-- the gain z9 at most the peak z6, which is 0 or more; the maximum gain a finite f32
pub number-between : (z9 z6 giso : Float) → T (finite z9) → T (finite z6) → T (le +0 z6) → T (le z9 z6) → T (finite giso) → T (fits binary32 giso)
    → FloorTo (larger floor_level giso) (decibels_of z9 z6 giso)
unfolding decibels_of
number-between z9 z6 giso p q z h g f = go (eq z6 +0) refl
  where
    go : (b : Bool) → eq z6 +0 ≡ b → FloorTo (larger floor_level giso) (cond b floor_level (floored (floored (ratio_level (z9 ⊘ z6)) ⊕ giso)))
    go true e = record { real = floor-finite; from = le_itself floor_level floor-finite; to = (larger_bounds floor_level giso floor-finite g).left }
    go false e =
        let top = larger_bounds floor_level giso floor-finite g in
        let ratio = quotient_at_most_one z9 z6 p (above_zero z6 q (not_lt_of_le z6 +0 q zero-finite z) e) h in
        let r = floored_to (ratio_level (z9 ⊘ z6)) +0 zero-finite floor-below-zero (ratio-at-most-zero (z9 ⊘ z6) ratio) in
        let level = floored (ratio_level (z9 ⊘ z6)) in
        floored_to (level ⊕ giso) (larger floor_level giso) top.real top.left
        (le_trans_finite (level ⊕ giso) giso (larger floor_level giso) g (sum-at-most level giso r.real g f r.to) top.right)
