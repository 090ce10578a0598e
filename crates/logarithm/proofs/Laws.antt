-- What crates above may use of the logarithms, of every positive finite number: each law stands with its name in the module that proves it, and all of them stand here.
-- Every float that a crate above has is held by binary32, which `fits` says.
use mathlib.Core.Path.{◌≡◌, subst}
use mathlib.Core.Bool.{not}
use Prim.Native.Nat.{ℕ, ◌^◌}
use lib.Dec.{T}
use lib.IntN.{pos, ◌+ℤ◌}
use lib.Signed.{◌≤ℤ◌}
use lib.Ieee.{Float, binary32, le, lt, fits, is_nan, of_bits}
use lib.Ieee.Positive.{positive}
use Rattle.logarithm.specs.Logarithm.{binary_logarithm, PowerAtMost, PowerAbove, log10_of, ln_of}
use Rattle.logarithm.proofs.BoundsAndOrder as BoundsAndOrder
use Rattle.logarithm.proofs.Domain.{logarithm_domain}
use Rattle.logarithm.proofs.Edges.{log10_one}

pub logarithm_order : (x y : Float) → T (positive x) → T (positive y) → T (le x y) → binary_logarithm x ≤ℤ binary_logarithm y
logarithm_order = BoundsAndOrder.logarithm_never_falls

pub logarithm_bounds : (x : Float) → T (fits binary32 x) → T (positive x) → (u : ℕ) → u ≡ 2 ^ 30
    → PowerAtMost (binary_logarithm x) x u × PowerAbove (binary_logarithm x +ℤ pos 4) x u
logarithm_bounds = BoundsAndOrder.logarithm_bounds

pub log10_order : (x y : Float) → T (positive x) → T (positive y) → T (le x y) → T (le (log10_of x) (log10_of y))
log10_order = BoundsAndOrder.logarithm_times_mono 5050445

-- of at most 1 it is at most 0
pub log10_at_most_zero : (x : Float) → T (positive x) → T (le x (of_bits binary32 0x3f800000)) → T (le (log10_of x) (of_bits binary32 0))
log10_at_most_zero x p h = subst (λ (z : Float). T (le (log10_of x) z)) log10_one (log10_order x (of_bits binary32 0x3f800000) p one-positive h)
  where
    one-positive : T (positive (of_bits binary32 0x3f800000))
    one-positive = unfold le in unfold lt in unfold of_bits in tt

pub ln_order : (x y : Float) → T (positive x) → T (positive y) → T (le x y) → T (le (ln_of x) (ln_of y))
ln_order = BoundsAndOrder.logarithm_times_mono 11629080

-- log10 and ln are a NaN exactly outside the positive finite numbers
pub log10_domain : (x : Float) → is_nan (log10_of x) ≡ not (positive x)
log10_domain = logarithm_domain 5050445

pub ln_domain : (x : Float) → is_nan (ln_of x) ≡ not (positive x)
ln_domain = logarithm_domain 11629080
