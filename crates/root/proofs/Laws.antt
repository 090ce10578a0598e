-- What crates above may use of the square roots: each law stands with its name in the module that proves it, and all of them stand here.
-- Every float that a crate above has is held by binary32, which `fits` says.
use mathlib.Core.Path.{◌≡◌}
use mathlib.Core.Logic.{◌⊎◌}
use mathlib.Core.Bool.{true}
use Prim.Native.Nat.{ℕ}
use lib.Dec.{T}
use lib.IntN.{pos}
use lib.Ieee.{Float, fin, binary32, le, fits}
use lib.Ieee.Positive.{positive}
use Rattle.numeric.specs.Float.{mag}
use Rattle.root.specs.Root.{IsRoot, root, sqrt_of, IsSqrt}
use Rattle.root.proofs.Whole as Whole
use Rattle.root.proofs.Nearest as Nearest
use Rattle.root.proofs.OrderAndSign as OrderAndSign

-- the integer one is the largest number whose square is at most n, and nothing else is
pub root_is : (n : ℕ) → IsRoot n (root n)
root_is = Whole.root_is

pub root-only : (n r : ℕ) → IsRoot n r → r ≡ root n
root-only = Whole.root_unique

-- IEEE 754's squareRoot, and nothing else is
pub sqrt_is : (x : Float) → T (fits binary32 x) → IsSqrt x (sqrt_of x)
sqrt_is = Nearest.sqrt_is

pub sqrt_only : (x y : Float) → T (fits binary32 x) → IsSqrt x y → y ≡ sqrt_of x
sqrt_only = Nearest.sqrt_only

pub sqrt_order : (x y : Float) → T (positive x) → T (positive y) → T (le x y) → T (le (sqrt_of x) (sqrt_of y))
sqrt_order = OrderAndSign.sqrt_mono

pub sqrt_positive_lem : (x : Float) → T (fits binary32 x) → T (positive x) → T (positive (sqrt_of x))
sqrt_positive_lem = OrderAndSign.sqrt_positive_lem

-- the root has no sign, unless x is -0
pub sqrt_sign : (x : Float) → T (fits binary32 x) → (mag (sqrt_of x) ≡ sqrt_of x) ⊎ (x ≡ fin true 0 (pos 0))
sqrt_sign = OrderAndSign.sqrt_clear
