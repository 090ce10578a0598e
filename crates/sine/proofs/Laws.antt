-- What crates above may use of the sine and the cosine: each law stands with its name in the module that proves it, and all of them stand here.
use mathlib.Core.Path.{◌≡◌}
use mathlib.Core.Bool.{false, not}
use Prim.Native.Nat.{ℕ, ◌^◌}
use lib.Dec.{T}
use lib.IntN.{pos}
use lib.Ieee.{Float, fin, neg, is_nan}
use Rattle.sine.specs.Sine.{UnitBounded, in_domain, sine, cosine, sine_units, cosine_units, past, exact_sums, denominator, Near}
use Rattle.sine.proofs.Domain as Domain
use Rattle.sine.proofs.Error as Error
use Rattle.sine.proofs.SignsAndBounds as SignsAndBounds

pub sine-odd : (x : Float) → sine (neg x) ≡ neg (sine x)
sine-odd = SignsAndBounds.sine-odd

pub cosine_even : (x : Float) → cosine (neg x) ≡ cosine x
cosine_even = SignsAndBounds.cosine_even

pub sine-zero : sine (fin false 0 (pos 0)) ≡ fin false 0 (pos 0)
sine-zero = SignsAndBounds.sine-zero

-- from -1 to 1
pub sine_bounds : (x : Float) → T (not (is_nan (sine x))) → UnitBounded (sine x)
sine_bounds = SignsAndBounds.sine_bounds

pub cosine_bounds : (x : Float) → T (not (is_nan (cosine x))) → UnitBounded (cosine x)
cosine_bounds = SignsAndBounds.cosine_bounds

-- a NaN exactly outside the domain
pub sine_domain : (x : Float) → is_nan (sine x) ≡ not (in_domain x)
sine_domain = Domain.sine_domain

pub cosine_domain : (x : Float) → is_nan (cosine x) ≡ not (in_domain x)
cosine_domain = Domain.cosine_domain

-- S and C, of every angle that the code reaches, are within 8 units of the same terms summed as exact fractions
pub sine_error : (n : ℕ) → Near (sine_units (past n)) (exact_sums (past n) 2 7 (past n)) (denominator 2 7) 8
sine_error = Error.sine_error_at

pub cosine_error : (n : ℕ) → Near (cosine_units (past n)) (exact_sums (past n) 1 8 (2 ^ 30)) (denominator 1 8) 8
cosine_error = Error.cosine_error_at
