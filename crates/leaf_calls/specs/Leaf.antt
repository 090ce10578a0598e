-- The elementary functions by number, bits in and bits out. Definitions only.
use Rattle.std.specs.Prelude.{ℕ, cond, eqb, Float}
use Rattle.std.specs.Float.{nan, binary32}
use Rattle.std.specs.Float.Ieee.{of_bits, to_bits}
use Rattle.sine.specs.Sine.{sine, cosine}
use Rattle.logarithm.specs.Logarithm.{ln_of, log10_of}
use Rattle.power.specs.Power.{powf_of}
use Rattle.arctangent.specs.Arctangent.{atan_of}
use Rattle.root.specs.Root.{sqrt_of}

-- 0 sin, 1 cos, 2 ln, 3 log10, 4 powf, 5 atan, 6 sqrt; any other number answers a NaN. Only powf reads y
unfoldable pub leaf : ℕ → Float → Float → Float
leaf which x y =
    cond (eqb which 0) (sine x)
    (cond (eqb which 1) (cosine x)
    (cond (eqb which 2) (ln_of x)
    (cond (eqb which 3) (log10_of x)
    (cond (eqb which 4) (powf_of x y)
    (cond (eqb which 5) (atan_of x)
    (cond (eqb which 6) (sqrt_of x) nan))))))

-- the same over bit patterns: `of_bits` reads each NaN pattern as the one NaN, and `to_bits` writes that as 7FC00000
unfoldable pub leaf_of : ℕ → ℕ → ℕ → ℕ
leaf_of which a b = to_bits binary32 (leaf which (of_bits binary32 a) (of_bits binary32 b))
