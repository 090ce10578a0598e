-- The tables that set-up leaves, doctored ends included: the cosines lie from -1 to 1, and so do the directions of the two crossed dipoles.
-- One test, computed over the ninety-one degrees.
use mathlib.Core.Bool.{Bool, true, false, ◌&&◌}
use Prim.Native.Nat.{ℕ, ◌≤◌}
use native.Mathlib.Omega.{arith}
use lib.Dec.{T}
use lib.ListN.{get_or}
use lib.Ieee.{nan, of_int, sub, mul, le, of_bits}
use lib.Ieee.Fits.{and_l, and_r}
use Rattle.std.specs.Float.{float_with_sign}
use Rattle.numeric.specs.Float.{mag}
use Rattle.numeric.specs.Rounding.{F}
use Rattle.sine.specs.Sine.{sine, cosine, quarter, past, next_term, sums, cut, sine_units, cosine_units, sine_at, cosine_at}
use Rattle.floats.specs.Ops.{◌⊖◌, ◌⊗◌}
use Rattle.floats.specs.Literals.{one}
use Rattle.floats.specs.Filled.{filled_to}
use Rattle.floats.proofs.Below.{all, all-at}
use Rattle.trig.specs.Trig.{trig_tables}
use Rattle.directions.specs.Azimuth.{signed}
use Rattle.directions.specs.Literals.{cos45}
use Rattle.pattern.proofs.CrossedMirror.{Bounded}

-- with either sign
each_way : (Bool → Bool) → Bool
each_way f = f true && f false

at_each : (f : Bool → Bool) → T (each_way f) → (b : Bool) → T (f b)
unfolding each_way
at_each f t true = and_l (f true) (f false) t
at_each f t false = and_r (f true) (f false) t

cosine_in : ℕ → Bool
cosine_in j = le (mag (get_or trig_tables.b j nan)) one

dipole_in : ℕ → Bool → Bool → Bool
dipole_in j an bn = le (mag (cos45 ⊗ (signed bn (get_or trig_tables.b j nan) ⊖ signed an (get_or trig_tables.a j nan)))) one

dipoles_in : ℕ → Bool
dipoles_in j = each_way (λ (an : Bool). each_way (dipole_in j an))

in_bounds : ℕ → Bool
in_bounds j = cosine_in j && dipoles_in j

tested : T (all in_bounds 91)
unfolding in_bounds dipoles_in dipole_in cosine_in each_way trig_tables filled_to sine cosine quarter past next_term sums cut sine_units cosine_units sine_at cosine_at F of_int sub mul le of_bits float_with_sign
tested = tt

inside : (j : ℕ) → j ≤ 90 → T (cosine_in j && dipoles_in j)
unfolding in_bounds
inside j h = all-at in_bounds 91 tested j (omega arith)

pub tables_bounded : Bounded trig_tables
unfolding dipoles_in dipole_in cosine_in
tables_bounded =
    record {
      cosines = λ j h. and_l (cosine_in j) (dipoles_in j) (inside j h);
      dipoles = λ j h an bn. at_each (dipole_in j an) (at_each (λ (s : Bool). each_way (dipole_in j s)) (and_r (cosine_in j) (dipoles_in j) (inside j h)) an) bn;
    }
