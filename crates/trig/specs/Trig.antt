-- `trigfun`: the sines and cosines of the whole degrees 0 to 90, with the source's ends. Definitions only.
use Rattle.std.specs.Prelude.{ℕ, ◌<◌, List, ◌≡◌, get_or, set, Float}
use Rattle.std.specs.Float.{nan}
use Rattle.sine.specs.Sine.{sine, cosine}
use Rattle.floats.specs.Ops.{◌⊗◌, count}
use Rattle.floats.specs.Literals.{q1}
use Rattle.trig.specs.Literals.{n0·005, n90·05, n90·105}
use Rattle.model.specs.declared.record.Trig.{Trig}
use Rattle.floats.specs.Filled.{filled_to}

-- the sines and the cosines of the whole degrees below n
abbrev pub sines_to : ℕ → List Float
sines_to n = filled_to (λ (z : ℕ). sine (count z ⊗ q1)) 91 n

abbrev pub cosines_to : ℕ → List Float
cosines_to n = filled_to (λ (z : ℕ). cosine (count z ⊗ q1)) 91 n

-- the doctored entries: a(90) is the sine of 90.05 degrees
abbrev pub sine90 : Float
sine90 = sine (n90·05 ⊗ q1)

-- b(90) is the cosine of 90.105 degrees
abbrev pub cosine90 : Float
cosine90 = cosine (n90·105 ⊗ q1)

-- and b(0) the cosine of 0.005 radians
abbrev pub cosine0 : Float
cosine0 = cosine n0·005

unfoldable pub trig_tables : Trig
trig_tables = record { a = set (sines_to 91) 90 sine90; b = set (set (cosines_to 91) 90 cosine90) 0 cosine0 }

-- what such tables hold, degree by degree
pub record DegreeTables (t : Trig) : Type 0 where
  pub sine_of : (z : ℕ) → z < 90 → get_or t.a z nan ≡ sine (count z ⊗ q1)
  pub sine_90 : get_or t.a 90 nan ≡ sine90
  pub cosine_of : (z : ℕ) → 0 < z → z < 90 → get_or t.b z nan ≡ cosine (count z ⊗ q1)
  pub cosine_90 : get_or t.b 90 nan ≡ cosine90
  pub cosine_0 : get_or t.b 0 nan ≡ cosine0
