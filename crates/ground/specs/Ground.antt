-- `parmprec`'s tables by elevation: the ground-reflection factors of types 1 to 4, 8 and 9, and the reflection itself for type 7. Definitions only.
use Rattle.std.specs.Prelude.{ℕ, get_or}
use Rattle.std.specs.Float.{nan}
use Rattle.model.specs.declared.record.Constants.{Constants}
use Rattle.model.specs.declared.record.Factors.{Factors}
use Rattle.model.specs.declared.record.Ground.{Ground}
use Rattle.model.specs.declared.record.Trig.{Trig}
use Rattle.floats.specs.Filled.{filled_to}
use Rattle.elevation.specs.Factors.{factors_at}

-- the factors on elevation u
abbrev pub factors_on : ℕ → Constants → Trig → ℕ → Factors
factors_on iant k t u = factors_at iant k (get_or t.a u nan) (get_or t.b u nan)

-- the tables of the elevations below n
unfoldable pub ground_to : ℕ → Constants → Trig → ℕ → Ground
ground_to iant k t n = record {
  w3 = filled_to (λ (u : ℕ). (factors_on iant k t u).w3) 91 n;
  w4 = filled_to (λ (u : ℕ). (factors_on iant k t u).w4) 91 n;
  w5 = filled_to (λ (u : ℕ). (factors_on iant k t u).w5) 91 n;
  w6 = filled_to (λ (u : ℕ). (factors_on iant k t u).w6) 91 n;
  w9 = filled_to (λ (u : ℕ). (factors_on iant k t u).w9) 91 n;
  w10 = filled_to (λ (u : ℕ). (factors_on iant k t u).w10) 91 n;
}

unfoldable pub ground_of : ℕ → Constants → Trig → Ground
ground_of iant k t = ground_to iant k t 91
