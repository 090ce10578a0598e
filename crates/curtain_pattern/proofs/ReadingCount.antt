-- How many readings of the pattern the integral takes: 91 sweeps of 181 each, 16,471.
use Prim.Native.Nat.{ℕ, zero, suc, ◌*◌}
use mathlib.Core.Path.{◌≡◌, refl}
use mathlib.Core.Bool.{Bool}
use native.Mathlib.Omega.{arith}
use lib.Ieee.{Float}
use Rattle.curtain_pattern.specs.Integral.{read, ◌⊞◌, through, readings, pint, strip, tint, dbltrap}
use Rattle.curtain_pattern.specs.declared.pattern.Curtain.{Curtain}
use Rattle.curtain_pattern.specs.declared.integral.Read.{Read}

-- a number with its readings, by both
pub read_is : (a : Read) {value : Float} {n : ℕ} → value ≡ a.value → n ≡ a.readings → record { value = value; readings = n } ≡ a
read_is a v n = rw (v, n)

pub inner_readings : (ant : Curtain) (t : Float) (n : ℕ) → (readings ant t n).readings ≡ n
unfolding readings read ◌⊞◌
inner_readings ant t zero = refl
inner_readings ant t (suc n) = rw (inner_readings ant t n) (omega arith)

pub sweep_readings : (ant : Curtain) (t : Float) → (pint ant t).readings ≡ 181
unfolding pint through read ◌⊞◌
sweep_readings ant t = rw (inner_readings ant t 179)

pub strip-readings : (ant : Curtain) (t : Float) (end : Bool) → (strip ant t end).readings ≡ 181
unfolding strip through
strip-readings ant t end = sweep_readings ant t

pub tint-readings : (ant : Curtain) (n : ℕ) → (tint ant n).readings ≡ n * 181
unfolding tint ◌⊞◌
tint-readings ant zero = refl
tint-readings ant (suc n) = rw (tint-readings ant n, strip-readings) (omega arith)

pub integral-readings : (ant : Curtain) → (dbltrap ant).readings ≡ 16471
integral-readings ant = tint-readings ant 91
