-- `parmprec` at one elevation: the ground-reflection factors of types 1 to 4, 8 and 9, and the reflection itself for type 7. Definitions only.
use Rattle.std.specs.Prelude.{ℕ, zero, suc, Bool, cond, ◌||◌, ◌==◌, nat_le, Float}
use Rattle.sine.specs.Sine.{sine, cosine}
use Rattle.floats.specs.Ops.{◌⊕◌, ◌⊖◌, ◌⊗◌, ◌⊘◌, count, +0}
use Rattle.floats.specs.Literals.{one, two}
use Rattle.floats.specs.Rounding.{nint_of, turns_of}
use Rattle.model.specs.Types.{array_type, crossed_type}
use Rattle.model.specs.declared.record.Constants.{Constants}
use Rattle.model.specs.declared.record.Factors.{Factors}
use Rattle.elevation.specs.Reflection.{ref_cof}
use Rattle.elevation.specs.declared.reflection.Reflection.{Reflection}
use Rattle.elevation.specs.declared.factors.Stack.{Stack}

-- one dipole at the height h1
unfoldable pub single : Float → Float → Stack
single h1 pfra = let pfrh = pfra ⊗ h1 in record { w1 = cosine pfrh; w2 = sine pfrh }

-- the phase of dipole il, half a wave above the one below
abbrev pub phase : Float → Float → ℕ → Float
phase h1 pfra il = let rik = count il ⊘ two in (h1 ⊕ rik) ⊗ pfra

-- dipoles 0 to n - 1
unfoldable pub stack_to : Float → Float → ℕ → Stack
stack_to h1 pfra zero = record { w1 = +0; w2 = +0 }
stack_to h1 pfra (suc il) =
    let s = stack_to h1 pfra il in
    let h11 = phase h1 pfra il in
    record { w1 = s.w1 ⊕ cosine h11; w2 = s.w2 ⊕ sine h11 }

-- one dipole for the types from 4 on, and else those of 0..=nint(r3 - 1)
unfoldable pub stack_of : ℕ → Constants → Float → Stack
stack_of iant k a0 =
    let pfra = k.pfr ⊗ a0 ⊗ two in
    cond (nat_le 4 iant) (single k.h1 pfra) (stack_to k.h1 pfra (turns_of (nint_of (k.r3 ⊖ one))))

-- the dipoles with their reflection
unfoldable pub mixed : Stack → Reflection → Factors
mixed s r =
    let w31 = one ⊖ r.t1 in
    let w32 = one ⊕ r.t1 in
    let w33 = one ⊕ r.t3 in
    let w34 = one ⊖ r.t3 in
    record {
      w3 = w31 ⊗ s.w1 ⊖ r.t2 ⊗ s.w2;
      w4 = w32 ⊗ s.w2 ⊖ r.t2 ⊗ s.w1;
      w5 = w33 ⊗ s.w1 ⊕ r.t4 ⊗ s.w2;
      w6 = w34 ⊗ s.w2 ⊕ r.t4 ⊗ s.w1;
      w9 = w32 ⊗ s.w1 ⊕ r.t2 ⊗ s.w2;
      w10 = w31 ⊗ s.w2 ⊕ r.t2 ⊗ s.w1;
    }

-- type 7 keeps the reflection; its w9 and w10 stay +0
unfoldable pub bare : Reflection → Factors
bare r = record { w3 = r.t1; w4 = r.t2; w5 = r.t3; w6 = r.t4; w9 = +0; w10 = +0 }

-- all others leave these tables +0
unfoldable pub no_factors : Factors
no_factors = record { w3 = +0; w4 = +0; w5 = +0; w6 = +0; w9 = +0; w10 = +0 }

-- `iant <= 4 || iant == 8 || iant == 9`
unfoldable pub over_ground : ℕ → Bool
over_ground iant = array_type iant || crossed_type iant

-- the factors at the elevation whose sine and cosine are a0 and b0
unfoldable pub factors_at : ℕ → Constants → Float → Float → Factors
factors_at iant k a0 b0 =
    let r = ref_cof a0 b0 k.d1 k.e1 in
    cond (over_ground iant) (mixed (stack_of iant k a0) r) (cond (iant == 7) (bare r) no_factors)
