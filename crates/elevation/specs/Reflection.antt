-- `refcof`: the ground's reflection coefficients at one elevation, vertical then horizontal, real and imaginary. Definitions only.
use Rattle.std.specs.Prelude.{Float}
use Rattle.std.specs.Float.Ieee.{neg}
use Rattle.root.specs.Root.{sqrt_of}
use Rattle.numeric.specs.Float.{mag}
use Rattle.floats.specs.Ops.{◌⊕◌, ◌⊖◌, ◌⊗◌, ◌⊘◌}
use Rattle.floats.specs.Literals.{two}
use Rattle.elevation.specs.declared.reflection.Reflection.{Reflection}

unfoldable pub ref_cof : Float → Float → Float → Float → Reflection
ref_cof a0 b0 d1 e1 =
    let c1 = e1 ⊖ b0 ⊗ b0 in
    let c11 = sqrt_of (c1 ⊗ c1 ⊕ d1 ⊗ d1) in
    let e2 = sqrt_of (mag (c1 ⊕ c11) ⊘ two) in
    let f2 = sqrt_of (mag (neg c1 ⊕ c11) ⊘ two) in
    let rk1 = e1 ⊗ a0 ⊖ e2 in
    let rl1 = rk1 ⊕ e2 ⊗ two in
    let rm1 = d1 ⊗ a0 ⊖ f2 in
    let rn1 = rm1 ⊕ f2 ⊗ two in
    let rl1n = rl1 ⊗ rl1 ⊕ rn1 ⊗ rn1 in
    let t1 = (rk1 ⊗ rl1 ⊕ rm1 ⊗ rn1) ⊘ rl1n in
    let t2 = (rk1 ⊗ rn1 ⊖ rm1 ⊗ rl1) ⊘ rl1n in
    let g1 = a0 ⊖ e2 in
    let h2 = a0 ⊕ e2 in
    let hn = h2 ⊗ h2 ⊕ f2 ⊗ f2 in
    let t3 = (g1 ⊗ h2 ⊖ f2 ⊗ f2) ⊘ hn in
    let t4 = (h2 ⊗ f2 ⊕ g1 ⊗ f2) ⊘ hn in
    record { t1 = t1; t2 = t2; t3 = t3; t4 = t4 }
