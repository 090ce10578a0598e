-- `gainrel`'s arm for types 8 and 9, the quadrant antenna and the crossed dipoles, step by step. Definitions only.
use Rattle.std.specs.Prelude.{ℕ, cond, eqb, Float}
use Rattle.std.specs.Float.Ieee.{neg}
use Rattle.floats.specs.Ops.{◌⊕◌, ◌⊖◌, ◌⊗◌, ◌⊘◌, +0}
use Rattle.sine.specs.Sine.{sine, cosine}
use Rattle.root.specs.Root.{sqrt_of}
use Rattle.numeric.specs.Float.{mag}
use Rattle.floats.specs.Literals.{one}
use Rattle.directions.specs.Literals.{cos45}
use Rattle.model.specs.declared.record.Constants.{Constants}
use Rattle.model.specs.declared.record.Direction.{Direction}
use Rattle.model.specs.declared.record.Factors.{Factors}

-- the quadrant antenna is type 8
unfoldable pub gain89 : ℕ → Constants → Factors → Direction → Float
gain89 iant k w d =
    let a0 = d.a0 in
    let b0 = d.b0 in
    let aa1 = cos45 ⊗ (d.b1 ⊖ d.a1) in
    let bb1 = cos45 ⊗ (d.b1 ⊕ d.a1) in
    let a11 = aa1 ⊗ b0 in
    let a12 = bb1 ⊗ b0 in
    let b2 = cosine (k.p11 ⊗ a11) ⊖ k.cp11 in
    let w0 = mag (one ⊖ a11 ⊗ a11) in
    let z1 = b2 ⊘ w0 in
    let b3 = cosine (k.p11 ⊗ a12) ⊖ k.cp11 in
    let b4a = k.p11 ⊗ (bb1 ⊖ aa1) ⊗ b0 in
    let b5 = cond (eqb iant 8) (sine b4a) +0 in
    let b4 = cond (eqb iant 8) (cosine b4a) one in
    let w00 = one ⊖ a12 ⊗ a12 in
    let z2 = b3 ⊘ w00 in
    let w7y = aa1 ⊗ a0 ⊗ b0 ⊗ z1 in
    let w71y = w7y ⊗ w.w9 in
    let w72y = w7y ⊗ w.w10 in
    let w7x = neg bb1 ⊗ a0 ⊗ b0 ⊗ z2 in
    let w711x = w7x ⊗ w.w9 in
    let w721x = w7x ⊗ w.w10 in
    let w71x = w711x ⊗ b4 ⊖ w721x ⊗ b5 in
    let w72x = w711x ⊗ b5 ⊕ w721x ⊗ b4 in
    let w7xx = neg bb1 ⊗ a0 ⊗ a0 ⊗ z2 in
    let w31x = w7xx ⊗ w.w3 in
    let w41x = w7xx ⊗ w.w4 in
    let w3x = w31x ⊗ b4 ⊖ w41x ⊗ b5 in
    let w4x = w31x ⊗ b5 ⊕ w41x ⊗ b4 in
    let w7yy = aa1 ⊗ a0 ⊗ a0 ⊗ z1 in
    let w3y = w7yy ⊗ w.w3 in
    let w4y = w7yy ⊗ w.w4 in
    let w7s = (w3x ⊕ w3y) ⊗ (w3x ⊕ w3y) ⊕ (w4x ⊕ w4y) ⊗ (w4x ⊕ w4y) ⊕ (w71x ⊕ w71y) ⊗ (w71x ⊕ w71y) ⊕ (w72x ⊕ w72y) ⊗ (w72x ⊕ w72y) in
    let w81x = neg aa1 ⊗ w.w5 ⊗ z2 in
    let w8y = neg bb1 ⊗ w.w5 ⊗ z1 in
    let w91x = neg aa1 ⊗ w.w6 ⊗ z2 in
    let w8x = w81x ⊗ b4 ⊖ w91x ⊗ b5 in
    let w9x = w81x ⊗ b5 ⊕ w91x ⊗ b4 in
    let w9y = neg bb1 ⊗ w.w6 ⊗ z1 in
    let w8 = (w8x ⊕ w8y) ⊗ (w8x ⊕ w8y) ⊕ (w9x ⊕ w9y) ⊗ (w9x ⊕ w9y) in
    sqrt_of (w7s ⊕ w8)
