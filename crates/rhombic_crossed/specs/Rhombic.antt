-- `gainrel`'s arm for type 7, the horizontal rhombic, step by step. Definitions only.
use Rattle.std.specs.Prelude.{Float}
use Rattle.floats.specs.Ops.{◌⊕◌, ◌⊖◌, ◌⊗◌, ◌⊘◌}
use Rattle.sine.specs.Sine.{sine, cosine}
use Rattle.root.specs.Root.{sqrt_of}
use Rattle.floats.specs.Literals.{one, thirty}
use Rattle.model.specs.declared.record.Constants.{Constants}
use Rattle.model.specs.declared.record.Direction.{Direction}
use Rattle.model.specs.declared.record.Factors.{Factors}

unfoldable pub gain7 : Constants → Factors → Direction → Float
gain7 k w d =
    let a2 = k.sinth ⊗ d.b1 ⊕ k.costh ⊗ d.a1 in
    let b2 = k.costh ⊗ d.b1 ⊖ k.sinth ⊗ d.a1 in
    let a3 = k.sinth ⊗ d.b1 ⊖ k.costh ⊗ d.a1 in
    let b3 = k.costh ⊗ d.b1 ⊕ k.sinth ⊗ d.a1 in
    let t5 = a2 ⊗ d.b0 ⊖ one in
    let t6 = a3 ⊗ d.b0 ⊖ one in
    let a4 = a2 ⊘ t5 in
    let b4 = b2 ⊘ t5 in
    let a5 = a3 ⊘ t6 in
    let b5 = b3 ⊘ t6 in
    let a6 = a4 ⊖ a5 in
    let b6 = b4 ⊕ b5 in
    let t7 = t5 ⊕ t6 in
    let c2 = sine (k.sl ⊗ t5) in
    let d2 = cosine (k.sl ⊗ t5) in
    let c3 = sine (k.sl ⊗ t6) in
    let d3 = cosine (k.sl ⊗ t6) in
    let c4 = sine (k.sl ⊗ t7) in
    let d4 = cosine (k.sl ⊗ t7) in
    let r1 = one ⊖ d3 ⊖ d2 ⊕ d4 in
    let r2 = c4 ⊖ c3 ⊖ c2 in
    let a7 = sine (k.h1 ⊗ d.a0) in
    let b7 = cosine (k.h1 ⊗ d.a0) in
    let r3 = one ⊕ w.w5 ⊗ b7 ⊕ w.w6 ⊗ a7 in
    let r4 = w.w5 ⊗ a7 ⊖ w.w6 ⊗ b7 in
    let h4 = r1 ⊗ r3 ⊖ r2 ⊗ r4 in
    let h5 = r1 ⊗ r4 ⊕ r2 ⊗ r3 in
    let r5 = one ⊖ w.w3 ⊗ b7 ⊖ w.w4 ⊗ a7 in
    let r6 = w.w3 ⊗ a7 ⊖ w.w4 ⊗ b7 in
    let w1 = r1 ⊗ r5 ⊖ r2 ⊗ r6 in
    let w2 = r1 ⊗ r6 ⊕ r2 ⊗ r5 in
    let h6 = thirty ⊗ b6 ⊗ sqrt_of (h4 ⊗ h4 ⊕ h5 ⊗ h5) in
    let w3x = thirty ⊗ d.a0 ⊗ a6 ⊗ sqrt_of (w1 ⊗ w1 ⊕ w2 ⊗ w2) in
    sqrt_of (h6 ⊗ h6 ⊕ w3x ⊗ w3x)
