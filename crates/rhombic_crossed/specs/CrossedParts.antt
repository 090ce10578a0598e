-- The code's steps for types 8 and 9, proved equal to the rule of `specs/Crossed.antt` (`crossed_whole`). Definitions only.
use Rattle.std.specs.Prelude.{ℕ, cond, eqb, Float}
use Rattle.std.specs.Float.Ieee.{neg}
use Rattle.floats.specs.Ops.{◌⊕◌, ◌⊖◌, ◌⊗◌, ◌⊘◌, +0}
use Rattle.sine.specs.Sine.{sine, cosine}
use Rattle.root.specs.Root.{sqrt_of}
use Rattle.numeric.specs.Float.{mag}
use Rattle.floats.specs.Literals.{one}
use Rattle.directions.specs.Literals.{cos45}
use Rattle.rhombic_crossed.specs.Complex.{times, plus, scaled, power_of}
use Rattle.model.specs.declared.record.Constants.{Constants}
use Rattle.model.specs.declared.record.Direction.{Direction}
use Rattle.model.specs.declared.record.Factors.{Factors}
use Rattle.rhombic_crossed.specs.declared.complex.Complex.{Complex}
use Rattle.rhombic_crossed.specs.declared.crossed.Crossed.{Crossed}

unfoldable pub crossed_of : Constants → Direction → Crossed
crossed_of k d =
    let aa1 = cos45 ⊗ (d.b1 ⊖ d.a1) in
    let bb1 = cos45 ⊗ (d.b1 ⊕ d.a1) in
    let a11 = aa1 ⊗ d.b0 in
    let a12 = bb1 ⊗ d.b0 in
    record {
      aa1 = aa1;
      bb1 = bb1;
      z1 = (cosine (k.p11 ⊗ a11) ⊖ k.cp11) ⊘ mag (one ⊖ a11 ⊗ a11);
      z2 = (cosine (k.p11 ⊗ a12) ⊖ k.cp11) ⊘ (one ⊖ a12 ⊗ a12);
    }

unfoldable pub shift_of : ℕ → Float → Crossed → Float → Complex
shift_of iant p11 c b0 =
    let b4a = p11 ⊗ (c.bb1 ⊖ c.aa1) ⊗ b0 in
    record { re = cond (eqb iant 8) (cosine b4a) one; im = cond (eqb iant 8) (sine b4a) +0 }

unfoldable pub vertical_of : Crossed → Complex → Float → Float → Complex → Complex
vertical_of c f a0 s g = plus (times (scaled (neg c.bb1 ⊗ a0 ⊗ s ⊗ c.z2) g) f) (scaled (c.aa1 ⊗ a0 ⊗ s ⊗ c.z1) g)

unfoldable pub horizontal_of : Crossed → Complex → Float → Float → Complex
horizontal_of c f w5 w6 =
    plus
    (times (record { re = neg c.aa1 ⊗ w5 ⊗ c.z2; im = neg c.aa1 ⊗ w6 ⊗ c.z2 }) f)
    (record { re = neg c.bb1 ⊗ w5 ⊗ c.z1; im = neg c.bb1 ⊗ w6 ⊗ c.z1 })

-- the gain by its parts
unfoldable pub crossed_gain : ℕ → Constants → Factors → Direction → Float
crossed_gain iant k w d =
    let c = crossed_of k d in
    let f = shift_of iant k.p11 c d.b0 in
    let s = vertical_of c f d.a0 d.a0 (record { re = w.w3; im = w.w4 }) in
    let t = vertical_of c f d.a0 d.b0 (record { re = w.w9; im = w.w10 }) in
    let h = horizontal_of c f w.w5 w.w6 in
    sqrt_of (power_of s ⊕ t.re ⊗ t.re ⊕ t.im ⊗ t.im ⊕ power_of h)
