-- The code's steps for type 7, proved equal to the rule of `specs/Rhombic.antt` (`rhombic_whole`). Definitions only.
use Rattle.std.specs.Prelude.{Float}
use Rattle.floats.specs.Ops.{◌⊕◌, ◌⊖◌, ◌⊗◌, ◌⊘◌}
use Rattle.sine.specs.Sine.{sine, cosine}
use Rattle.root.specs.Root.{sqrt_of}
use Rattle.floats.specs.Literals.{one, thirty}
use Rattle.rhombic_crossed.specs.Complex.{times, power_of}
use Rattle.model.specs.declared.record.Constants.{Constants}
use Rattle.model.specs.declared.record.Direction.{Direction}
use Rattle.model.specs.declared.record.Factors.{Factors}
use Rattle.rhombic_crossed.specs.declared.complex.Complex.{Complex}
use Rattle.rhombic_crossed.specs.declared.rhombic.Legs.{Legs}

unfoldable pub legs_of : Constants → Direction → Legs
legs_of k d =
    let a2 = k.sinth ⊗ d.b1 ⊕ k.costh ⊗ d.a1 in
    let b2 = k.costh ⊗ d.b1 ⊖ k.sinth ⊗ d.a1 in
    let a3 = k.sinth ⊗ d.b1 ⊖ k.costh ⊗ d.a1 in
    let b3 = k.costh ⊗ d.b1 ⊕ k.sinth ⊗ d.a1 in
    let t5 = a2 ⊗ d.b0 ⊖ one in
    let t6 = a3 ⊗ d.b0 ⊖ one in
    record { t5 = t5; t6 = t6; a6 = a2 ⊘ t5 ⊖ a3 ⊘ t6; b6 = b2 ⊘ t5 ⊕ b3 ⊘ t6 }

unfoldable pub current_of : Float → Float → Float → Complex
current_of sl t5 t6 =
    let t7 = t5 ⊕ t6 in
    record {
      re = one ⊖ cosine (sl ⊗ t6) ⊖ cosine (sl ⊗ t5) ⊕ cosine (sl ⊗ t7);
      im = sine (sl ⊗ t7) ⊖ sine (sl ⊗ t6) ⊖ sine (sl ⊗ t5);
    }

unfoldable pub horizontal_image : Factors → Float → Float → Complex
horizontal_image w a7 b7 = record { re = one ⊕ w.w5 ⊗ b7 ⊕ w.w6 ⊗ a7; im = w.w5 ⊗ a7 ⊖ w.w6 ⊗ b7 }

unfoldable pub vertical_image : Factors → Float → Float → Complex
vertical_image w a7 b7 = record { re = one ⊖ w.w3 ⊗ b7 ⊖ w.w4 ⊗ a7; im = w.w3 ⊗ a7 ⊖ w.w4 ⊗ b7 }

-- the gain by its parts
unfoldable pub rhombic_gain : Constants → Factors → Direction → Float
rhombic_gain k w d =
    let l = legs_of k d in
    let r = current_of k.sl l.t5 l.t6 in
    let a7 = sine (k.h1 ⊗ d.a0) in
    let b7 = cosine (k.h1 ⊗ d.a0) in
    let h6 = thirty ⊗ l.b6 ⊗ sqrt_of (power_of (times r (horizontal_image w a7 b7))) in
    let w3x = thirty ⊗ d.a0 ⊗ l.a6 ⊗ sqrt_of (power_of (times r (vertical_image w a7 b7))) in
    sqrt_of (h6 ⊗ h6 ⊕ w3x ⊗ w3x)
