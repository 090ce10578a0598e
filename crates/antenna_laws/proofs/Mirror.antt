-- Demand 3 for `ccirgain`: an antenna of types 1 to 6 that set-up left without slew answers alike at an azimuth and at its mirror.
use Prim.Native.Nat.{ℕ, ◌-◌, ◌≤◌}
use mathlib.Core.Path.{◌≡◌}
use mathlib.Core.List.{List}
use native.Mathlib.Omega.{arith}
use borrow.Author.Tests.{le-leb}
use lib.IntN.{pos}
use lib.Ieee.{Float, to_signed}
use Rattle.answers.specs.Outcome.{accepted}
use Rattle.floats.specs.Ops.{count, +0}
use Rattle.model.specs.Limits.{slot}
use Rattle.model.specs.Types.{jant_of, array_type}
use Rattle.model.specs.declared.record.Model.{Model}
use Rattle.logperiodic.specs.declared.geometry.Boom.{Boom}
use Rattle.pattern.proofs.GainrelMirror.{gain_rel-mirror}
use Rattle.pattern.proofs.Slew.{unslewed}
use Rattle.parameters.specs.TypeConstants.{number, given, constants_with, array_own, own_of, constants_of}
use Rattle.antenna.specs.SetUp.{model_of, set_up_of}
use Rattle.antenna.specs.Gain.{gain_asked, number_at, gain_of}
use Rattle.antenna.specs.declared.record.Antenna.{Antenna}
use Rattle.antenna_laws.proofs.Outcomes.{accepted_model}
use Rattle.antenna_laws.proofs.RowGains.{azimuth_finite}

-- no slew, no sine of it
no_slew : (iant : ℕ) (p : List Float) (b : Boom) → iant ≤ 4 → to_signed 31 (slot p 9) ≡ pos 0 → (constants_of iant p b).sl ≡ +0
unfolding constants_of number given constants_with own_of array_type array_own
no_slew iant p b h e = rw (le-leb iant 4 h) (unslewed (slot p 9) e)

module _ (p : List Float) (n : ℕ) {a : Antenna} {readings : ℕ} (h : set_up_of p n ≡ accepted (a, readings)) (six : jant_of (slot p 1) ≤ 6) (unslewed : jant_of (slot p 1) ≤ 4 → to_signed 31 (slot p 9) ≡ pos 0) where
  abbrev made : Model
  made = model_of (jant_of (slot p 1)) p

  to_type_6 : made.iant ≤ 6
  unfolding model_of
  to_type_6 = six

  sine_of_slew : made.iant ≤ 4 → made.constants.sl ≡ +0
  unfolding model_of
  sine_of_slew l = no_slew (jant_of (slot p 1)) p _ l (unslewed l)

  pub gain-mirror : (t : List Float) (u giso : Float) (v : ℕ) → v ≤ 360 → (v ≡ 90 → ⊥) → (v ≡ 270 → ⊥) → gain_of a t u (count v) giso ≡ gain_of a t u (count (360 - v)) giso
  unfolding gain_of gain_asked number_at
  gain-mirror t u giso v l x y =
      rw (
        accepted_model p n h,
        azimuth_finite v l,
        azimuth_finite (360 - v) (omega arith),
        gain_rel-mirror made to_type_6 sine_of_slew t u v l x y,
      )
