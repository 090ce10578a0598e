-- Document 01, demand 3: the mirror law, a single claim over every type and direction that it names; document 02's card 9 has it of every
-- table. Definitions only.
-- An answer is what `Outcome` holds: the number with its kind, or the refusal's number.
use Rattle.std.specs.Prelude.{ℕ, ◌-◌, ◌≤◌, ◌≡◌, ◌⊎◌, List, pos, neg_ℤ, ◌≤ℤ◌, Float}
use Rattle.std.specs.Float.Ieee.{neg, to_signed}
use Rattle.floats.specs.Ops.{count}
use Rattle.floats.specs.Rounding.{nint_of}
use Rattle.model.specs.Types.{jant_of}
use Rattle.curtain.specs.Answers.{curtain_gain}
use Rattle.answers.specs.Outcome.{accepted}
use Rattle.model.specs.Limits.{slot}
use Rattle.antenna.specs.SetUp.{set_up_of}
use Rattle.antenna.specs.Gain.{gain_of}
use Rattle.antenna.specs.declared.record.Antenna.{Antenna}

-- types 1 to 4 with a slew, slot 9, that truncates to 0; types 5 and 6
abbrev pub Symmetric : List Float → Type 0
Symmetric p =
    let iant = jant_of (slot p 1) in
    ((1 ≤ iant) × (iant ≤ 4) × (to_signed 31 (slot p 9) ≡ pos 0)) ⊎ ((5 ≤ iant) × (iant ≤ 6))

pub record MirrorLaw : Type 0 where
  -- `ccirgain`, with an antenna record that set-up left and any table at all, at every elevation and maximum gain, finite or not:
  -- the answer at each whole azimuth v from 0 to 360 but 90 and 270 is the answer at 360 - v, accepted or refused
  pub ccirgain : (p : List Float) (n : ℕ) (a : Antenna) (readings : ℕ) → set_up_of p n ≡ accepted (a, readings) → Symmetric p
      → (t : List Float) (u giso : Float) (v : ℕ) → v ≤ 360 → (v ≡ 90 → ⊥) → (v ≡ 270 → ⊥)
      → gain_of a t u (count v) giso ≡ gain_of a t u (count (360 - v)) giso
  -- `curtain::gain`, of a rounded slew from -3 to 3, whatever the other slots, the factor and the elevation:
  -- the answer at every azimuth is the answer at its negative
  pub curtain : (p : List Float) → neg_ℤ (pos 3) ≤ℤ nint_of (slot p 14) → nint_of (slot p 14) ≤ℤ pos 3
      → (azimd elevd gnorm : Float) → curtain_gain p azimd elevd gnorm ≡ curtain_gain p (neg azimd) elevd gnorm
