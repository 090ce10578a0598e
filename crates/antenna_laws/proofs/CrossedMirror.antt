-- The mirror law of type 9 for `ccirgain`: crossed dipoles that set-up left answer alike at a whole azimuth and at its mirror, 90 and 270 too.
use Prim.Native.Nat.{ℕ, ◌-◌, ◌≤◌}
use mathlib.Core.Path.{◌≡◌, refl, sym, ap, ◌∙◌}
use mathlib.Core.Bool.{Bool, true, false}
use mathlib.Core.List.Memᴰ
use mathlib.Core.List.{List}
use native.Mathlib.Omega.{arith}
use lib.Ieee.{Float, lt, of_bits}
use lib.Ieee.Scale.{finite}
use Rattle.answers.specs.declared.Kind.{Kind}
use Rattle.answers.specs.Outcome.{Outcome, accepted}
use Rattle.floats.specs.Ops.{count, +0}
use Rattle.ground.specs.Table.{table_of}
use Rattle.model.specs.Limits.{slot}
use Rattle.model.specs.Types.{jant_of}
use Rattle.model.specs.declared.record.Model.{Model}
use Rattle.pattern.specs.Gainrel.{gain_rel}
use Rattle.pattern.proofs.CrossedMirror.{Bounded, gain_rel-not-below, gain_rel_crossed}
use Rattle.parameters.specs.Limits.{start_of}
use Rattle.search.specs.Search.{gainorm_of}
use Rattle.antenna.specs.SetUp.{model_of, set_up_of}
use Rattle.antenna.specs.Gain.{graded, gain_asked, number_at, decibels_of, gain_of}
use Rattle.antenna.specs.declared.record.Antenna.{Antenna}
use Rattle.search.specs.declared.gainorm.Search.{Search}
use Rattle.antenna_laws.proofs.CrossedTables.{tables_bounded}
use Rattle.antenna_laws.proofs.NoNumber.{graded-alike}
use Rattle.antenna_laws.proofs.Outcomes.{accepted_model, accepted-peak, accepted_sound}
use Rattle.search.proofs.Peak.{peaked}
use Rattle.antenna_laws.proofs.RowGains.{azimuth_finite}
use Rattle.search.proofs.Strict.{not_lt_of_le}

module _ (p : List Float) (n : ℕ) {a : Antenna} {readings : ℕ} (h : set_up_of p n ≡ accepted (a, readings)) (nine : jant_of (slot p 1) ≡ 9) where
  abbrev made : Model
  made = model_of (jant_of (slot p 1)) p

  abbrev search : Search
  search = gainorm_of made (table_of made) (start_of (jant_of (slot p 1)) p)

  peak-finite : finite search.peak.z6 ≡ true
  peak-finite = (accepted_sound p n h).z6

  -- 0 is among the gains that the peak is the greatest of
  peak-not-below : lt search.peak.z6 +0 ≡ false
  unfolding of_bits
  peak-not-below =
      let met = peaked made (table_of made) (start_of (jant_of (slot p 1)) p) (accepted_sound p n h).sound in
      not_lt_of_le search.peak.z6 +0 met.real tt (met.greatest.none_above +0 (Memᴰ.head refl))

  crossed : made.iant ≡ 9
  unfolding model_of
  crossed = nine

  bounded : Bounded made.trig
  unfolding model_of
  bounded = tables_bounded

  module _ (t : List Float) (u giso : Float) (v : ℕ) (l : v ≤ 360) where
    -- the relative gain at a whole azimuth
    abbrev relative : ℕ → Float
    relative w = gain_rel made t u (count w)

    abbrev answer : Float → Outcome (Kind × Float)
    answer z9 = graded search.peak.z6 (decibels_of z9 search.peak.z6 giso)

    from_here : finite (relative v) ≡ true → relative (360 - v) ≡ relative v
    from_here = gain_rel_crossed made crossed t bounded u v l

    from-there : finite (relative (360 - v)) ≡ true → relative v ≡ relative (360 - v)
    from-there f =
        let again : 360 - (360 - v) ≡ v = omega arith in
        sym (ap relative again) ∙ gain_rel_crossed made crossed t bounded u (360 - v) (omega arith) f

    answers_alike : answer (relative v) ≡ answer (relative (360 - v))
    answers_alike = go (finite (relative v)) (finite (relative (360 - v))) refl refl
      where
        go : (b c : Bool) → finite (relative v) ≡ b → finite (relative (360 - v)) ≡ c → answer (relative v) ≡ answer (relative (360 - v))
        go true c f g = ap answer (sym (from_here f))
        go false true f g = ap answer (from-there g)
        go false false f g =
            graded-alike search.peak.z6 giso peak-finite peak-not-below
            (relative v) (relative (360 - v)) f (gain_rel-not-below made crossed t u (count v)) g (gain_rel-not-below made crossed t u (count (360 - v)))

    pub crossed_gain_mirror : gain_of a t u (count v) giso ≡ gain_of a t u (count (360 - v)) giso
    unfolding gain_of gain_asked number_at
    crossed_gain_mirror = rw (accepted_model p n h, accepted-peak p n h, azimuth_finite v l, azimuth_finite (360 - v) (omega arith), answers_alike)
