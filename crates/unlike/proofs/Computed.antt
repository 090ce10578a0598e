-- What is computed of a station whose set-up and two answers show that it breaks the mirror law, and that this suffices.
use Prim.Native.Nat.{ℕ, ◌-◌, ◌≤◌}
use mathlib.Core.Path.{◌≡◌, refl, sym, ap, ◌∙◌}
use mathlib.Core.Bool.{Bool, true, false, cond, not, ◌||◌}
use mathlib.Core.List.{List}
use borrow.Author.Tests.{le-ltb, eq-eqb, eqb-false}
use lib.Dec.{eqb, ltb}
use lib.ListN.{length}
use lib.Ieee.{Float, binary32, sub, mul, div, rem, le, ne, of_int, to_signed, of_bits, to_bits}
use Rattle.numeric.specs.Rounding.{F}
use Rattle.sine.specs.Sine.{sine, cosine, quarter, past, next_term, sums, cut, sine_units, cosine_units, sine_at, cosine_at}
use Rattle.root.specs.Root.{sqrt_of, root, root_of}
use Rattle.logarithm.specs.Logarithm.{digits, binary_logarithm, logarithm_times}
use Rattle.floats.specs.Filled.{filled_to}
use Rattle.floats.specs.Literals.{literal}
use Rattle.floats.specs.Ops.{count, +0}
use Rattle.floats.specs.Ranges.{between, from_to, finite_to, all_finite}
use Rattle.floats.specs.Rounding.{nint_of, turns_of, ifix_of}
use Rattle.model.specs.Counts.{count_ok, elements_ok, counts_ok}
use Rattle.model.specs.Limits.{slot, in_band}
use Rattle.model.specs.Table.{table_size}
use Rattle.model.specs.Types.{jant_of, type_ok, array_type, log_periodic, crossed_type}
use Rattle.trig.specs.Trig.{trig_tables}
use Rattle.elevation.specs.Reflection.{ref_cof}
use Rattle.elevation.specs.Factors.{single, stack_to, stack_of, mixed, bare, no_factors, over_ground, factors_at}
use Rattle.ground.specs.Ground.{ground_to, ground_of}
use Rattle.ground.specs.Table.{table_of}
use Rattle.directions.specs.Azimuth.{back180, in_first, in_second, in_third, quadrant_of, direction_of, behind_screen}
use Rattle.dipole_arrays.specs.Rows.{cosine_sum, sine_sum}
use Rattle.dipole_arrays.specs.Dipoles.{dipole_factor, row_factor, ground_factor, array_gain, reflector_factor, gain2}
use Rattle.rhombic_crossed.specs.Rhombic.{gain7}
use Rattle.rhombic_crossed.specs.Crossed.{gain89}
use Rattle.pattern.specs.Gainrel.{factors_in, gain_in, gain_rel}
use Rattle.answers.specs.Outcome.{accepted}
use Rattle.answers.specs.Refusals.{SPACE, TABLE}
use Rattle.antenna.specs.TableSum.{table_sum, own_table}
use Rattle.antenna.specs.Asked.{asked_refusal}
use Rattle.answers.specs.declared.Kind.TheVariants.{Level}
use Rattle.antenna.specs.Gain.{floored, ratio_level, decibels_of, kind_of, graded, number_at, gain_asked, gain_of}
use Rattle.parameters.specs.Limits.{design_ok, band_ok, slots_ok, start_of, start_ok, slew_ok, aim_ok, refusal_of}
use Rattle.search.specs.Search.{untold, tallied, read_over, azimuths_from, elevations_after, plateau_centre, azmax_read, turns_in, azmax_directions, azmax_of, sweep_read, sweep_directions, sweep_of, plane_elevation, plane_of, plane_searched, aim_of, elevation_read, elevation_directions, elevations_of, raised_of, wrapped, refined_of, unrefined, last_searched, gainorm_of}
use Rattle.antenna.specs.SetUp.{no_elements, elements_of, slewed_of, model_of, search_refused, accepted_of, set_up_of}
use Rattle.parameters.specs.TypeConstants.{number, given, constants_with, array_own, rhombic_own, crossed_own, own_of, constants_of}
use Rattle.parameters.specs.Whole.{non_zero}
use Rattle.antenna.specs.declared.record.Antenna.{Antenna}
use Rattle.search.specs.declared.record.Peak.{Peak}
use Rattle.search.specs.declared.gainorm.Search.{Search}
use Rattle.antenna_laws.proofs.Outcomes.{accepted_when}
use Rattle.unlike.specs.Unlike.{Unlike}

abbrev pub peak_of : ℕ → ℕ → ℕ → Peak
peak_of z6 umax vmax = record { z6 = literal z6; umax = count umax; vmax = count vmax }

-- set-up's search for the parameters p; whoever unfolds it computes with all that set-up and gain are made of
unfoldable pub search_of : List Float → Search
unfolding jant_of type_ok refusal_of all_finite finite_to band_ok design_ok in_band from_to slots_ok aim_ok start_ok slew_ok between counts_ok count_ok elements_ok search_refused graded kind_of gainorm_of last_searched unrefined refined_of wrapped raised_of elevations_of elevation_directions elevation_read aim_of plane_searched plane_of plane_elevation sweep_of sweep_directions sweep_read azmax_of azmax_directions turns_in azmax_read plateau_centre read_over azimuths_from elevations_after tallied untold start_of model_of slewed_of elements_of no_elements non_zero constants_of own_of crossed_own rhombic_own array_own constants_with given number array_type log_periodic crossed_type ground_of ground_to factors_at over_ground no_factors bare mixed stack_of stack_to single turns_of nint_of ref_cof trig_tables filled_to gain_rel gain_in factors_in quadrant_of in_first in_second in_third back180 direction_of behind_screen ifix_of gain2 reflector_factor array_gain ground_factor row_factor dipole_factor cosine_sum sine_sum gain7 gain89 decibels_of ratio_level floored logarithm_times binary_logarithm digits sqrt_of root root_of sine cosine quarter past next_term sums cut sine_units cosine_units sine_at cosine_at F sub mul div rem le ne of_int to_signed of_bits to_bits number_at gain_asked asked_refusal
search_of p = let m = model_of (jant_of (slot p 1)) p in gainorm_of m (table_of m) (start_of (jant_of (slot p 1)) p)

search_is : (p : List Float) → search_of p ≡ (let m = model_of (jant_of (slot p 1)) p in gainorm_of m (table_of m) (start_of (jant_of (slot p 1)) p))
unfolding search_of
search_is p = refl

abbrev antenna_of : List Float → Peak → Antenna
antenna_of p peak = let m = model_of (jant_of (slot p 1)) p in record { model = m; peak = peak; sum = table_sum (table_of m) }

abbrev pub found_at : Peak → ℕ → Search
found_at peak readings = record { peak = peak; tally = record { readings = readings; sound = true } }

-- at elevation u and azimuth w only too small a table and another's are refused, and the answer is x
abbrev pub Answers : List Float → Peak → ℕ → ℕ → Float → Type 0
Answers p peak u w x =
    let m = model_of (jant_of (slot p 1)) p in
    ((n : ℕ) (own : Bool) → asked_refusal m n (gain_asked own (count u) (count w) +0) ≡ cond (ltb n table_size || false) SPACE (cond (not own) TABLE 0))
    × ((t : List Float) → graded peak.z6 (number_at m peak.z6 t (count u) (count w) +0) ≡ accepted (Level, x))

-- what is computed of a station: it meets the limits, its search finds this peak in so many readings, and its two answers
pub record Computed (p : List Float) (peak : Peak) (readings u v : ℕ) (here there : Float) : Type 0 where
  pub limits : (n : ℕ) → refusal_of (jant_of (slot p 1)) p n ≡ cond (ltb n table_size) SPACE 0
  pub search : search_of p ≡ found_at peak readings
  pub found : search_refused (found_at peak readings) ≡ false
  pub at_v : Answers p peak u v here
  pub at-mirror : Answers p peak u (360 - v) there
  pub bits : eqb (to_bits binary32 here) (to_bits binary32 there) ≡ false

module _ {p : List Float} {peak : Peak} {readings u v : ℕ} {here there : Float} (c : Computed p peak readings u v here there) where
  set_up_lem : (n : ℕ) → table_size ≤ n → set_up_of p n ≡ accepted (antenna_of p peak, readings)
  unfolding accepted_of
  set_up_lem n h =
      let found = sym (search_is p) ∙ c.search in
      accepted_when p n (record { limits = rw (c.limits n, le-ltb n table_size h); search = rw found c.found }) ∙ rw found

  answer : (w : ℕ) (x : Float) → Answers p peak u w x → (t : List Float) → table_size ≤ length t → table_sum t ≡ (antenna_of p peak).sum → gain_of (antenna_of p peak) t (count u) (count w) +0 ≡ accepted (Level, x)
  unfolding gain_of
  answer w x a t h e = rw (a.0 (length t) (own_table (antenna_of p peak) t), le-ltb (length t) table_size h, eq-eqb (table_sum t) (antenna_of p peak).sum e) (a.1 t)

  pub unlike : Unlike p u v here there
  unlike = record {
    antenna = antenna_of p peak;
    readings = readings;
    set_up_lem = set_up_lem;
    at_v = answer v here c.at_v;
    at-mirror = answer (360 - v) there c.at-mirror;
    differ = λ e. eqb-false _ _ c.bits (ap (to_bits binary32) e);
  }
