-- Two stations set up by computation, and the readings counted.
use mathlib.Core.Path.{◌≡◌, refl, ap, ◌∙◌}
use mathlib.Core.Bool.{Bool, true, not, ◌&&◌}
use mathlib.Core.List.{List}
use Prim.Native.Nat.{ℕ}
use borrow.Author.Tests.{eqb-true, not-true}
use lib.Dec.{eqb}
use lib.Ieee.{Float, add, sub, mul, div, rem, neg, round, le, lt, eq, ne, of_bits, of_int, to_signed, to_unsigned}
use Rattle.std.specs.Float.{float_with_sign}
use Rattle.numeric.specs.Rounding.{F}
use Rattle.sine.specs.Sine.{quarter, past, next_term, sums, cut, sine_units, cosine_units, sine_at, cosine_at, sine, cosine}
use Rattle.root.specs.Root.{root_of, root, sqrt_of}
use Rattle.floats.specs.Filled.{filled_to}
use Rattle.floats.specs.Ranges.{between, from_to, finite_to, all_finite}
use Rattle.floats.specs.Rounding.{nint_of, ifix_of, turns_of}
use Rattle.floats.proofs.Tests.{both}
use Rattle.model.specs.Counts.{count_ok}
use Rattle.model.specs.Limits.{slot, in_band}
use Rattle.model.specs.Table.{table_size, blank_table}
use Rattle.model.specs.Types.{jant_of, type_ok, array_type, log_periodic, crossed_type}
use Rattle.trig.specs.Trig.{trig_tables}
use Rattle.elevation.specs.Reflection.{ref_cof}
use Rattle.elevation.specs.Factors.{stack_to, stack_of, mixed, over_ground, factors_at}
use Rattle.ground.specs.Ground.{ground_to, ground_of}
use Rattle.ground.specs.Table.{table_of}
use Rattle.directions.specs.Azimuth.{in_first, in_second, in_third, back180, quadrant_of, direction_of, behind_screen}
use Rattle.dipole_arrays.specs.Rows.{cosine_sum, sine_sum}
use Rattle.dipole_arrays.specs.Dipoles.{dipole_factor, row_factor, ground_factor, array_gain, reflector_factor, gain2}
use Rattle.pattern.specs.Gainrel.{factors_in, gain_in, gain_rel}
use Rattle.parameters.specs.Limits.{design_ok, band_ok, slots_ok, start_of, start_ok, slew_ok, aim_ok, refusal_of}
use Rattle.parameters.specs.TypeConstants.{number, given, constants_with, array_own, own_of, constants_of}
use Rattle.parameters.specs.Whole.{non_zero}
use Rattle.search.specs.Search.{untold, tallied, read_over, azimuths_from, elevations_after, plateau_centre, azmax_read, turns_in, azmax_directions, azmax_of, sweep_read, sweep_directions, sweep_of, plane_elevation, plane_of, plane_searched, aim_of, elevation_read, elevation_directions, elevations_of, raised_of, wrapped, refined_of, last_searched, gainorm_of}
use Rattle.antenna.specs.TableSum.{table_sum}
use Rattle.antenna.specs.SetUp.{no_elements, elements_of, slewed_of, model_of, search_refused, accepted_of}
use Rattle.answers.specs.Outcome.{accepted}
use Rattle.antenna.specs.declared.record.Antenna.{Antenna}
use Rattle.search.specs.declared.gainorm.Search.{Search}
use Rattle.antenna_laws.proofs.Outcomes.{accepted_when}
use Rattle.dear_stations.specs.DearestStations.{dear_station, silent_station, Takes}

-- the search that set-up makes
abbrev search_of : List Float → Search
search_of p = let m = model_of (jant_of (slot p 1)) p in gainorm_of m (table_of m) (start_of (jant_of (slot p 1)) p)

-- it is sound, and has so many readings
takes : ℕ → Search → Bool
takes n s = not (search_refused s) && eqb s.tally.readings n

-- the limits, and the search of a type 2, computed
limits : List Float → Type 0
limits p = refusal_of (jant_of (slot p 1)) p table_size ≡ 0

within : limits dear_station × limits silent_station
unfolding limits refusal_of design_ok band_ok slots_ok start_of start_ok slew_ok aim_ok jant_of nint_of between from_to finite_to all_finite count_ok in_band type_ok array_type log_periodic to_signed to_unsigned le lt add sub neg of_bits
within = (refl, refl)

searched : (takes 141 (search_of dear_station) ≡ true) × (takes 140 (search_of silent_station) ≡ true)
unfolding takes search_refused jant_of start_of slewed_of model_of elements_of no_elements constants_of own_of array_own constants_with given number non_zero trig_tables filled_to ground_of ground_to factors_at over_ground stack_of stack_to mixed ref_cof table_of blank_table type_ok array_type log_periodic crossed_type gainorm_of aim_of plane_searched plane_of plane_elevation sweep_of sweep_directions sweep_read azmax_of azmax_directions azmax_read turns_in read_over azimuths_from elevations_after plateau_centre tallied untold raised_of elevations_of elevation_directions elevation_read refined_of last_searched wrapped gain_rel gain_in factors_in quadrant_of in_first in_second in_third back180 direction_of behind_screen gain2 array_gain dipole_factor row_factor ground_factor reflector_factor cosine_sum sine_sum nint_of ifix_of turns_of sine cosine sine_at cosine_at sine_units cosine_units cut sums next_term past quarter F sqrt_of root root_of add sub mul div rem neg round le lt eq ne of_bits of_int to_signed to_unsigned float_with_sign
searched = (refl, refl)

met : (p : List Float) (n : ℕ) → limits p → takes n (search_of p) ≡ true → Takes p n
unfolding limits takes accepted_of
met p n w s =
    let m = model_of (jant_of (slot p 1)) p in
    let a : Antenna = record { model = m; peak = (search_of p).peak; sum = table_sum (table_of m) } in
    let t = both (not (search_refused (search_of p))) _ s in
    (a, accepted_when p table_size (record { limits = w; search = not-true _ t.0 }) ∙ ap (λ (k : ℕ). accepted (a, k)) (eqb-true _ n t.1))

pub dear-takes : Takes dear_station 141
dear-takes = met dear_station 141 within.0 searched.0

pub silent_takes : Takes silent_station 140
silent_takes = met silent_station 140 within.1 searched.1
