-- Document 02, card 11: at each direction that the search read in the elevation pass and the last azimuth pass, `ccirgain` with the record and
-- the table that set-up left answers a number between -30 and the larger of -30 and the maximum gain.
use mathlib.Core.Path.{◌≡◌, refl, sym, ap, subst, ◌∙◌}
use mathlib.Core.Logic.{⊎_elim}
use mathlib.Core.Bool.{Bool, true, false, cond}
use mathlib.Core.List.Memᴰ
use mathlib.Core.List.{List, [], Memᴰ}
use Prim.Native.Nat.{ℕ, zero, suc, ◌+◌, ◌*◌, ◌^◌, ◌<◌}
use native.Mathlib.Omega.{arith}
use lib.Dec.{T}
use lib.ListN.{length, take}
use lib.Seq.{take-length}
use lib.Ieee.{Float, binary32, le, fits}
use lib.Ieee.Bits.{is_true}
use lib.Ieee.Scale.{finite}
use Rattle.answers.specs.declared.Kind.{Kind}
use Rattle.answers.specs.Outcome.{accepted}
use Rattle.floats.specs.Ops.{◌⊕◌, ◌⊖◌, +0}
use Rattle.floats.specs.Literals.{one}
use Rattle.floats.proofs.Halves.{Between, whole-between, add-between, sub-between}
use Rattle.words.specs.Laid.{laid}
use Rattle.words.proofs.Laid.{take_laid}
use Rattle.model.specs.Limits.{slot}
use Rattle.model.specs.Table.{table_size}
use Rattle.model.specs.Types.{jant_of}
use Rattle.model.specs.declared.record.Model.{Model}
use Rattle.ground.specs.Table.{table_of}
use Rattle.ground.proofs.Laws.{table_length}
use Rattle.pattern.specs.Gainrel.{gain_rel}
use Rattle.pattern.proofs.gainrel.TableStart.{gain_rel_table}
use Rattle.antenna.specs.Gain.{floor_level, kind_of, graded, number_at, decibels_of, gain_of}
use Rattle.parameters.specs.Limits.{start_of}
use Rattle.search.specs.Literals.{five}
use Rattle.plate_row.specs.Row.{larger}
use Rattle.search.specs.Search.{gain_at, azimuths_from, azmax_directions, aim_of, elevation_directions, raised_of, refined_of, unrefined, last_searched, gainorm_of, peak_directions}
use Rattle.antenna.specs.SetUp.{model_of, set_up_of, kept_after, lent_after}
use Rattle.antenna.specs.declared.record.Antenna.{Antenna}
use Rattle.search.specs.declared.record.Peak.{Peak}
use Rattle.antenna_laws.proofs.Answered.{accepted_counts, gain-answered}
use Rattle.antenna_laws.proofs.LevelBounds.{FloorTo, number-between}
use Rattle.antenna_laws.proofs.Outcomes.{accepted_model, accepted-peak, accepted_sound}
use Rattle.search.proofs.Peak.{elevation_listed, peaked}
use Rattle.antenna_laws.proofs.ReadingCount.{one-whole, five-whole, turns_around, turns_5, aim_in}
use Rattle.antenna_laws.proofs.RowGains.{azimuth_finite}

-- ---- the directions are finite
abbrev FiniteDirection : Float × Float → Type 0
FiniteDirection d = (finite d.0 ≡ true) × (finite d.1 ≡ true)

azimuths_finite : (u v : Float) → finite u ≡ true → (n a b : ℕ) → Between a b v → a + 2 * n < 2 ^ 20 → b + 2 * n < 2 ^ 20
    → (d : Float × Float) → Memᴰ d (azimuths_from u v one n) → FiniteDirection d
unfolding azimuths_from
azimuths_finite u v fu zero a b r A B d i = absurd (Memᴰ.not-nil i)
azimuths_finite u v fu (suc n) a b r A B d i = ⊎_elim
    (λ (e : d ≡ (u, v)). subst FiniteDirection (sym e) (fu, is_true (finite v) r.real))
    (λ (j : Memᴰ d (azimuths_from u (v ⊕ one) one n)).
    azimuths_finite u (v ⊕ one) fu n (a + 2) (b + 2) (add-between r (whole-between one-whole) (a + 2) (b + 2) (omega arith) (omega arith) (omega arith) (omega arith)) (omega arith) (omega arith) d j)
    (Memᴰ.cases_cons i)

-- the elevation found is that of the elevation pass
found_umax : (m : Model) (t : List Float) (start : Peak) → (gainorm_of m t start).peak.umax ≡ (raised_of m t (aim_of m t start.vmax) start.umax).umax
unfolding gainorm_of refined_of unrefined
found_umax m t start = go (last_searched m.iant m.slewed)
  where
    go : (b : Bool) → let a = aim_of m t start.vmax in
        let e = raised_of m t a start.umax in
        (cond b (refined_of m t e a.vmax) (unrefined e a.vmax)).peak.umax ≡ e.umax
    go true = refl
    go false = refl

-- ---- the lent table begins with set-up's own
begins : (lent s : List Float) (n : ℕ) → n ≡ length s → take n (laid lent 0 s) ≡ take n s
begins lent s n e = take_laid lent 0 s n (omega arith) (omega arith) ∙ sym (ap (λ (k : ℕ). take k s) e ∙ take-length s)

module _ (p lent : List Float) {a : Antenna} {n : ℕ} (h : set_up_of p (length lent) ≡ accepted (a, n)) where
  abbrev made : Model
  made = model_of (jant_of (slot p 1)) p

  abbrev start : Peak
  start = start_of (jant_of (slot p 1)) p

  abbrev aim : Float
  aim = (aim_of made (table_of made) start.vmax).vmax

  aim-between : Between 100 1200 aim
  aim-between = aim_in p (length lent) h (table_of made)

  upward_finite : (d : Float × Float) → Memᴰ d (elevation_directions aim) → FiniteDirection d
  unfolding elevation_directions
  upward_finite d i =
      let k = elevation_listed aim 0 90 d i in
      subst FiniteDirection (sym k.3) (azimuth_finite k.0 (omega (arith, k.2)), is_true (finite aim) aim-between.real)

  abbrev umax : Float
  umax = (raised_of made (table_of made) (aim_of made (table_of made) start.vmax) start.umax).umax

  last-finite : (b : Bool) (d : Float × Float) → Memᴰ d (cond b (azmax_directions umax (aim ⊖ five) (aim ⊕ five) one) []) → FiniteDirection d
  unfolding azmax_directions
  last-finite false d i = absurd (Memᴰ.not-nil i)
  last-finite true d i =
      let few = turns_5 aim aim-between in
      let from = sub-between aim-between (whole-between five-whole) 90 1190 (omega arith) (omega arith) (omega arith) (omega arith) in
      let fu : finite umax ≡ true = sym (ap finite (found_umax made (table_of made) start)) ∙ (accepted_sound p (length lent) h).umax in
      azimuths_finite umax (aim ⊖ five) fu (turns_around five aim) 90 1190 from (omega (arith, few)) (omega (arith, few)) d i

  direction_finite : (d : Float × Float) → Memᴰ d (peak_directions made (table_of made) start) → FiniteDirection d
  unfolding peak_directions
  direction_finite d i =
      ⊎_elim (λ (j : Memᴰ d (elevation_directions aim)). upward_finite d j)
      (λ (j : Memᴰ d (cond (last_searched made.iant made.slewed) (azmax_directions umax (aim ⊖ five) (aim ⊕ five) one) [])). last-finite (last_searched made.iant made.slewed) d j)
      (Memᴰ.append_cases (elevation_directions aim) i)

  lent_begins : take table_size (lent_after p lent) ≡ take table_size (table_of a.model)
  unfolding lent_after kept_after
  lent_begins = rw h (begins lent (table_of a.model) table_size (sym (table_length a.model)))

  gain-read : (d : Float × Float) → gain_rel a.model (lent_after p lent) d.0 d.1 ≡ gain_at made (table_of made) d
  gain-read d =
      gain_rel_table a.model (accepted_counts p lent h) (lent_after p lent) (table_of a.model) lent_begins d.0 d.1
      ∙ ap (λ (m : Model). gain_rel m (table_of m) d.0 d.1) (accepted_model p (length lent) h)

  pub peak-number : (d : Float × Float) → Memᴰ d (peak_directions made (table_of made) start) → (giso : Float) → finite giso ≡ true → T (fits binary32 giso)
      → (k : Kind) × (g : Float) × (gain_of a (lent_after p lent) d.0 d.1 giso ≡ accepted (k, g)) × T (le floor_level g) × T (le g (larger floor_level giso))
  unfolding graded number_at
  peak-number d i giso g f =
      let z6 = a.peak.z6 in
      let z9 = gain_rel a.model (lent_after p lent) d.0 d.1 in
      let sound = accepted_sound p (length lent) h in
      let met = peaked made (table_of made) start sound.sound in
      let top = met.greatest in
      let at-peak = ap (λ (w : Peak). w.z6) (accepted-peak p (length lent) h) in
      let b : FloorTo (larger floor_level giso) (decibels_of z9 z6 giso) =
      rw (gain-read d, at-peak)
      (number-between (gain_at made (table_of made) d) _ giso (met.finite-each d i) met.real (top.none_above +0 (Memᴰ.head refl))
      (top.none_above _ (Memᴰ.tail (Memᴰ.map (gain_at made (table_of made)) i))) (subst T (sym g) tt) f) in
      let fd = direction_finite d i in
      let real = is_true (finite (decibels_of z9 z6 giso)) b.real in
      (kind_of z6 (decibels_of z9 z6 giso), decibels_of z9 z6 giso, gain-answered p lent h d.0 d.1 giso fd.0 fd.1 g ∙ rw real, b.from, b.to)
