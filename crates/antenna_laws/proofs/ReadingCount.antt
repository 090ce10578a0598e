-- How often set-up's search reads the gain. The azimuths of its passes stay from -50 to 500 degrees, where a pass turns as often as document 02 says.
use mathlib.Core.Path.{◌≡◌, refl, sym, subst, ◌∙◌}
use mathlib.Core.Bool.{Bool, true, false, cond, ◌&&◌, ◌||◌}
use mathlib.Core.List.{List}
use Prim.Native.Nat.{ℕ, zero, suc, ◌+◌, ◌*◌, ◌^◌, ◌≤◌, ◌<◌}
use native.Mathlib.Omega.{arith}
use borrow.Author.Tests.{leb-true, eqb-false, lt-ltb}
use lib.Arith.{lt_of_le-ne}
use lib.Dec.{T, leb, ltb, eqb}
use lib.Ieee.{Float, lt, le, ne, to_signed, of_bits}
use Rattle.floats.specs.Ops.{◌⊕◌, ◌⊖◌, ◌⊘◌, +0}
use Rattle.floats.specs.Literals.{one, two, ten, ninety}
use Rattle.model.specs.declared.record.Model.{Model}
use Rattle.floats.specs.Ranges.{between}
use Rattle.floats.proofs.Tests.{both}
use Rattle.model.specs.Limits.{slot}
use Rattle.model.specs.Types.{jant_of, array_type}
use Rattle.answers.specs.Outcome.{accepted}
use Rattle.search.specs.Literals.{five, west, full_circle}
use Rattle.parameters.specs.Limits.{start_of, start_ok, aim_ok}
use Rattle.antenna.specs.SetUp.{slewed_of, model_of, set_up_of}
use Rattle.parameters.specs.Whole.{non_zero}
use Rattle.antenna.specs.declared.record.Antenna.{Antenna}
use Rattle.search.specs.Search.{untold, tallied, plateau_centre, azmax_read, turns_in, azmax_directions, azmax_of, sweep_read, sweep_of, plane_elevation, plane_of, plane_searched, aim_of, elevation_directions, elevations_of, raised_of, refined_of, unrefined, last_searched, gainorm_of}
use Rattle.search.specs.Turns.{turns, azmax_turn, sweep_turn}
use Rattle.search.specs.declared.record.Peak.{Peak}
use Rattle.search.specs.declared.gainorm.Azimuths.{Azimuths}
use Rattle.search.specs.declared.gainorm.Aimed.{Aimed}
use Rattle.search.specs.declared.gainorm.Elevations.{Elevations}
use Rattle.search.specs.declared.gainorm.Tally.{Tally}
use Rattle.floats.proofs.Halves.{Between, Whole, whole-between, count-between, add-between, sub-between, over-between, wider, bounded, around_cut}
use Rattle.antenna_laws.proofs.Outcomes.{accepted_only_when, accepted-readings}
use Rattle.antenna.proofs.setup.Accepted.{accepted_limits}
use Rattle.search.proofs.gainorm.Passes.{azimuths_length, elevations_length}
use Rattle.search.proofs.gainorm.Rules.{azmax_counts, elevations_count}
use Rattle.search.proofs.gainorm.Turns.{azmax_turned, sweep_turned}

-- ---- the source's whole numbers
pub one-whole : Whole 1 one
unfolding of_bits
one-whole = record { real = tt; count = refl; clear = refl; unit = refl }

two-whole : Whole 2 two
unfolding of_bits
two-whole = record { real = tt; count = refl; clear = refl; unit = refl }

pub five-whole : Whole 5 five
unfolding of_bits
five-whole = record { real = tt; count = refl; clear = refl; unit = refl }

ten-whole : Whole 10 ten
unfolding of_bits
ten-whole = record { real = tt; count = refl; clear = refl; unit = refl }

west-whole : Whole 270 west
unfolding of_bits
west-whole = record { real = tt; count = refl; clear = refl; unit = refl }

-- ---- the turns of a pass around v
abbrev pub turns_around : Float → Float → ℕ
turns_around w v = turns_in ((v ⊕ w ⊖ (v ⊖ w) ⊕ one) ⊘ one)

-- from -50 to 500
abbrev pub Azimuth : Float → Type 0
Azimuth v = Between 100 1200 v

turns_10 : (v : Float) → Azimuth v → turns_around ten v ≤ 21
unfolding turns_in
turns_10 v r = around_cut 31 ten-whole one-whole (omega arith) (omega arith) (omega arith) (omega arith) r

pub turns_5 : (v : Float) → Azimuth v → turns_around five v ≤ 11
unfolding turns_in
turns_5 v r = around_cut 31 five-whole one-whole (omega arith) (omega arith) (omega arith) (omega arith) r

-- ---- what each turn keeps, all turns keep
kept : (P : ℕ → Azimuths → Type 0) (f : Azimuths → Azimuths) (n : ℕ) → ((i : ℕ) (s : Azimuths) → i < n → P i s → P (suc i) (f s))
    → (s : Azimuths) → P 0 s → P n (turns f s n)
unfolding turns
kept P f zero step s h = h
kept P f (suc n) step s h = step n (turns f s n) (omega arith) (kept P f n (λ i r l q. step i r (omega arith) q) s h)

either : {A : Type 0} (P : A → Type 0) (b : Bool) {x y : A} → P x → P y → P (cond b x y)
either P true p q = p
either P false p q = q

-- ---- the sweep: 19 readings, and an azimuth from 0 to 450
record Swept (i : ℕ) (s : Azimuths) : Type 0 where
  readings : s.tally.readings ≡ i
  next : Between (740 + 20 * i) (740 + 20 * i) s.v
  best : Between 200 1100 s.vmax

sweep_step : (z9 : Float) (i : ℕ) (s : Azimuths) → i < 19 → Swept i s → Swept (suc i) (sweep_read s z9)
unfolding sweep_read tallied
sweep_step z9 i s l h =
    record {
      readings = omega (arith, h.readings);
      next = add-between h.next (whole-between ten-whole) (740 + 20 * suc i) (740 + 20 * suc i) (omega arith) (omega arith) (omega arith) (omega arith);
      best = either (Between 200 1100) (lt s.rmax z9) (wider h.next 200 1100 (omega arith) (omega arith)) h.best;
    }

sweep_counted : (m : Model) (t : List Float) (u vmax : Float) → Between 200 920 vmax → Swept 19 (sweep_of m t u vmax)
unfolding sweep_turn untold
sweep_counted m t u vmax r =
    rw sweep_turned
    (kept Swept (sweep_turn m t u) 19 (λ i s l h. sweep_step _ i s l h) _
    (record { readings = refl; next = whole-between west-whole; best = wider r 200 1100 (omega arith) (omega arith) }))

-- ---- an azimuth pass reads as often as it turns
azmax_counted : (m : Model) (t : List Float) (u vmin1 vmax1 vm rmax0 vmax0 : Float) (n : Tally)
    → (azmax_of m t u vmin1 vmax1 vm rmax0 vmax0 n).tally.readings ≡ n.readings + turns_in ((vmax1 ⊖ vmin1 ⊕ vm) ⊘ vm)
unfolding azmax_directions
azmax_counted m t u vmin1 vmax1 vm rmax0 vmax0 n =
    omega (arith, azmax_counts m t u vmin1 vmax1 vm rmax0 vmax0 n, azimuths_length u vmin1 vm (turns_in ((vmax1 ⊖ vmin1 ⊕ vm) ⊘ vm)))

-- ---- the first azimuth pass hands on an azimuth of the range
record Around (i : ℕ) (s : Azimuths) : Type 0 where
  plateau : s.j ≤ i
  next : Between (180 + 2 * i) (1080 + 2 * i) s.v
  best : Azimuth s.vmax

-- v less half of j readings, and one
centre_in : (i j : ℕ) (vmax v : Float) → i < 21 → j ≤ 21 → Between (180 + 2 * i) (1080 + 2 * i) v → Azimuth vmax → Azimuth (plateau_centre vmax v j)
unfolding plateau_centre
centre_in i j vmax v l k r h =
    let halved = over-between (count-between j (omega arith)) two-whole (omega arith) (200 + j) (200 + j) (omega arith) (omega arith) (omega arith) (omega arith) in
    let less = sub-between r halved 150 1150 (omega arith) (omega arith) (omega arith) (omega arith) in
    either Azimuth (ne v vmax) (add-between less (whole-between one-whole) 100 1200 (omega arith) (omega arith) (omega arith) (omega arith)) h

around_step : (z9 : Float) (i : ℕ) (s : Azimuths) → i < 21 → Around i s → Around (suc i) (azmax_read s one z9)
unfolding azmax_read
around_step z9 i s l h =
    let on = add-between h.next (whole-between one-whole) (180 + 2 * suc i) (1080 + 2 * suc i) (omega arith) (omega arith) (omega arith) (omega arith) in
    either (Around (suc i)) (lt z9 s.rmax) (record { plateau = omega arith; next = on; best = h.best })
    (either (Around (suc i)) (lt s.rmax z9)
    (record { plateau = omega (arith, h.plateau); next = on; best = wider h.next 100 1200 (omega arith) (omega arith) })
    (record { plateau = omega (arith, h.plateau); next = on; best = centre_in i (s.j + 1) s.vmax s.v l (omega (arith, h.plateau)) h.next h.best }))

pass_around : (m : Model) (t : List Float) (u rmax v : Float) (n : Tally) → Between 200 1100 v
    → Around (turns_around ten v) (azmax_of m t u (v ⊖ ten) (v ⊕ ten) one rmax v n)
unfolding azmax_turn
pass_around m t u rmax v n r =
    let a = wider r 100 1200 (omega arith) (omega arith) in
    let few = turns_10 v a in
    rw azmax_turned
    (kept Around (azmax_turn m t u one) (turns_around ten v) (λ i s l h. around_step _ i s (omega (arith, few)) h) _
    (record { plateau = omega arith; next = sub-between r (whole-between ten-whole) 180 1080 (omega arith) (omega arith) (omega arith) (omega arith); best = a }))

-- ---- `gainorm`, the horizontal plane searched: 19 readings, at most 21, 90 and at most 11
record Counted (a : Aimed) : Type 0 where
  first : ℕ
  few : first ≤ 21
  readings : a.tally.readings ≡ 19 + first
  aim : Azimuth a.vmax

plane_counted : (m : Model) (t : List Float) (vmax : Float) → Between 200 920 vmax → Counted (plane_of m t vmax)
unfolding plane_of
plane_counted m t vmax r =
    let u = plane_elevation m.iant in
    let s = sweep_of m t u vmax in
    let h = sweep_counted m t u vmax r in
    record {
      first = turns_around ten s.vmax;
      few = turns_10 s.vmax (wider h.best 100 1200 (omega arith) (omega arith));
      readings = omega (arith, azmax_counted m t u (s.vmax ⊖ ten) (s.vmax ⊕ ten) one s.rmax s.vmax s.tally, h.readings);
      aim = (pass_around m t u s.rmax s.vmax s.tally h.best).best;
    }

elevation_readings : (m : Model) (t : List Float) (v : Float) (e : Elevations) → (elevations_of m t v e).tally.readings ≡ e.tally.readings + 90
unfolding elevation_directions
elevation_readings m t v e = omega (arith, elevations_count m t v e, elevations_length v 0 90)

abbrev Parts : ℕ → Type 0
Parts n = (first : ℕ) × (last : ℕ) × (first ≤ 21) × (last ≤ 11) × (n ≡ 19 + first + 90 + last)

module _ (m : Model) (t : List Float) (start : Peak) where
  searched_parts : Between 200 920 start.vmax → plane_searched m.iant m.slewed ≡ true → last_searched m.iant m.slewed ≡ true
      → Parts (gainorm_of m t start).tally.readings
  unfolding gainorm_of raised_of aim_of refined_of
  searched_parts r p l =
      let a = plane_of m t start.vmax in
      let h = plane_counted m t start.vmax r in
      let e₀ : Elevations = record { wmx = +0; umax = start.umax; tally = a.tally } in
      let e = elevations_of m t a.vmax e₀ in (
        h.first,
        turns_around five a.vmax,
        h.few,
        turns_5 a.vmax h.aim,
        rw (l, p)
            (omega (arith, azmax_counted m t e.umax (a.vmax ⊖ five) (a.vmax ⊕ five) one e.wmx a.vmax e.tally, elevation_readings m t a.vmax e₀, h.readings)),
      )

  elevations_alone : plane_searched m.iant m.slewed ≡ false → last_searched m.iant m.slewed ≡ false → (gainorm_of m t start).tally.readings ≡ 90
  unfolding gainorm_of raised_of aim_of unrefined untold
  elevations_alone p l = rw (l, p) (elevation_readings m t +0 _)

-- ---- the antennas that set-up accepts
and-false : (b : Bool) → (b && false) ≡ false
and-false true = refl
and-false false = refl

-- their plane is searched just where a last azimuth pass is
agree : (iant : ℕ) (p : List Float) → plane_searched iant (slewed_of iant p) ≡ last_searched iant (slewed_of iant p)
unfolding plane_searched last_searched slewed_of array_type
agree iant p = go (eqb iant 4) (leb iant 4) (non_zero (to_signed 31 (slot p 9))) refl refl
  where
    go : (x y z : Bool) → eqb iant 4 ≡ x → leb iant 4 ≡ y → (x || (ltb iant 4 && (y && z))) ≡ ((y && z) || x)
    go true true true e f = refl
    go true true false e f = refl
    go true false z e f = refl
    go false true true e f = rw (lt-ltb iant 4 (lt_of_le-ne (leb-true iant 4 f) (eqb-false iant 4 e)))
    go false true false e f = and-false (ltb iant 4)
    go false false z e f = and-false (ltb iant 4)

zero-whole : Whole 0 +0
unfolding of_bits
zero-whole = record { real = tt; count = refl; clear = refl; unit = refl }

circle_whole : Whole 360 full_circle
unfolding of_bits
circle_whole = record { real = tt; count = refl; clear = refl; unit = refl }

module _ (p : List Float) (size : ℕ) {a : Antenna} {readings : ℕ} (h : set_up_of p size ≡ accepted (a, readings)) where
  abbrev iant : ℕ
  iant = jant_of (slot p 1)

  start_in : Between 200 920 (start_of iant p).vmax
  unfolding aim_ok start_ok between
  start_in =
      let v = (start_of iant p).vmax in
      let aim = (both (start_ok (start_of iant p)) _ (accepted_limits iant p size (accepted_only_when p size h).limits).3).0 in
      let ends = both (le +0 v) _ (both (between (start_of iant p).umax +0 ninety) _ aim).1 in
      bounded zero-whole circle_whole v (subst T (sym ends.0) tt) (subst T (sym ends.1) tt)

  -- the azimuth of the elevation pass
  pub aim_in : (t : List Float) → Azimuth (aim_of (model_of iant p) t (start_of iant p).vmax).vmax
  unfolding aim_of
  aim_in t =
      either (λ (a : Aimed). Azimuth a.vmax) (plane_searched (model_of iant p).iant (model_of iant p).slewed) (plane_counted (model_of iant p) t (start_of iant p).vmax start_in).aim
      (wider (whole-between zero-whole) 100 1200 (omega arith) (omega arith))

  pub searched-readings : last_searched iant (slewed_of iant p) ≡ true → Parts readings
  unfolding model_of
  searched-readings l = rw (accepted-readings p size h) (searched_parts (model_of iant p) _ (start_of iant p) start_in (agree iant p ∙ l) l)

  pub unsearched_readings : last_searched iant (slewed_of iant p) ≡ false → readings ≡ 90
  unfolding model_of
  unsearched_readings l = accepted-readings p size h ∙ elevations_alone (model_of iant p) _ (start_of iant p) (agree iant p ∙ l) l

  pub readings-at-most : readings ≤ 141
  readings-at-most = go (last_searched iant (slewed_of iant p)) refl
    where
      go : (b : Bool) → last_searched iant (slewed_of iant p) ≡ b → readings ≤ 141
      go true e = let r = searched-readings e in omega (arith, r.2, r.3, r.4)
      go false e = omega (arith, unsearched_readings e)

  -- so the count fits a word of 32 bits
  pub readings-fit : readings < 2 ^ 32
  readings-fit = omega (arith, readings-at-most)
