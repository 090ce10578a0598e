-- Document 02, card 11: the peak of a search that met only finite gains is the greatest of 0 and the gains that it read in the elevation
-- pass and, where there is one, the last azimuth pass. Without that pass its elevation is the last that has it.
use Rattle.std.proofs.Common.{◌≡◌, ℕ, zero, suc, ◌+◌, ◌<◌, ◌≤◌, Bool, true, false, cond, T, ◌⊎◌, List, [], ◌∷◌, ◌++◌, map, length, sym, refl, ap, ◌∙◌, subst, inl, inr, ⊎_elim, true≢false, append-nil, le_refl, eq-or-lt_of_le, arith, length-append}
use mathlib.Core.List.{map-append, Memᴰ}
use lib.Ieee.{Float, lt, le, of_bits}
use lib.Ieee.Scale.{finite}
use Rattle.floats.specs.Ops.{◌⊕◌, ◌⊖◌, count, +0}
use Rattle.floats.specs.Literals.{one, ten}
use Rattle.model.specs.declared.record.Model.{Model}
use Rattle.pattern.specs.Gainrel.{gain_rel}
use Rattle.search.specs.Literals.{five}
use Rattle.search.specs.Peaks.{Greatest, LastPeak}
use Rattle.search.specs.Search.{untold, gain_at, elevations_after, azmax_directions, sweep_directions, sweep_of, plane_elevation, plane_of, plane_searched, aim_of, elevation_read, elevation_directions, raised_of, refined_of, unrefined, last_searched, gainorm_of, plane_directions, peak_directions}
use Rattle.search.specs.Turns.{elevations_to}
use Rattle.search.specs.declared.record.Peak.{Peak}
use Rattle.search.specs.declared.gainorm.Aimed.{Aimed}
use Rattle.search.specs.declared.gainorm.Elevations.{Elevations}
use Rattle.search.specs.declared.gainorm.Search.{Search}
use Rattle.search.proofs.Strict.{lt_of_not_le, not_lt_of_le}
use Rattle.search.proofs.gainorm.Passes.{greatest-more}
use Rattle.search.proofs.gainorm.Rules.{Finite, azmax_counts, azmax_sound, azmax_greatest, sweep_counts, elevations_count, elevations_sound, elevations_greatest}
use Rattle.search.proofs.gainorm.Turns.{elevations_turned}

zero-finite : T (finite +0)
unfolding of_bits
zero-finite = tt

-- ---- the elevations of the list
elevation_member : (v : Float) (k n j : ℕ) → k < j → j ≤ k + n → Memᴰ (count j, v) (elevations_after v k n)
unfolding elevations_after
elevation_member v k zero j l h = absurd (omega arith)
elevation_member v k (suc n) j l h = ⊎_elim
    (λ (e : suc k ≡ j). mathlib.Core.List.Memᴰ.head (ap (λ (i : ℕ). (count i, v)) (sym e)))
    (λ (i : suc k < j). mathlib.Core.List.Memᴰ.tail (elevation_member v (suc k) n j i (omega arith)))
    (eq-or-lt_of_le l)

pub elevation_listed : (v : Float) (k n : ℕ) (d : Float × Float) → Memᴰ d (elevations_after v k n) → (j : ℕ) × (k < j) × (j ≤ k + n) × (d ≡ (count j, v))
unfolding elevations_after
elevation_listed v k zero d i = absurd (mathlib.Core.List.Memᴰ.not-nil i)
elevation_listed v k (suc n) d i = ⊎_elim
    (λ (e : d ≡ (count (suc k), v)). (suc k, omega arith, omega arith, e))
    (λ (j : Memᴰ d (elevations_after v (suc k) n)). let r = elevation_listed v (suc k) n d j in (r.0, omega (arith, r.1), omega (arith, r.2), r.3))
    (mathlib.Core.List.Memᴰ.cases_cons i)

-- ---- elevation by elevation, from 0 on: the last that has the peak, or each gain so far lies below 0
module _ (m : Model) (t : List Float) (v : Float) (e : Elevations) (zero-first : e.wmx ≡ +0) where
  abbrev at-degrees : ℕ → Float
  at-degrees k = gain_rel m t (count k) v

  abbrev So_far : ℕ → Elevations → Type 0
  So_far n r = LastPeak at-degrees n r.wmx r.umax ⊎ ((r.wmx ≡ +0) × ((k : ℕ) → 1 ≤ k → k ≤ n → lt (at-degrees k) +0 ≡ true))

  module _ (fine : (k : ℕ) → 1 ≤ k → k ≤ 90 → T (finite (at-degrees k))) where
    so_far_finite : (n : ℕ) (r : Elevations) → n ≤ 90 → So_far n r → T (finite r.wmx)
    so_far_finite n r h (inl c) = subst (λ (x : Float). T (finite x)) c.has_peak (fine c.degrees c.from (omega (arith, c.to)))
    so_far_finite n r h (inr c) = subst (λ (x : Float). T (finite x)) (sym c.0) zero-finite

    -- the next elevation or an earlier one
    each : (n : ℕ) (P : ℕ → Type 0) → P (suc n) → (k : ℕ) → (k ≤ n → P k) → k ≤ suc n → P k
    each n P last k earlier h = ⊎_elim (λ (q : k ≡ suc n). subst P (sym q) last) (λ (i : k < suc n). earlier (omega arith)) (eq-or-lt_of_le h)

    further : (n : ℕ) (r : Elevations) → suc n ≤ 90 → So_far n r → So_far (suc n) (elevation_read r (count (suc n)) (at-degrees (suc n)))
    unfolding elevation_read
    further n r h c = go (le r.wmx (at-degrees (suc n))) refl c
      where
        Next : Bool → Type 0
        Next b =
            LastPeak at-degrees (suc n) (cond b (at-degrees (suc n)) r.wmx) (cond b (count (suc n)) r.umax)
            ⊎ ((cond b (at-degrees (suc n)) r.wmx ≡ +0) × ((k : ℕ) → 1 ≤ k → k ≤ suc n → lt (at-degrees k) +0 ≡ true))

        below : le r.wmx (at-degrees (suc n)) ≡ false → lt (at-degrees (suc n)) r.wmx ≡ true
        below q = lt_of_not_le r.wmx (at-degrees (suc n)) (so_far_finite n r (omega arith) c) (fine (suc n) (omega arith) h) q

        go : (b : Bool) → le r.wmx (at-degrees (suc n)) ≡ b → So_far n r → Next b
        go true q s = inl (record { degrees = suc n; from = omega arith; to = le_refl _; elevation = refl; has_peak = refl; later_below = λ k l i. absurd (omega arith) })
        go false q (inl s) =
            inl (record {
              degrees = s.degrees;
              from = s.from;
              to = omega (arith, s.to);
              elevation = s.elevation;
              has_peak = s.has_peak;
              later_below = λ k l i. each n (λ (j : ℕ). lt (at-degrees j) r.wmx ≡ true) (below q) k (λ o. s.later_below k l o) i;
            })
        go false q (inr s) =
            inr (s.0, λ k l i. each n (λ (j : ℕ). lt (at-degrees j) +0 ≡ true) (ap (lt (at-degrees (suc n))) (sym s.0) ∙ below q) k (λ o. s.1 k l o) i)

    so_far : (n : ℕ) → n ≤ 90 → So_far n (elevations_to m t v e n)
    unfolding elevations_to
    so_far zero h = inr (zero-first, λ k l i. absurd (omega arith))
    so_far (suc n) h = further n (elevations_to m t v e n) h (so_far n (omega arith))

    found-last : (d : Float × Float) → Memᴰ d (elevation_directions v) → T (le +0 (gain_at m t d))
        → let r = elevations_to m t v e 90 in LastPeak at-degrees 90 r.wmx r.umax
    unfolding elevation_directions
    found-last d i z = ⊎_elim (λ (c : LastPeak at-degrees 90 _ _). c) (λ c. absurd (clash c.1)) (so_far 90 (le_refl 90))
      where
        clash : ((k : ℕ) → 1 ≤ k → k ≤ 90 → lt (at-degrees k) +0 ≡ true) → ⊥
        clash none =
            let j = elevation_listed v 0 90 d i in
            let here : T (le +0 (at-degrees j.0)) = rw j.3 at z in
            let not = not_lt_of_le (at-degrees j.0) +0 (fine j.0 j.1 (omega (arith, j.2))) zero-finite here in
            true≢false (sym (none j.0 j.1 (omega (arith, j.2))) ∙ not)

module _ (m : Model) (t : List Float) (start : Peak) where
  abbrev aim : Aimed
  aim = aim_of m t start.vmax

  abbrev from : Elevations
  from = record { wmx = +0; umax = start.umax; tally = aim.tally }

  abbrev raised : Elevations
  raised = raised_of m t aim start.umax

  abbrev upward : List (Float × Float)
  upward = elevation_directions aim.vmax

  abbrev last : List (Float × Float)
  last = azmax_directions raised.umax (aim.vmax ⊖ five) (aim.vmax ⊕ five) one

  -- ---- each direction is one reading
  plane_counts : (b : Bool) → let u = plane_elevation m.iant in
      let v = (sweep_of m t u start.vmax).vmax in
      (cond b (plane_of m t start.vmax) (record { vmax = +0; tally = untold })).tally.readings
      ≡ length (cond b (sweep_directions u ++ azmax_directions u (v ⊖ ten) (v ⊕ ten) one) [])
  unfolding plane_of untold
  plane_counts true =
      let u = plane_elevation m.iant in
      let s = sweep_of m t u start.vmax in
      omega (
        arith,
        azmax_counts m t u (s.vmax ⊖ ten) (s.vmax ⊕ ten) one s.rmax s.vmax s.tally,
        sweep_counts m t u start.vmax,
        length-append (sweep_directions u) (azmax_directions u (s.vmax ⊖ ten) (s.vmax ⊕ ten) one),
      )
  plane_counts false = refl

  last_counts : (b : Bool) → (cond b (refined_of m t raised aim.vmax) (unrefined raised aim.vmax)).tally.readings ≡ raised.tally.readings + length (cond b last [])
  unfolding refined_of unrefined
  last_counts true = azmax_counts m t raised.umax (aim.vmax ⊖ five) (aim.vmax ⊕ five) one raised.wmx aim.vmax raised.tally
  last_counts false = omega arith

  pub each-counted : (gainorm_of m t start).tally.readings ≡ length (plane_directions m t start.vmax) + length (peak_directions m t start)
  unfolding gainorm_of aim_of raised_of plane_directions peak_directions
  each-counted =
      let b = last_searched m.iant m.slewed in
      omega (arith, last_counts b, elevations_count m t aim.vmax from, plane_counts (plane_searched m.iant m.slewed), length-append upward (cond b last []))

  -- ---- the peak
  pub record Peaked (s : Search) (ds : List (Float × Float)) : Type 0 where
    pub finite-each : Finite m t ds
    pub real : T (finite s.peak.z6)
    pub greatest : Greatest s.peak.z6 (+0 ∷ map (gain_at m t) ds)

  raised_peak : raised.tally.sound ≡ true → Finite m t upward × Greatest raised.wmx (+0 ∷ map (gain_at m t) upward) × T (finite raised.wmx)
  unfolding raised_of
  raised_peak h = let f = elevations_sound m t aim.vmax from h in let g = elevations_greatest m t aim.vmax from zero-finite f in (f, g.0, g.1)

  by_pass : (b : Bool) → let s = cond b (refined_of m t raised aim.vmax) (unrefined raised aim.vmax) in
      s.tally.sound ≡ true → Peaked s (upward ++ cond b last [])
  unfolding refined_of unrefined
  by_pass true h =
      let l = azmax_sound m t raised.umax (aim.vmax ⊖ five) (aim.vmax ⊕ five) one raised.wmx aim.vmax raised.tally h in
      let e = raised_peak l.0 in
      let r = azmax_greatest m t raised.umax (aim.vmax ⊖ five) (aim.vmax ⊕ five) one raised.wmx aim.vmax raised.tally e.2 l.1 in
      record {
        finite-each = λ d i. ⊎_elim (λ (j : Memᴰ d upward). e.0 d j) (λ (j : Memᴰ d last). l.1 d j) (mathlib.Core.List.Memᴰ.append_cases upward i);
        real = r.1;
        greatest = rw map-append (greatest-more raised.wmx _ (+0 ∷ map (gain_at m t) upward) (map (gain_at m t) last) e.2 e.1 r.0);
      }
  by_pass false h = let e = raised_peak h in record { finite-each = rw append-nil e.0; real = e.2; greatest = rw append-nil e.1 }

  pub peaked : (gainorm_of m t start).tally.sound ≡ true → Peaked (gainorm_of m t start) (peak_directions m t start)
  unfolding gainorm_of peak_directions
  peaked h = by_pass (last_searched m.iant m.slewed) h

  -- ---- without the last azimuth pass
  unlast : last_searched m.iant m.slewed ≡ false → gainorm_of m t start ≡ unrefined raised aim.vmax
  unfolding gainorm_of
  unlast h = rw h

  -- where a gain read is 0 or more, the elevation is the last of 1 to 90 that has the peak
  pub last-peak : last_searched m.iant m.slewed ≡ false → (gainorm_of m t start).tally.sound ≡ true
      → (d : Float × Float) → Memᴰ d (peak_directions m t start) → T (le +0 (gain_at m t d))
      → let found = (gainorm_of m t start).peak in
      LastPeak (λ (k : ℕ). gain_at m t (count k, found.vmax)) 90 found.z6 found.umax
  unfolding raised_of peak_directions elevation_directions unrefined
  last-peak l h d i z =
      let f = (peaked h).finite-each in
      let inside : Memᴰ d upward = rw (l, append-nil) at i in
      let finite-up : (k : ℕ) → 1 ≤ k → k ≤ 90 → T (finite (gain_rel m t (count k) aim.vmax)) =
      λ k low high. f (count k, aim.vmax) (mathlib.Core.List.Memᴰ.append_left (cond (last_searched m.iant m.slewed) last []) (elevation_member aim.vmax 0 90 k low (omega arith))) in
      rw (unlast l, elevations_turned) (found-last m t aim.vmax from refl finite-up d inside z)
