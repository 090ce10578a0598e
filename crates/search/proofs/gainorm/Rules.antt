-- The passes of the search, each by its rule: what it counts, that its gains were finite, and that it keeps the greatest.
use Rattle.std.proofs.Common.{◌≡◌, ◌+◌, Bool, true, false, cond, T, ◌⊎◌, List, ◌∷◌, map, length, sym, refl, subst, inl, inr, arith}
use mathlib.Core.List.{Memᴰ}
use lib.Ieee.{Float, le}
use lib.Ieee.Scale.{finite}
use Rattle.floats.specs.Ops.{+0}
use Rattle.model.specs.declared.record.Model.{Model}
use Rattle.search.specs.Literals.{west}
use Rattle.search.specs.Peaks.{Greatest}
use Rattle.search.specs.Search.{untold, gain_at, azmax_read, azmax_directions, azmax_of, sweep_read, sweep_directions, sweep_of, elevation_read, elevation_directions, elevations_of}
use Rattle.search.specs.declared.gainorm.Azimuths.{Azimuths}
use Rattle.search.specs.declared.gainorm.Elevations.{Elevations}
use Rattle.search.specs.declared.gainorm.Tally.{Tally}
use Rattle.search.proofs.Strict.{lt-le, lt_of_not_le}
use Rattle.search.proofs.gainorm.Passes.{Stays, counted-over, sound_over, greatest-over}
use Rattle.search.proofs.gainorm.Readings.{azmax_reads}

-- of two gains the elevation pass keeps the larger
elevation-stays : (e : Elevations) (u z9 : Float) → Stays e.wmx z9 (elevation_read e u z9).wmx
unfolding elevation_read
elevation-stays e u z9 p q = go (le e.wmx z9) refl
  where
    go : (b : Bool) → le e.wmx z9 ≡ b → let y = cond b z9 e.wmx in ((y ≡ z9) × T (le e.wmx z9)) ⊎ ((y ≡ e.wmx) × T (le z9 e.wmx))
    go true h = inl (refl, subst T (sym h) tt)
    go false h = inr (refl, lt-le z9 e.wmx (lt_of_not_le e.wmx z9 p q h))

module _ (m : Model) (t : List Float) where
  abbrev pub gain : Float × Float → Float
  gain = gain_at m t

  abbrev pub Finite : List (Float × Float) → Type 0
  Finite ds = (d : Float × Float) → Memᴰ d ds → T (finite (gain d))

  -- ---- an azimuth pass
  module _ (u vmin1 vmax1 vm rmax0 vmax0 : Float) (n : Tally) where
    abbrev pass : Azimuths
    pass = azmax_of m t u vmin1 vmax1 vm rmax0 vmax0 n

    abbrev ways : List (Float × Float)
    ways = azmax_directions u vmin1 vmax1 vm

    pub azmax_counts : pass.tally.readings ≡ n.readings + length ways
    unfolding azmax_of
    azmax_counts = counted-over (λ s d z9. azmax_read s vm z9) gain (λ s. s.tally) (λ s d z9. (azmax_reads s vm z9).told) ways _

    pub azmax_sound : pass.tally.sound ≡ true → (n.sound ≡ true) × Finite ways
    unfolding azmax_of
    azmax_sound h = sound_over (λ s d z9. azmax_read s vm z9) gain (λ s. s.tally) (λ s d z9. (azmax_reads s vm z9).told) ways _ h

    pub azmax_greatest : T (finite rmax0) → Finite ways → Greatest pass.rmax (rmax0 ∷ map gain ways) × T (finite pass.rmax)
    unfolding azmax_of
    azmax_greatest p f =
        greatest-over (λ s d z9. azmax_read s vm z9) gain (λ s. s.tally) (λ s d z9. (azmax_reads s vm z9).told) (λ s. s.rmax) (λ s d z9. (azmax_reads s vm z9).kept) ways _ p f

  -- ---- the sweep
  pub sweep_counts : (u vmax : Float) → (sweep_of m t u vmax).tally.readings ≡ length (sweep_directions u)
  unfolding sweep_of sweep_read untold
  sweep_counts u vmax =
      let start : Azimuths = record { rmax = +0; vmax = vmax; j = 0; v = west; tally = untold } in
      omega (arith, counted-over (λ (s : Azimuths) d z9. sweep_read s z9) gain (λ (s : Azimuths). s.tally) (λ s d z9. refl) (sweep_directions u) start)

  -- ---- the elevation pass
  module _ (v : Float) (e : Elevations) where
    abbrev risen : Elevations
    risen = elevations_of m t v e

    pub elevations_count : risen.tally.readings ≡ e.tally.readings + length (elevation_directions v)
    unfolding elevations_of elevation_read
    elevations_count = counted-over (λ r d z9. elevation_read r d.0 z9) gain (λ r. r.tally) (λ r d z9. refl) (elevation_directions v) e

    pub elevations_sound : risen.tally.sound ≡ true → Finite (elevation_directions v)
    unfolding elevations_of elevation_read
    elevations_sound h = (sound_over (λ r d z9. elevation_read r d.0 z9) gain (λ r. r.tally) (λ r d z9. refl) (elevation_directions v) e h).1

    pub elevations_greatest : T (finite e.wmx) → Finite (elevation_directions v)
        → Greatest risen.wmx (e.wmx ∷ map gain (elevation_directions v)) × T (finite risen.wmx)
    unfolding elevations_of elevation_read
    elevations_greatest p f =
        greatest-over (λ r d z9. elevation_read r d.0 z9) gain (λ r. r.tally) (λ r d z9. refl) (λ r. r.wmx) (λ r d z9. elevation-stays r d.0 z9) (elevation_directions v) e p f
