-- Document 01, part 6: `azmax` and `gainorm`, the search for the pattern's maximum, in the source's steps. A tally goes along with
-- them: how often `gainrel` was called, and whether each gain was finite. Definitions only.
use Rattle.std.specs.Prelude.{ℕ, zero, suc, ◌+◌, Bool, true, cond, ◌&&◌, ◌||◌, List, [], ◌∷◌, ◌++◌, ◌==◌, nat_lt, Float}
use Rattle.std.specs.Float.Ieee.{lt, le, ne, to_signed}
use Rattle.std.specs.Float.Ieee.Scale.{finite}
use Rattle.floats.specs.Ops.{◌⊕◌, ◌⊖◌, ◌⊘◌, count, +0}
use Rattle.floats.specs.Literals.{one, two, ten}
use Rattle.floats.specs.Rounding.{natural}
use Rattle.model.specs.declared.record.Model.{Model}
use Rattle.pattern.specs.Gainrel.{gain_rel}
use Rattle.search.specs.Literals.{five, forty_five, west, full_circle}
use Rattle.search.specs.declared.record.Peak.{Peak}
use Rattle.search.specs.declared.gainorm.Tally.{Tally}
use Rattle.search.specs.declared.gainorm.Azimuths.{Azimuths}
use Rattle.search.specs.declared.gainorm.Aimed.{Aimed}
use Rattle.search.specs.declared.gainorm.Elevations.{Elevations}
use Rattle.search.specs.declared.gainorm.Search.{Search}

-- before any reading
unfoldable pub untold : Tally
untold = record { readings = 0; sound = true }

-- one more reading, of the gain z9
unfoldable pub tallied : Tally → Float → Tally
tallied n z9 = record { readings = n.readings + 1; sound = n.sound && finite z9 }

-- ---- a pass

-- a direction is an elevation and an azimuth
abbrev pub gain_at : Model → List Float → Float × Float → Float
gain_at m t d = gain_rel m t d.0 d.1

-- the gain at each direction in turn, taken in by the rule of the pass: a search reads all its gains so
unfoldable pub read_over : {S : Type 0} → (S → Float × Float → Float → S) → (Float × Float → Float) → S → List (Float × Float) → S
read_over rule gain s [] = s
read_over rule gain s (d ∷ ds) = read_over rule gain (rule s d (gain d)) ds

-- n directions at elevation u, from azimuth v on in steps of vm
unfoldable pub azimuths_from : Float → Float → Float → ℕ → List (Float × Float)
azimuths_from u v vm zero = []
azimuths_from u v vm (suc n) = (u, v) ∷ azimuths_from u (v ⊕ vm) vm n

-- n directions at azimuth v, the whole elevations after k
unfoldable pub elevations_after : Float → ℕ → ℕ → List (Float × Float)
elevations_after v k zero = []
elevations_after v k (suc n) = (count (suc k), v) ∷ elevations_after v (suc k) n

-- ---- `azmax`

-- the azimuth of a plateau of j readings that ends at v: its centre
unfoldable pub plateau_centre : Float → Float → ℕ → Float
plateau_centre vmax v j = cond (ne v vmax) (v ⊖ count j ⊘ two ⊕ one) vmax

-- a gain z9 at the azimuth v, the next one vm further on: below rmax, above it (which does not clear j), or a plateau
unfoldable pub azmax_read : Azimuths → Float → Float → Azimuths
azmax_read s vm z9 =
    let v = s.v ⊕ vm in
    let tally = tallied s.tally z9 in
    let j = s.j + 1 in
    cond (lt z9 s.rmax) (record { rmax = s.rmax; vmax = s.vmax; j = 0; v = v; tally = tally })
    (cond (lt s.rmax z9) (record { rmax = z9; vmax = s.v; j = s.j; v = v; tally = tally })
    (record { rmax = z9; vmax = plateau_centre s.vmax s.v j; j = j; v = v; tally = tally }))

-- `0..x as i32`: as many turns, none below 0
unfoldable pub turns_in : Float → ℕ
turns_in x = natural (to_signed 31 x)

-- the directions of `azmax`, the azimuths from vmin1 to vmax1 in steps of vm
unfoldable pub azmax_directions : Float → Float → Float → Float → List (Float × Float)
azmax_directions u vmin1 vmax1 vm = azimuths_from u vmin1 vm (turns_in ((vmax1 ⊖ vmin1 ⊕ vm) ⊘ vm))

-- `azmax`
unfoldable pub azmax_of : Model → List Float → Float → Float → Float → Float → Float → Float → Tally → Azimuths
azmax_of m t u vmin1 vmax1 vm rmax0 vmax0 tally =
    read_over (λ s d z9. azmax_read s vm z9) (gain_at m t) (record { rmax = rmax0; vmax = vmax0; j = 0; v = vmin1; tally = tally })
    (azmax_directions u vmin1 vmax1 vm)

-- ---- `gainorm`

-- a gain z9 of the sweep, in steps of 10 degrees: above rmax it is the new one
unfoldable pub sweep_read : Azimuths → Float → Azimuths
sweep_read s z9 =
    let more = lt s.rmax z9 in
    record { rmax = cond more z9 s.rmax; vmax = cond more s.v s.vmax; j = s.j; v = s.v ⊕ ten; tally = tallied s.tally z9 }

-- its directions, from 270 on
unfoldable pub sweep_directions : Float → List (Float × Float)
sweep_directions u = azimuths_from u west ten 19

-- the horizontal plane swept
unfoldable pub sweep_of : Model → List Float → Float → Float → Azimuths
sweep_of m t u vmax =
    read_over (λ s d z9. sweep_read s z9) (gain_at m t) (record { rmax = +0; vmax = vmax; j = 0; v = west; tally = untold }) (sweep_directions u)

-- its elevation: 45 degrees for the tropical type
unfoldable pub plane_elevation : ℕ → Float
plane_elevation iant = cond (iant == 4) forty_five five

-- swept, and refined 10 degrees to each side
unfoldable pub plane_of : Model → List Float → Float → Aimed
plane_of m t vmax =
    let u = plane_elevation m.iant in
    let s = sweep_of m t u vmax in
    let r = azmax_of m t u (s.vmax ⊖ ten) (s.vmax ⊕ ten) one s.rmax s.vmax s.tally in
    record { vmax = r.vmax; tally = r.tally }

-- a slewed or tropical pattern: the horizontal plane is searched first
unfoldable pub plane_searched : ℕ → Bool → Bool
plane_searched iant slewed = iant == 4 || (nat_lt iant 4 && slewed)

-- the azimuth of the elevation pass; without a search of the plane it is 0
unfoldable pub aim_of : Model → List Float → Float → Aimed
aim_of m t vmax = cond (plane_searched m.iant m.slewed) (plane_of m t vmax) (record { vmax = +0; tally = untold })

-- a gain z9 at elevation u: of equal gains the last is kept
unfoldable pub elevation_read : Elevations → Float → Float → Elevations
elevation_read e u z9 =
    let more = le e.wmx z9 in
    record { wmx = cond more z9 e.wmx; umax = cond more u e.umax; tally = tallied e.tally z9 }

-- elevations 1 to 90 at azimuth v
unfoldable pub elevation_directions : Float → List (Float × Float)
elevation_directions v = elevations_after v 0 90

-- the elevation pass
unfoldable pub elevations_of : Model → List Float → Float → Elevations → Elevations
elevations_of m t v e = read_over (λ r d z9. elevation_read r d.0 z9) (gain_at m t) e (elevation_directions v)

-- an azimuth from 360 on loses a full circle
unfoldable pub wrapped : Float → Float
wrapped v = cond (le full_circle v) (v ⊖ full_circle) v

-- the last azimuth pass, at the elevation that was found, 5 degrees to each side of v
unfoldable pub refined_of : Model → List Float → Elevations → Float → Search
refined_of m t e v =
    let s = azmax_of m t e.umax (v ⊖ five) (v ⊕ five) one e.wmx v e.tally in
    record { peak = record { z6 = s.rmax; umax = e.umax; vmax = wrapped s.vmax }; tally = s.tally }

-- without it
unfoldable pub unrefined : Elevations → Float → Search
unrefined e v = record { peak = record { z6 = e.wmx; umax = e.umax; vmax = v }; tally = e.tally }

unfoldable pub last_searched : ℕ → Bool → Bool
last_searched iant slewed = slewed || iant == 4

-- the elevation pass at the azimuth a, from the start value of umax
unfoldable pub raised_of : Model → List Float → Aimed → Float → Elevations
raised_of m t a umax = elevations_of m t a.vmax (record { wmx = +0; umax = umax; tally = a.tally })

-- `gainorm`, from the start values of umax and vmax
unfoldable pub gainorm_of : Model → List Float → Peak → Search
gainorm_of m t start =
    let a = aim_of m t start.vmax in
    let e = raised_of m t a start.umax in
    cond (last_searched m.iant m.slewed) (refined_of m t e a.vmax) (unrefined e a.vmax)

-- ---- all directions that `gainorm` reads

-- in the horizontal plane, where it is searched: the sweep and the first azimuth pass
unfoldable pub plane_directions : Model → List Float → Float → List (Float × Float)
plane_directions m t vmax =
    let u = plane_elevation m.iant in
    let v = (sweep_of m t u vmax).vmax in
    cond (plane_searched m.iant m.slewed) (sweep_directions u ++ azmax_directions u (v ⊖ ten) (v ⊕ ten) one) []

-- then: the elevation pass and, where there is one, the last azimuth pass
unfoldable pub peak_directions : Model → List Float → Peak → List (Float × Float)
peak_directions m t start =
    let a = aim_of m t start.vmax in
    let v = a.vmax in
    let u = (raised_of m t a start.umax).umax in
    elevation_directions v ++ cond (last_searched m.iant m.slewed) (azmax_directions u (v ⊖ five) (v ⊕ five) one) []
