-- Issue 27: "the curve", with "floors drawn apart", and with `--fold` "what is worked out and what is folded over". Definitions only.
use Rattle.std.specs.Prelude.{ℕ, zero, suc, ◌%◌, Bool, false, not, cond, ◌&&◌, ◌||◌, List, [], ◌++◌, ltb, eqb, get_or}
use Rattle.answers.specs.declared.Kind.{Kind}
use Rattle.answers.specs.declared.Kind.TheVariants as kind
use Rattle.curve.specs.declared.Stroke.{Stroke}
use Rattle.curve.specs.declared.Stroke.TheVariants as stroke
use Rattle.quoted.specs.Quoted.{quoted}
use Rattle.compass.specs.declared.Point.{Point}
use Rattle.compass.specs.Compass.{point_of}
use Rattle.labels.specs.Writing.{whole}
use Rattle.dial.specs.Kinds.{is_level, is_floor}
use Rattle.dial.specs.Scale.{radius_of}

-- azimuths that the mirror law folds over: those beyond 180, but 270
unfoldable pub beyond : ℕ → Bool
beyond v = ltb 180 v && not (eqb v 270)

-- what a stroke goes through, by an azimuth's kind and whether it is folded over where that is shown apart: the levels that aren't, those that are, the floors
unfoldable pub draws : Stroke → Kind → Bool → Bool
draws stroke.Levels k folded = is_level k && not folded
draws stroke.Folded k folded = is_level k && folded
draws stroke.Floors k folded = is_floor k

-- whether a stroke draws azimuth v; 360 is 0 again
unfoldable pub drawn : List Kind → Bool → Stroke → ℕ → Bool
drawn kinds fold s v = draws s (get_or kinds (v % 360) kind.Level) (fold && beyond (v % 360))

-- where azimuth v lies
unfoldable pub spot_of : List ℕ → ℕ → ℕ → Point
spot_of numbers peak v = point_of v (radius_of peak (get_or numbers (v % 360) 0))

-- a letter with the point's coordinates
unfoldable pub coordinates : List ℕ → Point → List ℕ
coordinates letter p = whole letter p.x ++ whole (quoted " ") p.y

-- a line to the point; a stroke that starts here moves to it first
unfoldable pub piece : Bool → Point → List ℕ
piece fresh p = cond fresh (coordinates (quoted " M ") p) [] ++ coordinates (quoted " L ") p

-- the piece of an azimuth, if it is drawn, and whether the one before it is
unfoldable pub step : Bool → Bool → Point → List ℕ
step here earlier p = cond here (piece (not earlier) p) []

-- whether the azimuth before v is drawn
unfoldable pub before : (ℕ → Bool) → ℕ → Bool
before d zero = false
before d (suc v) = d v

-- the pieces of the azimuths below n that are drawn
unfoldable pub pieces_to : (ℕ → Bool) → (ℕ → Point) → ℕ → List ℕ
pieces_to d spot zero = []
pieces_to d spot (suc v) = pieces_to d spot v ++ step (d v) (before d v) (spot v)

-- a stroke, after the words that open it
unfoldable pub stroke_text : List ℕ → List ℕ → List Kind → Bool → ℕ → Stroke → List ℕ
stroke_text opening numbers kinds fold peak s =
    opening ++ pieces_to (drawn kinds fold s) (spot_of numbers peak) 361 ++ quoted "'/>\n"

-- the curve, black; what is folded, grey; the floors, dashed
unfoldable pub curve_text : List ℕ → List Kind → Bool → ℕ → List ℕ
curve_text numbers kinds fold peak =
    quoted "<g fill='none' stroke='#000' stroke-width='40' stroke-linecap='round' stroke-linejoin='round'>\n"
    ++ stroke_text (quoted "<path d='") numbers kinds fold peak stroke.Levels
    ++ stroke_text (quoted "<path stroke='#999' d='") numbers kinds fold peak stroke.Folded
    ++ stroke_text (quoted "<path stroke-dasharray='50 90' d='") numbers kinds fold peak stroke.Floors
    ++ quoted "</g>\n"

-- whether one of the azimuths below n is a floor
unfoldable pub floor_below : List Kind → ℕ → Bool
floor_below kinds zero = false
floor_below kinds (suc v) = floor_below kinds v || is_floor (get_or kinds v kind.Level)

unfoldable pub has_floor : List Kind → Bool
has_floor kinds = floor_below kinds 360
