-- Remarks on a plate, a line each: from the 237 bytes that `plate` reads, by its steps. Definitions only.
use Rattle.std.specs.Prelude.{ℕ, Bool, false, cond, not, ◌&&◌, List, [], ◌∷◌, ◌++◌, ltb, eqb, Float}
use Rattle.quoted.specs.Quoted.{quoted}
use Rattle.numerals.specs.Numeral.{numeral}
use Rattle.floats.specs.Ops.{◌⊘◌}
use Rattle.answers.specs.Outcome.{Outcome, refused, accepted}
use Rattle.model.specs.Types.{jant_of}
use Rattle.model.specs.Limits.{slot}
use Rattle.model.specs.Table.{table_size, blank_table}
use Rattle.interpolation.specs.Interpolation.{ratio_ok}
use Rattle.station.specs.declared.Station.{Station}
use Rattle.answers.specs.declared.Kind.{Kind}
use Rattle.plate_row.specs.Row.{row_of}
use Rattle.request.specs.declared.Request.{Request}
use Rattle.request.specs.Request.{station_in, request_of, table_after}
use Rattle.plate_text.specs.Plate.{gain_at}
use Rattle.remarks.specs.Directions.{floors_to, relative_at, limits_to}

-- LF
abbrev pub newline : List ℕ
newline = 10 ∷ []

-- ---- the sentences

unfoldable pub band_remark : Bool → List ℕ
band_remark off = cond off (quoted "all 360 directions are a floor: MHz is off the design band" ++ newline) []

unfoldable pub directions : ℕ → List ℕ
directions n = cond (eqb n 1) (quoted " direction is") (quoted " directions are")

unfoldable pub limit_line : ℕ → List ℕ
limit_line n = numeral n ++ directions n ++ (quoted " at the limit of 30 dB below the peak: the gain there is that or less" ++ newline)

-- of n directions at the limit, where there are any
unfoldable pub limit_remark : ℕ → List ℕ
limit_remark n = cond (eqb n 0) [] (limit_line n)

-- ---- off the design band

-- a station of mode 1 has its maximum gain by the ratio of operating to design MHz
unfoldable pub by_ratio : Outcome Station → Bool
by_ratio (refused n) = false
by_ratio (accepted s) = eqb s.mode 1

-- slots 4 and 7 have the two MHz as set-up got them; outside the ratios that three gains cover the maximum gain is -30 (`off_band_gain`)
unfoldable pub off_band : List Float → Bool
off_band parm = not (ratio_ok (jant_of (slot parm 1)) (slot parm 4 ⊘ slot parm 7))

-- ---- the remarks

-- on the answers at azimuths 0 to 359, with those below the peak
unfoldable pub row_remarks : Bool → (ℕ → Outcome (Kind × Float)) → (ℕ → Outcome (Kind × Float)) → List ℕ
row_remarks off answers relative = band_remark (off && floors_to answers 360) ++ limit_remark (limits_to answers relative 360)

-- on what was accepted; a refusal has none
unfoldable pub remarked : {A : Type 0} → Outcome A → (A → List ℕ) → List ℕ
remarked (refused number) text = []
remarked (accepted x) text = text x

-- the last step of `plate`, the row
unfoldable pub plate_remarks : Bool → Request → List Float → List ℕ
plate_remarks ratio q t =
    remarked (row_of q.antenna t q.elevation q.giso 360) λ (x : Float). row_remarks (ratio && off_band q.parm) (gain_at q t) (relative_at q t)

-- the steps before it, with a table of its own
unfoldable pub remarks_of : List ℕ → List ℕ
remarks_of input = remarked (request_of input table_size) λ (q : Request). plate_remarks (by_ratio (station_in input)) q (table_after input blank_table)

-- what is written into a buffer of room bytes: all remarks, or nothing where there are under 256
unfoldable pub remarks_in : ℕ → List ℕ → List ℕ
remarks_in room input = cond (ltb room 256) [] (remarks_of input)
