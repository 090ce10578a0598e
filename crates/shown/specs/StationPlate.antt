-- Document 01, "Program `plate`": a station's gains, by the steps of `plate`. Definitions only.
use Rattle.std.specs.Prelude.{ℕ, List, Float}
use Rattle.floats.specs.Ops.{count}
use Rattle.answers.specs.Outcome.{Outcome}
use Rattle.model.specs.Table.{table_size, blank_table}
use Rattle.answers.specs.declared.Kind.{Kind}
use Rattle.antenna.specs.Gain.{gain_of}
use Rattle.plate_row.specs.Row.{row_of}
use Rattle.request.specs.declared.Request.{Request}
use Rattle.request.specs.Request.{and_then, request_of, table_after}
use Rattle.shown.specs.Plate.{Entry, plate_of}

-- what `ccirgain` answers at an azimuth, at the elevation that is asked for
abbrev pub gain_at : Request → List Float → ℕ → Outcome (Kind × Float)
gain_at q t v = gain_of q.antenna t q.elevation (count v) q.giso

-- the row, which says what is refused, then its gains
unfoldable pub row_plate : Request → List Float → Outcome (List Entry)
row_plate q t = and_then (row_of q.antenna t q.elevation q.giso 360) λ (front_to_back : Float). plate_of (gain_at q t)

-- the steps before it, with a table of its own
unfoldable pub station_plate : List ℕ → Outcome (List Entry)
station_plate input = and_then (request_of input table_size) λ (q : Request). row_plate q (table_after input blank_table)
