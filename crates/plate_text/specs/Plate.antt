-- Document 01, "Program `plate`": the text for its input. Definitions only.
use Rattle.std.specs.Prelude.{ℕ, cond, List, [], get_or, ltb, Float}
use Rattle.std.specs.Float.{nan}
use Rattle.floats.specs.Ops.{count}
use Rattle.answers.specs.Outcome.{Outcome, accepted}
use Rattle.model.specs.Table.{table_size, blank_table}
pub use Rattle.words.specs.Writing.{Wrote}
use Rattle.answers.specs.declared.Kind.{Kind}
use Rattle.antenna.specs.Gain.{graded, gain_of}
use Rattle.plate_row.specs.Row.{row_of, numbers_of}
use Rattle.request.specs.declared.Request.{Request}
use Rattle.request.specs.Request.{and_then, request_of, table_after}
use Rattle.text.specs.Lines.{printed, lines_to}

-- what `ccirgain` answers at an azimuth, at the elevation that is asked for
abbrev pub gain_at : Request → List Float → ℕ → Outcome (Kind × Float)
gain_at q t v = gain_of q.antenna t q.elevation (count v) q.giso

-- the last step, the row: 360 lines (`ccirgain` refuses none of an accepted row: `accepted_row_gains` of `antenna_laws`)
unfoldable pub row_text : Request → List Float → List ℕ
row_text q t = printed (row_of q.antenna t q.elevation q.giso 360) λ (x : Float). lines_to (gain_at q t) 360

-- the steps before it, with a table of its own
unfoldable pub plate_text : List ℕ → List ℕ
plate_text input = printed (request_of input table_size) λ (q : Request). row_text q (table_after input blank_table)

-- what is written into a buffer of room bytes: all of the text, or nothing where there are under 8,192
unfoldable pub text_in : ℕ → List ℕ → List ℕ
text_in room input = cond (ltb room 8192) [] (plate_text input)

-- ---- the code's steps, proved equal: the numbers of the row that is asked for, and the answer by a row's number

unfoldable pub row_numbers : Request → List Float → Outcome (List Float)
row_numbers q t =
    and_then (row_of q.antenna t q.elevation q.giso 360) λ (front_to_back : Float). accepted (numbers_of q.antenna t q.elevation q.giso)

abbrev pub graded_at : Float → List Float → ℕ → Outcome (Kind × Float)
graded_at z6 row v = graded z6 (get_or row v nan)
