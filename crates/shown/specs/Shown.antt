-- Issue 27: the plate that `--dbi` and `--svg` show, of the 237 bytes that `plate` reads. Definitions only.
use Rattle.std.specs.Prelude.{ℕ, cond, List, eqb}
use Rattle.answers.specs.Outcome.{Outcome}
use Rattle.words.specs.Floats.{float_at}
use Rattle.station.specs.declared.Station.{Station}
use Rattle.request.specs.Request.{and_then, station_in}
use Rattle.shown.specs.Plate.{Entry}
use Rattle.shown.specs.StationPlate.{station_plate}
use Rattle.shown.specs.CurtainPlate.{curtain_plate}

-- of a record that was read: mode 3 is the curtain's
unfoldable pub read_plate : List ℕ → Station → Outcome (List Entry)
read_plate input s = cond (eqb s.mode 3) (curtain_plate s (float_at input 225) (float_at input 229) (float_at input 233)) (station_plate input)

unfoldable pub shown_of : List ℕ → Outcome (List Entry)
shown_of input = and_then (station_in input) (read_plate input)
