-- `shown::stations::show_station` meets its contract. Assumes nothing.
use mathlib.Core.Path.{◌≡◌}
use Rattle.std.proofs.Common.{Err, rules}
use Rattle.request.specs.Request.{and_then}
use Rattle.plate_text.proofs.Asked.{request_refused, request_there}
use Rattle.shown.specs.StationPlate.{station_plate}
use Rattle.shown.proofs.stations.show_station.Goals as goal

pub returns-in_err-request : goal.returns-in_err-request
unfolding station_plate and_then
returns-in_err-request c =
    let answered = rw c.blank_table-table.ensures at c.prepare.ensures.result_value in
    let out : c.from_residual.result ≡ Err c.in_err-request.field-0.0 = search rules in
    rw (out, request_refused c.args.input.now _ answered _ c.in_err-request.was)

pub returns : goal.returns
unfolding station_plate and_then
returns c =
    let answered = rw c.blank_table-table.ensures at c.prepare.ensures.result_value in
    rw (request_there c.args.input.now _ answered _ c.in_ok-request.was, ← c.blank_table-table.ensures, ← c.prepare.ensures.table_after) c.show_row.ensures
