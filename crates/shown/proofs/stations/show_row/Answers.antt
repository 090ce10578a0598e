-- `shown::stations::show_row` meets its contract. Assumes nothing.
use mathlib.Core.Path.{◌≡◌, sym, ◌∙◌}
use Rattle.std.proofs.Common.{Err, rules}
use Rattle.antenna_laws.proofs.RowGains.{accepted_row_gains}
use Rattle.request.specs.Request.{and_then}
use Rattle.plate_text.proofs.Asked.{row_refused, row_there}
use Rattle.shown.specs.Plate.{gain_in}
use Rattle.shown.specs.StationPlate.{gain_at, row_plate}
use Rattle.shown.proofs.Plates.{plate_of_gains}
use Rattle.shown.proofs.stations.show_row.Goals as goal

pub returns-in_err-numbers : goal.returns-in_err-numbers
unfolding row_plate and_then
returns-in_err-numbers c =
    let a = c.args in
    let out : c.from_residual.result ≡ Err c.in_err-numbers.field-0.0 = search rules in
    rw (out, row_refused a.q a.table.now _ c.asked_row.ensures _ c.in_err-numbers.was)

pub returns : goal.returns
unfolding row_plate and_then
returns c =
    let q = c.args.q in
    let t = c.args.table.now in
    let there = row_there q t _ c.asked_row.ensures _ c.in_ok-numbers.was in
    c.in_hundredths.ensures
    ∙ sym
    (rw there.accepts
    (plate_of_gains (gain_at q t) (gain_in c.kinds_of.result c.in_ok-numbers.numbers)
    λ v h. accepted_row_gains q.antenna t q.elevation q.giso there.accepts v h ∙ rw (there.own, c.kinds_of.ensures v h)))
