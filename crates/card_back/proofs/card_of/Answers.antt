-- `card_of`, by what the record's reader answers. Assumes nothing.
use mathlib.Core.Path.{sym, ◌∙◌}
use native.Mathlib.Omega.{arith}
use lib.Seq.{length-take-le}
use Rattle.card_back.proofs.Sound.{sound}
use Rattle.card_back.proofs.Steps.{not-long, no_record, no_number, station_delivered}
use Rattle.card_back.proofs.card_of.Goals as goal

pub returns-then-station-ne237 : goal.returns-then-station-ne237
returns-then-station-ne237 c = let a = c.args in not-long a.station.now a.out.now c.if-station-ne237.true

pub slice_bounds-read-end : goal.slice_bounds-read-end
slice_bounds-read-end c = sym (length-take-le 225 c.args.station.now (omega arith))

pub returns-then-not-finite_end : goal.returns-then-not-finite_end
returns-then-not-finite_end c =
    let a = c.args in
    no_number a.station.now a.out.now c.if-station-ne237.false c.in-Ok.record c.in-Ok.ensures (sym c.finite_end.ensures ∙ c.if-not-finite_end.true)

pub write_card-requires : goal.write_card-requires
write_card-requires c =
    let a = c.args in
    sound c.in-Ok.record a.station.now c.if-station-ne237.false (sym c.in-Ok.ensures) (sym c.finite_end.ensures ∙ c.if-not-finite_end.false)

pub returns-in_default : goal.returns-in_default
returns-in_default c = let a = c.args in no_record a.station.now a.out.now c.if-station-ne237.false c.read.result c.in_default.not-Ok c.read.ensures

pub returns : goal.returns
returns c =
    let a = c.args in
    c.write_card.ensures ∙ sym (station_delivered a.station.now a.out.now c.if-station-ne237.false c.in-Ok.record c.in-Ok.ensures (sym c.finite_end.ensures ∙ c.if-not-finite_end.false))
