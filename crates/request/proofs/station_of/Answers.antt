-- `request::station_of` meets its contract: the record's bytes are there.
use Rattle.std.proofs.Common.{sym, arith, length-take-le}
use Rattle.request.proofs.station_of.Goals as goal

pub slice_bounds-read-end : goal.slice_bounds-read-end
slice_bounds-read-end c = sym (length-take-le 225 c.args.input.now (omega arith))
