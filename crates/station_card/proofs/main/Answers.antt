-- `main`: what was written lies in its buffer. Assumes nothing.
use mathlib.Core.Path.{sym}
use lib.Seq.{length-take-le}
use Rattle.card_back.proofs.Laws.{written-within}
use Rattle.station_card.proofs.main.Goals as goal

pub slice_bounds-card-end : goal.slice_bounds-card-end
slice_bounds-card-end c = written-within _ _ _ c.in-Ok.end c.in-Ok.ensures

pub slice_bounds-write_all-end : goal.slice_bounds-write_all-end
slice_bounds-write_all-end c = sym (length-take-le _ _ (written-within _ _ _ c.in-Ok.end c.in-Ok.ensures))
