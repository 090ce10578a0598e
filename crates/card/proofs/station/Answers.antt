-- `station`: what a card reads to can be written. Assumes nothing.
use mathlib.Core.Path.{sym, ◌∙◌}
use Rattle.card.proofs.Sound.{read_writable}
use Rattle.card.proofs.station.Goals as goal

pub put_bytes-requires : goal.put_bytes-requires
put_bytes-requires c = (c.if-out-ne237.false, read_writable c.args.text.now (sym c.read.ensures ∙ c.in_ok-reading.was))
