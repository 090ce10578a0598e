-- `station_in`, a place a turn: the places so far are filled. Assumes nothing.
use mathlib.Core.Path.{◌≡◌}
use Rattle.floats.specs.Filled.{filled_to}
use Rattle.station.specs.Record.{station_of}
use Rattle.card.specs.Card.{card_of}
use Rattle.card.specs.Places.{placed}
use Rattle.card.proofs.places.station_in.Given as goal

abbrev pub invariant-loop-p : goal.invariant-loop-p
invariant-loop-p l = l.station ≡ station_of l.kind.mode (filled_to (placed l.kind (card_of l.text)) 56 l.p)
