-- What the reader answers: the station, or the first mistake. Definitions only.
use Rattle.std.specs.Prelude.{ℕ, not, cond, List, ◌++◌, eqb, length, Float, Option, Some, None, Result, Ok, Err}
use Rattle.std.specs.Float.{binary32}
use Rattle.std.specs.Float.Ieee.{to_bits}
use Rattle.answers.specs.declared.Refusal.TheVariants.{Space}
use Rattle.words.specs.Digits.{digits}
use Rattle.station.specs.Record.{record_of}
use Rattle.fields.specs.declared.Kind.{Kind}
use Rattle.card.specs.declared.mistakes.Mistake.{Mistake}
use Rattle.card.specs.declared.NoStation.{NoStation}
use Rattle.card.specs.declared.NoStation.TheVariants.{Mistaken, Refused}
use Rattle.card.specs.declared.Reading.{Reading}
use Rattle.card.specs.Card.{Card, card_of}
use Rattle.card.specs.Kind.{kind_in}
use Rattle.card.specs.Mistakes.{card_mistake}
use Rattle.card.specs.Places.{placed, station_in}

unfoldable pub accepted : Kind → Card → Reading
accepted kind card =
    record {
      station = station_in kind card;
      mhz = placed kind card 56;
      design = placed kind card 57;
      elevation = placed kind card 58;
    }

-- the station, unless there is a mistake
abbrev pub unless : Option Mistake → Reading → Result Reading Mistake
unless None reading = Ok reading
unless (Some m) reading = Err m

unfoldable pub read_card : Kind → Card → Result Reading Mistake
read_card kind card = unless (card_mistake kind card) (accepted kind card)

unfoldable pub read_of : List ℕ → Result Reading Mistake
read_of text = let card = card_of text in read_card (kind_in card) card

-- ---- the station's 237 bytes: the record of edition 0, then operating MHz, design MHz and elevation

abbrev pub float_bytes : Float → List ℕ
float_bytes x = digits 256 4 (to_bits binary32 x)

unfoldable pub bytes_of : Reading → List ℕ
bytes_of r = record_of 0 r.station ++ (float_bytes r.mhz ++ (float_bytes r.design ++ float_bytes r.elevation))

-- a mistake is why there is no station
abbrev pub mistaken : Mistake → NoStation
mistaken m = Mistaken m

-- the station's bytes are written; after a mistake the lent ones stay
abbrev pub written : Result Reading Mistake → List ℕ → Result (Unit {0}) NoStation × List ℕ
written (Ok r) lent = (Ok tt, bytes_of r)
written (Err m) lent = (Err (mistaken m), lent)

-- the answer and the lent bytes afterwards
unfoldable pub written_of : List ℕ → List ℕ → Result (Unit {0}) NoStation × List ℕ
written_of text lent = cond (not (eqb (length lent) 237)) (Err (Refused Space), lent) (written (read_of text) lent)
