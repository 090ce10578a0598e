-- The card of a station's 237 bytes, or that it has none. Definitions only.
use Rattle.std.specs.Prelude.{ℕ, Bool, false, cond, ◌&&◌, List, eqb, ltb, length, take, Result, Ok, Err}
use Rattle.std.specs.Float.Ieee.Scale.{finite}
use Rattle.answers.specs.Outcome.{Outcome, refused, accepted}
use Rattle.answers.specs.Refusals.{RECORD, SPACE}
use Rattle.words.specs.Floats.{float_at}
use Rattle.words.specs.Laid.{laid}
use Rattle.lines.specs.Alike.{alike}
use Rattle.station.specs.declared.Station.{Station}
use Rattle.station.specs.Answers as station
use Rattle.card.specs.declared.Reading.{Reading}
use Rattle.card.specs.declared.mistakes.Mistake.{Mistake}
use Rattle.card.specs.Reading.{read_of, bytes_of}
use Rattle.card_back.specs.Text.{kind_of, place_in, text_of}

-- the reader makes these bytes of a text
abbrev pub makes : Result Reading Mistake → List ℕ → Bool
makes (Ok r) bytes = alike (bytes_of r) bytes
makes (Err m) bytes = false

unfoldable pub reads : List ℕ → List ℕ → Bool
reads text bytes = makes (read_of text) bytes

-- a text is the card of the bytes that it reads to, and of no others. It reads to others where a place that no field names isn't what cards leave there, or MHz differs from its slot; where a limit is broken to none.
unfoldable pub read_back : List ℕ → List ℕ → Outcome (List ℕ)
read_back text bytes = cond (reads text bytes) (accepted text) (refused RECORD)

-- the three floats behind the record
unfoldable pub finite_end : List ℕ → Bool
finite_end bytes = finite (float_at bytes 225) && finite (float_at bytes 229) && finite (float_at bytes 233)

-- the card of bytes with this record
unfoldable pub station_card : Station → List ℕ → Outcome (List ℕ)
station_card s bytes = cond (finite_end bytes) (read_back (text_of (kind_of s) (place_in s bytes)) bytes) (refused RECORD)

unfoldable pub record_card : Outcome Station → List ℕ → Outcome (List ℕ)
record_card (refused n) bytes = refused RECORD
record_card (accepted s) bytes = station_card s bytes

-- refusal 1 where these aren't a station's bytes, or the text of that station doesn't read to them; else that text
unfoldable pub card_of : List ℕ → Outcome (List ℕ)
card_of bytes = cond (eqb (length bytes) 237) (record_card (station.read_of (take 225 bytes)) bytes) (refused RECORD)

-- the card's length and the lent bytes afterwards: refusal 8 where they are under 8,192, else the card over the first of them. A refusal leaves them as they were.
unfoldable pub delivered_to : List ℕ → Outcome (List ℕ) → Outcome ℕ × List ℕ
delivered_to lent (refused n) = (refused n, lent)
delivered_to lent (accepted text) = cond (ltb (length lent) 8192) (refused SPACE, lent) (accepted (length text), laid lent 0 text)

unfoldable pub back_of : List ℕ → List ℕ → Outcome ℕ × List ℕ
back_of bytes lent = delivered_to lent (card_of bytes)
